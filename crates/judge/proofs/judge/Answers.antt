-- `judge::judge` meets its contract: it reads the rule, finds the row, and evaluates the whole rule there.
use mathlib.Core.Path.{refl}
use native.Mathlib.Omega.{arith}
use Rattle.judge.proofs.Calls.{judge_refused, file_sized, judge_no_row, judge_room, whole_rule, judge_given}
use Rattle.judge.proofs.judge.Goals as goal

pub returns-in_default : goal.returns-in_default
returns-in_default c = judge_refused _ _ _ c.parse-parsed.result _ _ c.parse-parsed.ensures.answer c.in_default.is c.refusal.ensures

pub layout_of-layout-requires : goal.layout_of-layout-requires
layout_of-layout-requires c = file_sized c.args.text.now _ c.args.row c.parse-parsed.result c.parse-parsed.new.parts _ _ c.parse-parsed.ensures.parsed c.in-Rule.is

pub returns-then-table-row : goal.returns-then-table-row
returns-then-table-row c =
    judge_no_row _ _ _ c.parse-parsed.result c.parse-parsed.new.parts _ _ c.parse-parsed.ensures.parsed c.in-Rule.is _ c.layout_of-layout.ensures.places c.table_place-table.ensures c.if-table-row.true

pub overflow_mul-w : goal.overflow_mul-w
overflow_mul-w c =
    let args = c.args in
    omega (arith, judge_room args.text.now args.file.now args.row c.parse-parsed.result c.parse-parsed.new.parts _ _ c.parse-parsed.ensures.parsed c.in-Rule.is _ c.layout_of-layout.ensures.places c.table_place-table.ensures c.if-table-row.false)

pub evaluate_part-requires : goal.evaluate_part-requires
evaluate_part-requires c =
    whole_rule _ _ _ c.parse-parsed.result c.parse-parsed.new.parts _ _ c.parse-parsed.ensures.parsed c.in-Rule.is _ c.layout_of-layout.ensures.places c.table_place-table.ensures c.if-table-row.false _ refl refl refl

pub returns : goal.returns
returns c =
    judge_given _ _ _ c.parse-parsed.result c.parse-parsed.new.parts _ _ c.parse-parsed.ensures.parsed c.in-Rule.is _ c.layout_of-layout.ensures.places c.table_place-table.ensures c.if-table-row.false _ refl refl refl c.evaluate_part.result c.evaluate_part.ensures
