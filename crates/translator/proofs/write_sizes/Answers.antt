use mathlib.Core.Path.{refl, sym, ◌∙◌}
use native.Mathlib.Omega.{arith}
use lib.ListN.{length-set}
use Rattle.tables.specs.Tables.{columns_of}
use Rattle.tables.proofs.Placed.{copied_none, copied_more, copied_all}
use Rattle.tables.proofs.Sizes.{column_at, columns_count}
use Rattle.translator.proofs.Sizes.{put_length, sizes_placed}
use Rattle.translator.proofs.write_sizes.Goals as goal

pub loop-j-init : goal.loop-j-init
loop-j-init c =
    let long = put_length c.args.out.now c.put16.new.bytes c.args.entries (omega arith) c.put16.ensures in
    copied_none _ _ _

pub loop-j-preserved : goal.loop-j-preserved
loop-j-preserved c =
    let file = c.args.file.now in
    let column = c.table_columns.ensures.is ∙ sym (column_at file c.loop-j.j (omega arith)) in
    let long = put_length c.args.out.now c.put16.new.bytes c.args.entries (omega arith) c.put16.ensures in
    copied_more c.loop-j.invariant 0 _ column refl (omega (arith, simp length-set at c.loop-j.auto.out, long)) (omega (arith, columns_count file))

pub returns : goal.returns
returns c =
    let columns = columns_of c.args.file.now in
    let count = columns_count c.args.file.now in
    let all = copied_all c.loop-j.invariant (omega arith) in
    sizes_placed c.args.out.now c.put16.new.bytes c.loop-j.out columns c.args.entries c.byte-tables.result (omega arith) (c.byte-tables.ensures.is ∙ sym count) c.put16.ensures all
