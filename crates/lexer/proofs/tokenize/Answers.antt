use mathlib.Core.Path.{sym, ap, subst, ◌∙◌}
use mathlib.Core.Logic.{inl, inr}
use native.Mathlib.Omega.{arith}
use lib.ListN.{take}
use Rattle.rule.specs.declared.Token.TheVariants.{Fixed}
use Rattle.rule.specs.Grammar.{Tokens}
use Rattle.lexer.proofs.Counting.{BracketsCounted, counted_none, counted_all, Counts, step_word, step_other, counted_more}
use Rattle.lexer.proofs.Lexing.{lexed_none, one_taken, lexed_more, lexed_stop, lexed_all, token_ends}
use Rattle.lexer.proofs.tokenize.Goals as goal
use Rattle.lexer.proofs.tokenize.Goals.{in-Fixed+in-Open+then-closed-opened, in-Fixed+in-Open+else-closed-opened, in-Fixed+in-Close, in-Fixed+in_default-word, in_default}

pub loop-i-init : goal.loop-i-init
loop-i-init c = record {
  lexed = lexed_none c.args.text.now c.args.tokens.now c.skip_gaps-i.result c.requires c.skip_gaps-i.ensures;
  few_opened = omega arith;
  few_closed = omega arith;
  brackets = counted_none;
}

pub returns-in_err-token-clause-are : goal.returns-in_err-token-clause-are
returns-in_err-token-clause-are c =
    let l = c.loop-i in
    rw c.from_residual.ensures (lexed_stop c.args.text.now l.tokens _ l.count l.i l.invariant.lexed c.loop-i-test.true (rw c.in_err-token.was at c.first_token.ensures))

-- once a token is found and its bracket counted
pub skip_gaps-i-requires-in-loop-i : goal.skip_gaps-i-requires-in-loop-i
skip_gaps-i-requires-in-loop-i c =
    let l = c.loop-i in
    let ends = token_ends c.args.text.now l.tokens _ l.count l.i l.invariant.lexed _ _ c.loop-i-test.true (rw c.in_ok-token.was at c.first_token.ensures) in
    ends.1

pub loop-i-smaller : goal.loop-i-smaller
loop-i-smaller c =
    let l = c.loop-i in
    let ends = token_ends c.args.text.now l.tokens _ l.count l.i l.invariant.lexed _ _ c.loop-i-test.true (rw c.in_ok-token.was at c.first_token.ensures) in
    omega (arith, ends.0, ends.1, c.skip_gaps-i-in-loop-i.ensures)

pub loop-i-preserved : goal.loop-i-preserved
loop-i-preserved c =
    let text = c.args.text.now in
    let l = c.loop-i in
    let found = c.in_ok-token.field-0.token in
    let step = c.match-token in
    let counts : Counts found l.opened l.closed step.opened step.closed l.fit step.fit =
    elim step.branch [
      | in-Fixed+in-Open+then-closed-opened w ↦ inl (w.in-Fixed.is ∙ ap Fixed w.in-Open.is, w.if-closed-opened.true, w.opened-is, w.closed-is, w.fit-is)
      | in-Fixed+in-Open+else-closed-opened w ↦ inr (inl (w.in-Fixed.is ∙ ap Fixed w.in-Open.is, w.if-closed-opened.false, w.opened-is, w.closed-is, w.fit-is))
      | in-Fixed+in-Close w ↦ inr (inr (inl (w.in-Fixed.is ∙ ap Fixed w.in-Close.is, w.opened-is, w.closed-is, w.fit-is)))
      | in-Fixed+in_default-word w ↦ inr (inr (inr (step_word w.in-Fixed.is w.in_default-word.not-Open w.in_default-word.not-Close, w.opened-is, w.closed-is, w.fit-is)))
      | in_default w ↦ inr (inr (inr (step_other found w.in_default.not-Fixed, w.opened-is, w.closed-is, w.fit-is)))
    ] in
    let more = counted_more (take l.count l.tokens) found _ _ _ _ _ _ l.invariant.brackets counts in
    let one = one_taken text l.tokens _ l.count l.i l.invariant.lexed found c.loop-i-test.true in
    record {
      lexed = lexed_more text l.tokens _ l.count l.i l.invariant.lexed found _ c.skip_gaps-i-in-loop-i.result c.loop-i-test.true (rw c.in_ok-token.was at c.first_token.ensures) c.skip_gaps-i-in-loop-i.ensures;
      few_opened = omega (arith, more.0);
      few_closed = omega (arith, more.1);
      brackets = subst (λ (ts : Tokens). BracketsCounted ts step.opened step.closed step.fit) (sym one) more.2;
    }

pub returns-clause-are : goal.returns-clause-are
returns-clause-are c = let l = c.loop-i in lexed_all c.args.text.now l.tokens _ l.count l.i l.invariant.lexed (omega arith)

pub returns-clause-brackets : goal.returns-clause-brackets
returns-clause-brackets c = counted_all _ _ _ _ c.loop-i.invariant.brackets
