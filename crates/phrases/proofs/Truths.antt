-- What read_truth and read_truth_test find at a place, by the tokens that stand there.
use mathlib.Core.Path.{◌≡◌}
use mathlib.Core.Option.{none, some}
use Prim.Native.Nat.{ℕ, ◌+◌}
use native.Mathlib.Omega.{arith}
use Rattle.tables.specs.Lists.{◌>>=◌}
use Rattle.rule.specs.declared.Truth.{Truth}
use Rattle.rule.specs.declared.Truth.TheVariants.{False, Unknown, True}
use Rattle.rule.specs.Tokens.{NOT, TRUE, FALSE, UNKNOWN}
use Rattle.rule.specs.declared.Token.TheVariants.{Fixed}
use Rattle.rule.specs.declared.Unary.TheVariants.{Is, IsNot}
use Rattle.rule.specs.declared.Word.{Word}
use Rattle.rule.specs.declared.Word.TheVariants.{True as TrueWord, False as FalseWord, Unknown as UnknownWord}
use Rattle.rule.specs.Grammar.{Tokens}
use Rattle.rule.specs.Reader.{expect, read_truth, read_truth_test}
use Rattle.phrases.specs.Code.{tokens_from, Stands, TruthStands, TruthIs}
use Rattle.phrases.proofs.Tokens.{expect_to, expect_other}

module _ (s : Tokens) (at : ℕ) where
  -- ---- a word

  pub a_true : Stands s at TRUE → TruthStands s at True
  unfolding read_truth expect
  a_true h = record { found = rw h.here; within = h.within }

  pub a_false : Stands s at FALSE → TruthStands s at False
  unfolding read_truth expect
  a_false h = record { found = rw h.here; within = h.within }

  pub an_unknown : Stands s at UNKNOWN → TruthStands s at Unknown
  unfolding read_truth expect
  an_unknown h = record { found = rw h.here; within = h.within }

  no_truth_by : expect TRUE (tokens_from s at) ≡ none → expect FALSE (tokens_from s at) ≡ none → expect UNKNOWN (tokens_from s at) ≡ none → read_truth (tokens_from s at) ≡ none
  unfolding read_truth
  no_truth_by d e f = rw (d, e, f)

  pub no_truth_at_end : ((w : Word) → expect (Fixed w) (tokens_from s at) ≡ none) → read_truth (tokens_from s at) ≡ none
  no_truth_at_end f = no_truth_by (f TrueWord) (f FalseWord) (f UnknownWord)

  pub no_truth : (w : Word) → Stands s at (Fixed w) → (w ≡ TrueWord → ⊥) → (w ≡ FalseWord → ⊥) → (w ≡ UnknownWord → ⊥) → read_truth (tokens_from s at) ≡ none
  no_truth w h f g k = no_truth_by (expect_other s at TrueWord w h f) (expect_other s at FalseWord w h g) (expect_other s at UnknownWord w h k)

  -- ---- behind IS: NOT, or the word at once

  module _ (h : Stands s at NOT) where
    not_first : read_truth (tokens_from s at) ≡ none
    unfolding read_truth expect
    not_first = rw h.here

    behind_not : read_truth_test (tokens_from s at) ≡ (read_truth (tokens_from s (at + 1)) >>= (λ t. some (IsNot t.0, t.1)))
    unfolding read_truth_test
    behind_not = rw (not_first, expect_to h)

    pub no_not_test : read_truth (tokens_from s (at + 1)) ≡ none → read_truth_test (tokens_from s at) ≡ none
    no_not_test e = rw (behind_not, e)

    pub a_not_test : (t : Truth) → TruthStands s (at + 1) t → TruthIs s at (IsNot t) (at + 2)
    a_not_test t k =
        let z : at + 1 + 1 ≡ at + 2 = omega arith in
        record { found = rw (behind_not, k.found, z); moved = record { later = omega arith; within = omega (arith, k.within) } }

  module _ (e : expect NOT (tokens_from s at) ≡ none) where
    pub no_test : read_truth (tokens_from s at) ≡ none → read_truth_test (tokens_from s at) ≡ none
    unfolding read_truth_test
    no_test d = rw (d, e)

    pub a_test : (t : Truth) → TruthStands s at t → TruthIs s at (Is t) (at + 1)
    unfolding read_truth_test
    a_test t k = record { found = rw k.found; moved = record { later = omega arith; within = omega (arith, k.within) } }

-- what read_truth and read_truth_test answer
pub ruleset truth_rules = (a_true, a_false, an_unknown, no_truth_at_end, no_truth)

pub ruleset test_rules = (no_not_test, a_not_test, no_test, a_test)
