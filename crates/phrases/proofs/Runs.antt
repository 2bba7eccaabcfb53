-- A value and a FROM at a place, by the tokens that stand there.
use mathlib.Core.Path.{◌≡◌, refl}
use mathlib.Core.List.{[]}
use mathlib.Core.Option.{none}
use Prim.Native.Nat.{ℕ, ◌+◌}
use native.Mathlib.Omega.{arith}
use lib.IntN.{ℤ}
use Rattle.rule.specs.Tokens.{FROM, WHERE, Point}
use Rattle.rule.specs.declared.Token.{Token}
use Rattle.rule.specs.declared.Token.TheVariants.{Fixed, Compares, Letter, Number}
use Rattle.rule.specs.declared.FromClause.TheVariants.{Single}
use Rattle.rule.specs.declared.WrittenValue.TheVariants.{Plain, Named}
use Rattle.rule.specs.declared.Source.TheVariants.{Over}
use Rattle.rule.specs.Grammar.{Tokens}
use Rattle.rule.specs.Reader.{expect, read_number, read_letter, read_value, read_from}
use Rattle.phrases.specs.Code.{tokens_from, Stands, ValueIs, FromIs}
use Rattle.phrases.proofs.Tokens.{here_to, moved_to}

-- ---- a value

module _ (s : Tokens) (at : ℕ) where
  pub no_value_at_end : tokens_from s at ≡ [] → read_value (tokens_from s at) ≡ none
  unfolding read_value
  no_value_at_end e = rw e

  pub plain_value : (n : ℤ) → Stands s at (Number n) → ValueIs s at (Plain n) (at + 1)
  unfolding read_value
  plain_value n h = record { found = rw h.here; moved = moved_to (at + 1) (omega arith) refl h }

  pub no_value : (t : Token) → Stands s at t → ((n : ℤ) → t ≡ Number n → ⊥) → ((x : ℕ) → t ≡ Letter x → ⊥) → read_value (tokens_from s at) ≡ none
  unfolding read_value
  no_value (Fixed k) h f g = rw h.here
  no_value (Compares op) h f g = rw h.here
  no_value (Letter x) h f g = absurd (g x refl)
  no_value (Number n) h f g = absurd (f n refl)

  module _ (x : ℕ) (h : Stands s at (Letter x)) where
    pub no_point : expect Point (tokens_from s (at + 1)) ≡ none → read_value (tokens_from s at) ≡ none
    unfolding read_value
    no_point e = rw (h.here, e)

    module _ (p : Stands s (at + 1) Point) where
      pub no_column : read_number (tokens_from s (at + 2)) ≡ none → read_value (tokens_from s at) ≡ none
      unfolding read_value expect
      no_column e = rw (h.here, here_to (at + 2) (omega arith) p, e)

      pub named_value : (n : ℤ) → Stands s (at + 2) (Number n) → ValueIs s at (Named x n) (at + 3)
      unfolding read_value expect read_number
      named_value n k = record {
        found = rw (h.here, here_to (at + 2) (omega arith) p, here_to (at + 3) (omega arith) k);
        moved = moved_to (at + 3) (omega arith) (omega arith) k;
      }

-- ---- FROM number letter WHERE

module _ (s : Tokens) (at : ℕ) where
  pub no_from : expect FROM (tokens_from s at) ≡ none → read_from (tokens_from s at) ≡ none
  unfolding read_from
  no_from e = rw e

  module _ (h : Stands s at FROM) where
    pub no_table : read_number (tokens_from s (at + 1)) ≡ none → read_from (tokens_from s at) ≡ none
    unfolding read_from expect
    no_table e = rw (h.here, e)

    module _ (n : ℤ) (k : Stands s (at + 1) (Number n)) where
      pub no_alias : read_letter (tokens_from s (at + 2)) ≡ none → read_from (tokens_from s at) ≡ none
      unfolding read_from expect read_number
      no_alias e = rw (h.here, here_to (at + 2) (omega arith) k, e)

      module _ (x : ℕ) (l : Stands s (at + 2) (Letter x)) where
        pub no_where : expect WHERE (tokens_from s (at + 3)) ≡ none → read_from (tokens_from s at) ≡ none
        unfolding read_from expect read_number read_letter
        no_where e = rw (h.here, here_to (at + 2) (omega arith) k, here_to (at + 3) (omega arith) l, e)

        pub a_from : Stands s (at + 3) WHERE → FromIs s at (Single (Over n x)) (at + 4)
        unfolding read_from expect read_number read_letter
        a_from w = record {
          found = rw (h.here, here_to (at + 2) (omega arith) k, here_to (at + 3) (omega arith) l, here_to (at + 4) (omega arith) w);
          moved = moved_to (at + 4) (omega arith) (omega arith) w;
        }

-- what read_value and read_from answer
pub ruleset value_rules = (no_value_at_end, plain_value, no_value, no_point, no_column, named_value)

pub ruleset from_rules = (no_from, no_table, no_alias, no_where, a_from)
