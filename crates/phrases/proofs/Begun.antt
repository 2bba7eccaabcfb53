-- How a list begins at a place, by the tokens that stand there.
use mathlib.Core.Path.{◌≡◌, refl}
use mathlib.Core.Option.{none}
use Prim.Native.Nat.{ℕ, ◌+◌}
use native.Mathlib.Omega.{arith}
use Rattle.tables.specs.declared.Comparison.{Comparison}
use Rattle.tables.specs.declared.Quantifier.{Quantifier}
use Rattle.rule.specs.Tokens.{SELECT, Open}
use Rattle.rule.specs.Condition.{letters, parts, froms_deep}
use Rattle.rule.specs.declared.FromClause.{FromClause}
use Rattle.rule.specs.declared.FromClause.TheVariants.{Single}
use Rattle.rule.specs.declared.Head.TheVariants.{ListedHead}
use Rattle.rule.specs.declared.Source.{Source}
use Rattle.rule.specs.declared.WrittenValue.{WrittenValue}
use Rattle.rule.specs.Grammar.{Tokens}
use Rattle.rule.specs.Reader.{expect, read_value, read_from, OfList, start_list}
use Rattle.phrases.specs.Code.{tokens_from, noted, Stands, ValueIs, FromIs, AroundIs}
use Rattle.phrases.proofs.Tokens.{here_to}

-- a FROM binds one letter
pub one_letter : (f : FromClause Source) → letters f ≡ 1
one_letter (Single x) = refl

module _ (s : Tokens) (at : ℕ) (q : Quantifier) (op : Comparison) (l : WrittenValue) where
  pub no_open : expect Open (tokens_from s at) ≡ none → start_list q op l (tokens_from s at) ≡ none
  unfolding start_list
  no_open e = rw e

  module _ (h : Stands s at Open) where
    pub no_select : expect SELECT (tokens_from s (at + 1)) ≡ none → start_list q op l (tokens_from s at) ≡ none
    unfolding start_list expect
    no_select e = rw (h.here, e)

    module _ (k : Stands s (at + 1) SELECT) where
      pub no_listed : read_value (tokens_from s (at + 2)) ≡ none → start_list q op l (tokens_from s at) ≡ none
      unfolding start_list expect
      no_listed e = rw (h.here, here_to (at + 2) (omega arith) k, e)

      module _ (r : WrittenValue) (behind : ℕ) (v : ValueIs s (at + 2) r behind) where
        pub no_source : read_from (tokens_from s behind) ≡ none → start_list q op l (tokens_from s at) ≡ none
        unfolding start_list expect
        no_source e = rw (h.here, here_to (at + 2) (omega arith) k, v.found, e)

        pub a_list : (f : FromClause Source) (next : ℕ) → FromIs s behind f next → AroundIs s at (start_list q op l (tokens_from s at)) (ListedHead q op l r f) next
        unfolding start_list expect noted parts froms_deep
        a_list f next g = record {
          opening = OfList q op l r f;
          found = rw (h.here, here_to (at + 2) (omega arith) k, v.found, g.found);
          notes = λ w. refl;
          one = λ w. refl;
          deeper = λ w. rw (one_letter f);
          untested = λ a rest. refl;
          moved = record { later = omega (arith, v.moved.later, g.moved.later); within = g.moved.within };
        }

-- what start_list answers
pub ruleset list_rules = (no_open, no_select, no_listed, no_source, a_list)
