-- What start_value finds behind a value, and start at a test, by the tokens that stand there.
use mathlib.Core.Path.{◌≡◌, refl}
use mathlib.Core.List.{[]}
use mathlib.Core.Option.{Option as MathOption, none, some}
use Rattle.std.specs.Prelude.{Option, Some as Found, None}
use Prim.Native.Nat.{ℕ, ◌+◌, ◌≤◌}
use native.Mathlib.Omega.{arith}
use Rattle.tables.specs.declared.Comparison.{Comparison}
use Rattle.tables.specs.declared.Comparison.TheVariants.{Eq, Ne}
use Rattle.tables.specs.declared.Quantifier.TheVariants.{Some, All}
use Rattle.tables.specs.declared.MarkTest.{MarkTest}
use Rattle.tables.specs.declared.MarkTest.TheVariants.{Null, NotNull, IsDeclined, NotDeclined}
use Rattle.rule.specs.Tokens.{NOT, EXISTS, IN, SOME, ALL, IS, NULL, DECLINED, Open}
use Rattle.rule.specs.declared.Token.{Token}
use Rattle.rule.specs.declared.Token.TheVariants.{Fixed, Compares, Letter, Number}
use Rattle.rule.specs.declared.Word.{Word}
use Rattle.rule.specs.declared.Word.TheVariants.{Not as NotWord, In as InWord, Null as NullWord, Declined as DeclinedWord}
use Rattle.rule.specs.Condition.{Atom, parts, froms_deep}
use Rattle.rule.specs.declared.FromClause.{FromClause}
use Rattle.rule.specs.declared.Head.TheVariants.{AtomHead, ExistsHead}
use Rattle.rule.specs.declared.Source.{Source}
use Rattle.rule.specs.declared.Test.TheVariants.{Compare, Mark}
use Rattle.rule.specs.declared.WrittenValue.{WrittenValue}
use Rattle.rule.specs.Grammar.{Tokens}
use Rattle.rule.specs.Reader.{expect, read_comparison, read_value, read_from, Bracket, Start, Whole, Around, OfExists, start_value, start}
use Rattle.phrases.specs.Code.{tokens_from, noted, Moved, Stands, ValueIs, FromIs, WholeIs, AroundIs, Starts, started_whole, compared_with, FollowedAt, ListBehind, ValueBehind, TestAt}
use Rattle.phrases.specs.declared.Start.{Start as Started}
use Rattle.phrases.specs.declared.Start.TheVariants.{Whole as StartedWhole, Around as StartedAround}
use Rattle.phrases.proofs.Tokens.{here_to, moved_to, or_none, expect_other}
use Rattle.phrases.proofs.Begun.{one_letter}

-- ---- a start that is found farther on is the start here

pub earlier : {s : Tokens} {at later next : ℕ} → at ≤ later → Moved s later next → Moved s at next
earlier p m = record { later = omega (arith, m.later); within = m.within }

pub starts_as : (s : Tokens) (at later : ℕ) (found begun : MathOption Start) (r : Option Started) → at ≤ later → begun ≡ found → Starts s later found r → Starts s at begun r
starts_as s at later found begun (Found (StartedWhole note next)) p e h =
    record { whole = h.whole; found = rw (e) h.found; notes = h.notes; one = h.one; flat = h.flat; moved = earlier p h.moved }
starts_as s at later found begun (Found (StartedAround note next)) p e h =
    record { opening = h.opening; found = rw (e) h.found; notes = h.notes; one = h.one; deeper = h.deeper; untested = h.untested; moved = earlier p h.moved }
starts_as s at later found begun None p e h = rw (e) h

-- ---- behind a value: a test by the mark

module _ (l : WrittenValue) (s : Tokens) (at : ℕ) where
  a_mark : (m : MarkTest) (r : Started) (next : ℕ) → start_value l (tokens_from s at) ≡ some (Whole (Atom (Mark m l)) (tokens_from s next))
      → r ≡ started_whole (Mark m l) next → Moved s at next → FollowedAt s at l (Found r)
  unfolding noted parts froms_deep
  a_mark m r next found e d = rw (e) (record { whole = Atom (Mark m l); found = found; notes = refl; one = refl; flat = refl; moved = d })

  module _ (is : Stands s at IS) where
    no_mark_by : expect NULL (tokens_from s (at + 1)) ≡ none → expect NOT (tokens_from s (at + 1)) ≡ none → expect DECLINED (tokens_from s (at + 1)) ≡ none
        → start_value l (tokens_from s at) ≡ none
    unfolding start_value expect read_comparison
    no_mark_by d e f = rw (is.here, d, e, f)

    pub no_mark_at_end : ((w : Word) → expect (Fixed w) (tokens_from s (at + 1)) ≡ none) → start_value l (tokens_from s at) ≡ none
    no_mark_at_end f = no_mark_by (f NullWord) (f NotWord) (f DeclinedWord)

    pub no_mark : (w : Word) → Stands s (at + 1) (Fixed w) → (w ≡ NullWord → ⊥) → (w ≡ DeclinedWord → ⊥) → (w ≡ NotWord → ⊥) → start_value l (tokens_from s at) ≡ none
    no_mark w h f g k =
        no_mark_by (expect_other s (at + 1) NullWord w h f) (expect_other s (at + 1) NotWord w h k) (expect_other s (at + 1) DeclinedWord w h g)

    pub a_null : (r : Started) → Stands s (at + 1) NULL → r ≡ started_whole (Mark Null l) (at + 2) → FollowedAt s at l (Found r)
    unfolding start_value expect read_comparison
    a_null r h e = a_mark Null r (at + 2) (rw (is.here, here_to (at + 2) (omega arith) h)) e (moved_to (at + 2) (omega arith) (omega arith) h)

    pub a_declined : (r : Started) → Stands s (at + 1) DECLINED → r ≡ started_whole (Mark IsDeclined l) (at + 2) → FollowedAt s at l (Found r)
    unfolding start_value expect read_comparison
    a_declined r h e = a_mark IsDeclined r (at + 2) (rw (is.here, here_to (at + 2) (omega arith) h)) e (moved_to (at + 2) (omega arith) (omega arith) h)

    module _ (no : Stands s (at + 1) NOT) where
      no_not_mark_by : expect NULL (tokens_from s (at + 2)) ≡ none → expect DECLINED (tokens_from s (at + 2)) ≡ none → start_value l (tokens_from s at) ≡ none
      unfolding start_value expect read_comparison
      no_not_mark_by d e = rw (is.here, here_to (at + 2) (omega arith) no, d, e)

      pub no_not_mark_at_end : ((w : Word) → expect (Fixed w) (tokens_from s (at + 2)) ≡ none) → start_value l (tokens_from s at) ≡ none
      no_not_mark_at_end f = no_not_mark_by (f NullWord) (f DeclinedWord)

      pub no_not_mark : (w : Word) → Stands s (at + 2) (Fixed w) → (w ≡ NullWord → ⊥) → (w ≡ DeclinedWord → ⊥) → start_value l (tokens_from s at) ≡ none
      no_not_mark w h f g = no_not_mark_by (expect_other s (at + 2) NullWord w h f) (expect_other s (at + 2) DeclinedWord w h g)

      pub a_not_null : (r : Started) → Stands s (at + 2) NULL → r ≡ started_whole (Mark NotNull l) (at + 3) → FollowedAt s at l (Found r)
      unfolding start_value expect read_comparison
      a_not_null r h e =
          a_mark NotNull r (at + 3) (rw (is.here, here_to (at + 2) (omega arith) no, here_to (at + 3) (omega arith) h)) e (moved_to (at + 3) (omega arith) (omega arith) h)

      pub a_not_declined : (r : Started) → Stands s (at + 2) DECLINED → r ≡ started_whole (Mark NotDeclined l) (at + 3) → FollowedAt s at l (Found r)
      unfolding start_value expect read_comparison
      a_not_declined r h e =
          a_mark NotDeclined r (at + 3) (rw (is.here, here_to (at + 2) (omega arith) no, here_to (at + 3) (omega arith) h)) e (moved_to (at + 3) (omega arith) (omega arith) h)

-- a comparison with the value that stands at a place
pub a_comparison : (s : Tokens) (at : ℕ) (op : Comparison) (l r : WrittenValue) (next : ℕ) → ValueIs s at r next
    → WholeIs s at (compared_with op l (tokens_from s at)) (AtomHead (Compare op l r)) next
unfolding noted parts froms_deep
a_comparison s at op l r next v = record { whole = Atom (Compare op l r); found = rw v.found; notes = refl; one = refl; flat = refl; moved = v.moved }

-- ---- what stands behind any value

module _ (s : Tokens) (at : ℕ) where
  pub an_in : Stands s at IN → ListBehind s at Some Eq (at + 1)
  unfolding start_value expect read_comparison
  an_in h = record { found = λ l. rw (h.here) (simp or_none); moved = moved_to (at + 1) (omega arith) refl h }

  module _ (h : Stands s at NOT) where
    pub no_in : expect IN (tokens_from s (at + 1)) ≡ none → (l : WrittenValue) → start_value l (tokens_from s at) ≡ none
    unfolding start_value expect read_comparison
    no_in e l = rw (h.here, e)

    pub a_not_in : Stands s (at + 1) IN → ListBehind s at All Ne (at + 2)
    unfolding start_value expect read_comparison
    a_not_in k = record { found = λ l. rw (h.here, here_to (at + 2) (omega arith) k); moved = moved_to (at + 2) (omega arith) (omega arith) k }

  module _ (op : Comparison) (h : Stands s at (Compares op)) where
    pub a_some : Stands s (at + 1) SOME → ListBehind s at Some op (at + 2)
    unfolding start_value expect read_comparison read_value
    a_some k = record { found = λ l. rw (h.here, here_to (at + 2) (omega arith) k) (simp or_none); moved = moved_to (at + 2) (omega arith) (omega arith) k }

    pub an_all : Stands s (at + 1) ALL → ListBehind s at All op (at + 2)
    unfolding start_value expect read_comparison read_value
    an_all k = record { found = λ l. rw (h.here, here_to (at + 2) (omega arith) k) (simp or_none); moved = moved_to (at + 2) (omega arith) (omega arith) k }

    pub a_second : expect SOME (tokens_from s (at + 1)) ≡ none → expect ALL (tokens_from s (at + 1)) ≡ none → ValueBehind s at op (at + 1)
    unfolding start_value expect read_comparison
    a_second d e = record { found = λ l. rw (h.here, d, e) (simp or_none); moved = moved_to (at + 1) (omega arith) refl h }

  pub nothing_at_end : tokens_from s at ≡ [] → (l : WrittenValue) → start_value l (tokens_from s at) ≡ none
  unfolding start_value expect read_comparison
  nothing_at_end e l = rw e

  no_comparison : (w : Word) → Stands s at (Fixed w) → read_comparison (tokens_from s at) ≡ none
  unfolding read_comparison
  no_comparison w h = rw h.here

  no_word_by : expect IS (tokens_from s at) ≡ none → expect IN (tokens_from s at) ≡ none → expect NOT (tokens_from s at) ≡ none → read_comparison (tokens_from s at) ≡ none
      → (l : WrittenValue) → start_value l (tokens_from s at) ≡ none
  unfolding start_value
  no_word_by d e f g l = rw (d, e, f, g)

  pub no_word_behind : (w : Word) → Stands s at (Fixed w) → expect IS (tokens_from s at) ≡ none → (w ≡ InWord → ⊥) → (w ≡ NotWord → ⊥)
      → (l : WrittenValue) → start_value l (tokens_from s at) ≡ none
  no_word_behind w h d f g l = no_word_by d (expect_other s at InWord w h f) (expect_other s at NotWord w h g) (no_comparison w h) l

  pub nothing_behind : (t : Token) → Stands s at t → ((k : Word) → t ≡ Fixed k → ⊥) → ((op : Comparison) → t ≡ Compares op → ⊥)
      → (l : WrittenValue) → start_value l (tokens_from s at) ≡ none
  unfolding start_value expect read_comparison
  nothing_behind (Fixed k) h f g l = absurd (f k refl)
  nothing_behind (Compares op) h f g l = absurd (g op refl)
  nothing_behind (Letter x) h f g l = rw h.here
  nothing_behind (Number n) h f g l = rw h.here

-- ---- a test

-- a bracket alone makes no part
pub record BracketIs (s : Tokens) (at next : ℕ) : Type 0 where
  pub found : start (tokens_from s at) ≡ some (Around Bracket (tokens_from s next))
  pub moved : Moved s at next

pub a_bracket : {s : Tokens} {at : ℕ} → Stands s at Open → BracketIs s at (at + 1)
unfolding start expect
a_bracket {at = at} h = record { found = rw h.here; moved = moved_to (at + 1) (omega arith) refl h }

module _ (s : Tokens) (at : ℕ) where
  module _ (h : Stands s at EXISTS) where
    pub no_exists : expect Open (tokens_from s (at + 1)) ≡ none → start (tokens_from s at) ≡ none
    unfolding start expect read_value
    no_exists e = rw (h.here, e)

    module _ (k : Stands s (at + 1) Open) where
      pub no_rows : read_from (tokens_from s (at + 2)) ≡ none → start (tokens_from s at) ≡ none
      unfolding start expect read_value
      no_rows e = rw (h.here, here_to (at + 2) (omega arith) k, e)

      pub an_exists : (f : FromClause Source) (next : ℕ) → FromIs s (at + 2) f next → AroundIs s at (start (tokens_from s at)) (ExistsHead f) next
      unfolding start expect read_value noted parts froms_deep
      an_exists f next g = record {
        opening = OfExists f;
        found = rw (h.here, here_to (at + 2) (omega arith) k, g.found);
        notes = λ w. refl;
        one = λ w. refl;
        deeper = λ w. rw (one_letter f);
        untested = λ a rest. refl;
        moved = earlier (omega arith) g.moved;
      }

  module _ (d : expect Open (tokens_from s at) ≡ none) (e : expect EXISTS (tokens_from s at) ≡ none) where
    pub no_test : read_value (tokens_from s at) ≡ none → start (tokens_from s at) ≡ none
    unfolding start
    no_test f = rw (d, e, f)

    pub a_value_test : (l : WrittenValue) (next : ℕ) → ValueIs s at l next → (r : Option Started) → FollowedAt s next l r → TestAt s at r
    unfolding start
    a_value_test l next v r h = starts_as s at next _ _ r (omega (arith, v.moved.later)) (rw (d, e, v.found)) h

-- ---- what the functions answer

pub ruleset mark_rules = (no_mark_at_end, no_mark, no_not_mark_at_end, no_not_mark, a_null, a_declined, a_not_null, a_not_declined)

pub ruleset comparison_rules = (a_some, an_all, a_second)

pub ruleset behind_rules = (an_in, no_in, a_not_in, nothing_at_end, no_word_behind, nothing_behind)

pub ruleset exists_rules = (no_exists, no_rows, an_exists)

pub ruleset test_rules = (no_test, a_value_test)
