-- What a factor, a test, a condition in brackets and all the tokens read as, from what is read inside.
use mathlib.Core.Path.{◌≡◌, refl, sym, ap, ◌∙◌}
use mathlib.Core.List.{List, [], ◌∷◌, ◌++◌}
use mathlib.Core.Option.{Option as MathOption, none, some}
use Rattle.std.specs.Prelude.{Option, Some, None}
use Prim.Native.Nat.{ℕ, suc, ◌+◌, ◌-◌, ◌≤◌, ◌<◌}
use native.Mathlib.Omega.{arith}
use lib.ListN.{length, take}
use Rattle.tables.specs.Lists.{◌>>=◌}
use Rattle.rule.specs.Tokens.{NOT, IS, Open, Close}
use Rattle.rule.specs.Condition.{Atom, Join, Apply, Exists, Listed, WrittenCondition, parts, froms_deep}
use Rattle.rule.specs.declared.FromClause.TheVariants.{Single}
use Rattle.rule.specs.declared.Head.TheVariants.{UnaryHead}
use Rattle.rule.specs.declared.Word.TheVariants.{Not as NotWord}
use Rattle.rule.specs.declared.Unary.{Unary}
use Rattle.rule.specs.Names.{most_parts}
use Rattle.rule.specs.Grammar.{Tokens}
use Rattle.rule.specs.Reader.{expect, Opening, Bracket, closed, Start, Around, start, condition, factor, test, Found, branch, started, read_truth_test, truth_tested, ended, closing, reading, at_end, read_all}
use Rattle.rule.proofs.Steps.{reading_factor, reading_test, reading_all}
use Rattle.phrases.specs.Code.{Note, noted, tokens_from, Stands, WholeIs, AroundIs, TruthTestAt}
use Rattle.phrases.proofs.Tokens.{from_here, from_end, expect_to, no_word_at_end}
use Rattle.grammar.specs.Code.{not_notes, under_nots, NotsTo, Reads, ReadsAs, at_close, closed_reading, TestedTo, WholeReading}
use Rattle.grammar.specs.declared.Step.{Step}
use Rattle.grammar.proofs.Noting.{Noted, both_noted, noted_nots, parts_nots, deep_nots, nots_not}

-- ---- a factor: NOTs, and a test

-- so many NOTs around what is read
abbrev negate : ℕ → WrittenCondition × Tokens → Found
negate k a = some (under_nots k a.0, a.1)

-- up to a place there are NOTs, of which the last are not read yet
pub record Negated (s : Tokens) (at i : ℕ) : Type 0 where
  pub later : at ≤ i
  pub within : i ≤ length s
  pub so_far : reading factor (tokens_from s at) ≡ (reading factor (tokens_from s i) >>= negate (i - at))

around_nots : (k : ℕ) (o : Found) → ((o >>= negate 1) >>= negate k) ≡ (o >>= negate (suc k))
around_nots k none = refl
around_nots k (some x) = ap (λ (a : WrittenCondition). some (a, x.1)) (nots_not k x.0)

no_nots : (k : ℕ) (o : Found) → k ≡ 0 → o ≡ (o >>= negate k)
no_nots k none e = refl
no_nots k (some x) e = rw e

module _ (s : Tokens) (at : ℕ) where
  module _ {i : ℕ} (f : Negated s at i) where
    pub negated_once : Stands s i NOT → Negated s at (i + 1)
    negated_once there =
        let k : i + 1 - at ≡ suc (i - at) = omega (arith, f.later) in
        let e : reading factor (tokens_from s i) ≡ (reading factor (tokens_from s (i + 1)) >>= negate 1) =
        reading_factor (tokens_from s i) ∙ ap (λ (o : MathOption Tokens). branch o (λ us. reading factor us >>= negate 1) (λ _. reading test (tokens_from s i))) (expect_to there) in
        record {
          later = omega (arith, f.later);
          within = omega (arith, there.within);
          so_far = f.so_far ∙ ap (◌>>= negate (i - at)) e ∙ around_nots (i - at) (reading factor (tokens_from s (i + 1)))
              ∙ ap (λ (n : ℕ). reading factor (tokens_from s (i + 1)) >>= negate n) (sym k);
        }

    pub negated_test : expect NOT (tokens_from s i) ≡ none → NotsTo s at i
    negated_test absent =
        let e : reading factor (tokens_from s i) ≡ reading test (tokens_from s i) =
        reading_factor (tokens_from s i) ∙ ap (λ (o : MathOption Tokens). branch o (λ us. reading factor us >>= negate 1) (λ _. reading test (tokens_from s i))) absent in
        record { later = f.later; within = f.within; skipped = f.so_far ∙ ap (◌>>= negate (i - at)) e }

    -- NOTs up to the end of the tokens
    pub negated_all : length s ≤ i → NotsTo s at (length s)
    negated_all h = let e : i ≡ length s = omega (arith, f.within) in rw (← e) (negated_test (no_word_at_end s i NotWord (from_end s i h)))

module _ {s : Tokens} {at i : ℕ} (t : NotsTo s at i) where
  pub factor_reads : {w : ℕ} {old mid new : List Note} {next n d : ℕ} → Reads (reading test (tokens_from s i)) s i w old mid next n d
      → (n + (i - at) ≤ most_parts → take (n + (i - at)) new ≡ take n mid ++ not_notes (i - at))
      → Reads (reading factor (tokens_from s at)) s at w old new next (n + (i - at)) d
  factor_reads {w} {old} {mid} {new} {next} {n} {d} r put =
      let a : WrittenCondition = r.tree in
      let h : at ≤ i = t.later in
      let p : n ≡ w + parts a = r.count in
      let u : n + i ≤ next + w = r.used in
      let x : Noted old mid w n (noted a) = record { first = r.notes } in
      let y : Noted mid new n (n + (i - at)) (not_notes (i - at)) = record { first = put } in
      let noting = both_noted (omega arith) x y in
      record {
        tree = under_nots (i - at) a;
        reads = t.skipped ∙ ap (◌>>= negate (i - at)) r.reads;
        moved = record { later = omega (arith, r.moved.later); within = r.moved.within };
        count = rw (parts_nots (i - at) a) (omega arith);
        froms = r.froms ∙ sym (deep_nots (i - at) a);
        used = omega arith;
        notes = rw (noted_nots (i - at) a) noting.first;
      }

-- ---- a condition has at least as many parts as FROMs

deep_parts : (a : WrittenCondition) → froms_deep a ≤ parts a
unfolding froms_deep parts
deep_parts (Atom x) = omega arith
deep_parts (Join j a b) = omega (arith, deep_parts a, deep_parts b)
deep_parts (Apply u a) = omega (arith, deep_parts a)
deep_parts (Exists (Single _) a) = omega (arith, deep_parts a)
deep_parts (Listed q op l s (Single _) a) = omega (arith, deep_parts a)

pub shallow : {found : Found} {s : Tokens} {at w : ℕ} {old new : List Note} {next n d : ℕ} → Reads found s at w old new next n d → d ≤ n
shallow r = omega (arith, r.count, r.froms, deep_parts r.tree)

-- ---- a reading inside another, which begins no later, ends no earlier, and has the same parts

reads_around : {found around : Found} {s : Tokens} {at before w : ℕ} {old new : List Note} {next behind n d : ℕ} (r : Reads found s at w old new next n d)
    → before ≤ at → next ≤ behind → behind ≤ length s → around ≡ some (r.tree, tokens_from s behind) → Reads around s before w old new behind n d
reads_around r p q l e = record {
  tree = r.tree;
  reads = e;
  moved = record { later = omega (arith, r.moved.later); within = l };
  count = r.count;
  froms = r.froms;
  used = omega (arith, r.used);
  notes = r.notes;
}

-- ---- a condition in brackets

module _ {s : Tokens} {at w : ℕ} {old new : List Note} {next n d : ℕ} (r : Reads (reading condition (tokens_from s at)) s at w old new next n d) where
  pub closed_reads : Stands s next Close → Reads (closed_reading (tokens_from s at)) s at w old new (next + 1) n d
  closed_reads there =
      reads_around r (omega arith) (omega arith) (omega (arith, there.within))
      (ap (◌>>= at_close) r.reads ∙ ap (◌>>= (λ rest. some (r.tree, rest))) (expect_to there))

  pub closed_not : expect Close (tokens_from s next) ≡ none → closed_reading (tokens_from s at) ≡ none
  closed_not absent = ap (◌>>= at_close) r.reads ∙ ap (◌>>= (λ rest. some (r.tree, rest))) absent

-- ---- the truth test that may follow it

abbrev with_truth : WrittenCondition × Tokens → Found
with_truth a = truth_tested a.0 a.1

module _ {s : Tokens} (mid : List Note) (step : Step) where
  -- no IS follows
  pub untested_reads : expect IS (tokens_from s step.at) ≡ none → TestedTo s mid mid step (Some step)
  unfolding truth_tested
  untested_reads absent found at w old r =
      reads_around r (omega arith) (omega arith) r.moved.within (ap (◌>>= with_truth) r.reads ∙ rw absent)

  module _ (is : Stands s step.at IS) where
    tested_is : (a : WrittenCondition) → truth_tested a (tokens_from s step.at) ≡ (read_truth_test (tokens_from s (step.at + 1)) >>= (λ u. some (Apply u.0 a, u.1)))
    unfolding truth_tested
    tested_is a = rw (expect_to is)

    -- an IS that begins no truth test
    pub tested_not : (new : List Note) → read_truth_test (tokens_from s (step.at + 1)) ≡ none → TestedTo s mid new step None
    tested_not new e found at w old r = ap (◌>>= with_truth) r.reads ∙ tested_is r.tree ∙ rw e

    -- a truth test, which is noted behind its condition
    pub tested_reads : {u : Unary} {behind : ℕ} {new : List Note} → TruthTestAt s (step.at + 1) (Some (record { unary = u; next = behind }))
        → (step.count < most_parts → take (step.count + 1) new ≡ take step.count mid ++ (UnaryHead u ∷ []))
        → TestedTo s mid new step (Some (record { at = behind; count = step.count + 1; deep = step.deep }))
    unfolding noted parts froms_deep
    tested_reads {u} {behind} {new} f put found at w old r =
        let a : WrittenCondition = r.tree in
        let noting = both_noted {n = step.count} (omega arith) (record { first = r.notes }) (record { first = λ k. put (omega arith) }) in
        record {
          tree = Apply u a;
          reads = ap (◌>>= with_truth) r.reads ∙ tested_is a ∙ rw f.found;
          moved = record { later = omega (arith, r.moved.later, f.moved.later); within = f.moved.within };
          count = omega (arith, r.count);
          froms = r.froms;
          used = omega (arith, r.used, f.moved.later);
          notes = noting.first;
        }

-- ---- a test, by its start

-- what stands around a condition in brackets, and may follow it
abbrev put_around : Opening → WrittenCondition × Tokens → Found
put_around op a = ended op (closed op a.0) a.1

closing_around : (op : Opening) (o : Found) → (o >>= closing op) ≡ ((o >>= at_close) >>= put_around op)
closing_around op none = refl
closing_around op (some x) = go (expect Close x.1)
  where
    go : (o : MathOption Tokens) → (o >>= (λ rest. put_around op (x.0, rest))) ≡ ((o >>= (λ rest. some (x.0, rest))) >>= put_around op)
    go none = refl
    go (some rest) = refl

module _ (s : Tokens) (at : ℕ) where
  begins : {o : MathOption Start} → start (tokens_from s at) ≡ o → reading test (tokens_from s at) ≡ started o (λ op us. reading condition us >>= closing op)
  begins e = reading_test (tokens_from s at) ∙ ap (λ (o : MathOption Start). started o (λ op us. reading condition us >>= closing op)) e

  pub test_not : start (tokens_from s at) ≡ none → reading test (tokens_from s at) ≡ none
  test_not e = begins e

  pub whole_reads : {note : Note} {next : ℕ} → WholeIs s at (start (tokens_from s at)) note next → {w : ℕ} {old new : List Note} → (w < most_parts → take (w + 1) new ≡ take w old ++ (note ∷ []))
      → Reads (reading test (tokens_from s at)) s at w old new next (w + 1) 0
  whole_reads {note} {next} f {w} {old} {new} put =
      record {
        tree = f.whole;
        reads = begins f.found;
        moved = f.moved;
        count = omega (arith, f.one);
        froms = sym f.flat;
        used = omega (arith, f.moved.later);
        notes = λ k. rw f.notes (put (omega arith));
      }

  -- a bracket, which stands there
  module _ (there : Stands s at Open) where
    open_start : start (tokens_from s at) ≡ some (Around Bracket (tokens_from s (at + 1)))
    unfolding start
    open_start = rw (expect_to there)

    bracket_same : reading test (tokens_from s at) ≡ (closed_reading (tokens_from s (at + 1)) >>= with_truth)
    bracket_same = begins open_start ∙ closing_around Bracket (reading condition (tokens_from s (at + 1)))

    pub bracket_not : closed_reading (tokens_from s (at + 1)) ≡ none → reading test (tokens_from s at) ≡ none
    bracket_not e = bracket_same ∙ ap (◌>>= with_truth) e

    pub bracket_reads : (w : ℕ) (old new : List Note) (r : Option Step) → ReadsAs (closed_reading (tokens_from s (at + 1)) >>= with_truth) s (at + 1) w old new r
        → ReadsAs (reading test (tokens_from s at)) s at w old new r
    bracket_reads w old new None e = bracket_same ∙ e
    bracket_reads w old new (Some step) r = reads_around r (omega arith) (omega arith) r.moved.within (bracket_same ∙ r.reads)

  module _ {note : Note} {next : ℕ} (f : AroundIs s at (start (tokens_from s at)) note next) where
    around_same : reading test (tokens_from s at) ≡ (closed_reading (tokens_from s next) >>= put_around f.opening)
    around_same = begins f.found ∙ closing_around f.opening (reading condition (tokens_from s next))

    pub around_not : closed_reading (tokens_from s next) ≡ none → reading test (tokens_from s at) ≡ none
    around_not e = around_same ∙ ap (◌>>= put_around f.opening) e

    pub around_reads : {w : ℕ} {old mid new : List Note} {behind n d : ℕ} → Reads (closed_reading (tokens_from s next)) s next w old mid behind n d
        → (n < most_parts → take (n + 1) new ≡ take n mid ++ (note ∷ [])) → Reads (reading test (tokens_from s at)) s at w old new behind (n + 1) (d + 1)
    around_reads {w} {old} {mid} {new} {behind} {n} {d} r put =
        let a : WrittenCondition = r.tree in
        let x : Noted old mid w n (noted a) = record { first = r.notes } in
        let noting = both_noted {n = n} (omega arith) x (record { first = λ k. put (omega arith) }) in
        record {
          tree = closed f.opening a;
          reads = around_same ∙ ap (◌>>= put_around f.opening) r.reads ∙ f.untested (closed f.opening a) (tokens_from s behind);
          moved = record { later = omega (arith, f.moved.later, r.moved.later); within = r.moved.within };
          count = omega (arith, f.one a, r.count);
          froms = omega (arith, f.deeper a, r.froms);
          used = omega (arith, f.moved.later, r.used);
          notes = rw (f.notes a) noting.first;
        }

-- ---- all the tokens

pub all_not : (s : Tokens) → reading condition (tokens_from s 0) ≡ none → read_all s ≡ none
all_not s e = reading_all s ∙ ap (◌>>= at_end) e

module _ {s : Tokens} {old new : List Note} {next n d : ℕ} (r : Reads (reading condition (tokens_from s 0)) s 0 0 old new next n d) where
  pub all_reads : next ≡ length s → WholeReading s new n d
  all_reads e =
      record {
        tree = r.tree;
        reads = reading_all s ∙ ap (◌>>= at_end) r.reads ∙ ap (λ (ts : Tokens). at_end (r.tree, ts)) (from_end s next (omega arith));
        count = omega (arith, r.count);
        froms = r.froms;
        notes = r.notes;
      }

  pub all_more : (next ≡ length s → ⊥) → read_all s ≡ none
  all_more h =
      let l : next < length s = omega (arith, r.moved.within) in
      reading_all s ∙ ap (◌>>= at_end) r.reads ∙ ap (λ (ts : Tokens). at_end (r.tree, ts)) (from_here s next NOT l)

pub ruleset nots_rules = (negated_once, negated_test, negated_all)

pub ruleset tested_rules = (untested_reads, tested_not, tested_reads)

pub ruleset all_rules = (all_not, all_reads, all_more)

pub ruleset closed_rules = (closed_reads, closed_not)

pub ruleset test_rules = (test_not, whole_reads, bracket_not, bracket_reads, around_not, around_reads, shallow)
