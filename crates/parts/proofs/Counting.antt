-- The entries of a rule's card, part by part: what is left to count are the entries of the rules whose parts stand from a number on.
use Rattle.std.proofs.Common.{◌≡◌, true, false, ℕ, ◌+◌, ◌*◌, ◌<◌, ◌≤◌, List, [], ◌∷◌, get_or, refl, sym, ap, subst, ◌∙◌, arith}
use Rattle.tables.specs.Values.{most_entries}
use Rattle.rule.specs.declared.Truth.{Truth}
use Rattle.rule.specs.declared.Truth.TheVariants.{False, Unknown, True}
use Rattle.rule.specs.Condition.{Atom, Join, Apply, Exists, Listed, Rule, letters, parts}
use Rattle.rule.specs.declared.Unary.{Unary}
use Rattle.rule.specs.declared.Unary.TheVariants.{Not, Is, IsNot}
use Rattle.rule.specs.declared.FromClause.{FromClause}
use Rattle.rule.specs.declared.FromClause.TheVariants.{Single}
use Rattle.rule.specs.Names.{most_parts}
use Rattle.rule.specs.Parts.{Head}
use Rattle.rule.specs.Sum.{truth_sum, unary_sum, entry_sum}
use Rattle.names.specs.Code.{own_head}
use Rattle.names.specs.declared.RulePart.{RulePart}
use Rattle.parts.specs.Parts.{Stands}
use Rattle.parts.specs.Code.{own_entries, unknown_truth, unknown_test, asks_unknown, Capped, exact, over, Countable, CountedTo}
use Rattle.parts.proofs.Parts.{parts_low, head_stands, end_stands}

-- what a part makes of the entries of the condition in it, which it uses once, or twice if it is IS UNKNOWN or IS NOT UNKNOWN
truth_once : (t : Truth) (n : ℕ) → unknown_truth t ≡ false → n ≡ truth_sum t n
truth_once False n e = refl
truth_once Unknown n e = absurd (let z : ◌≡◌ {A = ℕ} 0 1 = cc in omega arith)
truth_once True n e = refl

unary_once : (u : Unary) (n : ℕ) → unknown_test u ≡ false → n ≡ unary_sum u n
unary_once Not n e = refl
unary_once (Is t) n e = truth_once t n e
unary_once (IsNot t) n e = truth_once t n e

truth_twice : (t : Truth) (n : ℕ) → unknown_truth t ≡ true → 1 + 2 * n ≡ truth_sum t n
truth_twice False n e = absurd (let z : ◌≡◌ {A = ℕ} 0 1 = cc in omega arith)
truth_twice Unknown n e = omega arith
truth_twice True n e = absurd (let z : ◌≡◌ {A = ℕ} 0 1 = cc in omega arith)

unary_twice : (u : Unary) (n : ℕ) → unknown_test u ≡ true → 1 + 2 * n ≡ unary_sum u n
unary_twice Not n e = absurd (let z : ◌≡◌ {A = ℕ} 0 1 = cc in omega arith)
unary_twice (Is t) n e = truth_twice t n e
unary_twice (IsNot t) n e = truth_twice t n e

one_letter : {S : Type 0} (f : FromClause S) → letters f ≡ 1
one_letter (Single s) = refl

-- ---- counts, as far as the limit goes

pub few_counted : {r n : ℕ} → Capped r n → r ≤ most_entries → r ≡ n
few_counted (exact e) l = e
few_counted (over a b) l = absurd (omega arith)

pub many_counted : {r n : ℕ} → Capped r n → most_entries < r → most_entries < n
many_counted (exact e) l = omega arith
many_counted (over a b) l = b

pub both_counted : {r n s m : ℕ} → Capped r n → Capped s m → Capped (r + s) (n + m)
both_counted (exact e) (exact f) = exact (omega arith)
both_counted (exact e) (over c d) = over (omega arith) (omega arith)
both_counted (over a b) k = over (omega arith) (omega arith)

-- ---- rules one after the other

abbrev pub sum_of : List Rule → ℕ
sum_of [] = 0
sum_of (r ∷ rs) = entry_sum r + sum_of rs

module _ (p : List RulePart) (n : ℕ) where
  -- the parts from number s up to n are those of some rules
  pub data Rules : ℕ → List Rule → Type 0 where
    none_left : {s : ℕ} → s ≡ n → Rules s []
    one_more : {s : ℕ} {r : Rule} {rs : List Rule} → Stands p s r → Rules (s + parts r) rs → Rules s (r ∷ rs)

  moved : {s t : ℕ} {rs : List Rule} → s ≡ t → Rules s rs → Rules t rs
  moved {rs = rs} e f = subst (λ (m : ℕ). Rules m rs) e f

  -- after the first part: the rules in it, and those behind it
  record Stepped (s k : ℕ) (rs : List Rule) : Type 0 where
    later : List Rule
    stand : Rules (s + 1) later
    sum : k + sum_of later ≡ sum_of rs

  step : (s : ℕ) (r : Rule) (rs : List Rule) → Stands p s r → Rules (s + parts r) rs → asks_unknown (own_head r) ≡ false → Stepped s (own_entries (own_head r)) (r ∷ rs)
  unfolding Stands entry_sum parts
  step s (Atom x) rs h f k = record { later = rs; stand = f; sum = refl }
  step s (Join j a b) rs h f k =
      record { later = a ∷ b ∷ rs; stand = one_more {r = a} h.1 (one_more {r = b} h.2 (moved {s = s + (1 + parts a + parts b)} (omega arith) f)); sum = omega arith }
  step s (Apply u a) rs h f k = record { later = a ∷ rs; stand = one_more {r = a} h.1 (moved {s = s + (1 + parts a)} (omega arith) f); sum = omega (arith, unary_once u (entry_sum a) k) }
  step s (Exists g w) rs h f k = record { later = w ∷ rs; stand = one_more {r = w} h.1 (moved {s = s + (1 + parts w)} (omega arith) f); sum = omega (arith, one_letter g) }
  step s (Listed q op l v g w) rs h f k = record { later = w ∷ rs; stand = one_more {r = w} h.1 (moved {s = s + (1 + parts w)} (omega arith) f); sum = omega (arith, one_letter g) }

  -- a rule that uses the one in it twice
  pub record IsTwice (s : ℕ) (r : Rule) : Type 0 where
    pub inner : Rule
    pub inner_stands : Stands p (s + 1) inner
    pub count : parts r ≡ 1 + parts inner
    pub sum : 1 + 2 * entry_sum inner ≡ entry_sum r

  twice : (s : ℕ) (r : Rule) → Stands p s r → asks_unknown (own_head r) ≡ true → IsTwice s r
  unfolding Stands entry_sum parts
  twice s (Atom x) h k = absurd (let z : ◌≡◌ {A = ℕ} 0 1 = cc in omega arith)
  twice s (Join j a b) h k = absurd (let z : ◌≡◌ {A = ℕ} 0 1 = cc in omega arith)
  twice s (Apply u a) h k = record { inner = a; inner_stands = h.1; count = refl; sum = unary_twice u (entry_sum a) k }
  twice s (Exists f w) h k = absurd (let z : ◌≡◌ {A = ℕ} 0 1 = cc in omega arith)
  twice s (Listed q op l v f w) h k = absurd (let z : ◌≡◌ {A = ℕ} 0 1 = cc in omega arith)

  behind : (s : ℕ) (rs : List Rule) → Rules s rs → s ≤ n
  behind s [] (none_left z) = omega arith
  behind s (x ∷ rs) (one_more h f) = omega (arith, behind (s + parts x) rs f)

  -- so many entries are counted before part s
  pub record Counted (rule : Rule) (s entries : ℕ) : Type 0 where
    pub left : List Rule
    pub stand : Rules s left
    pub before : ℕ
    pub counted : Capped entries before
    pub sum : before + sum_of left ≡ entry_sum rule

  pub nothing_counted : (r : Rule) (s : ℕ) → Stands p s r → n ≡ s + parts r → Counted r s 0
  nothing_counted r s h e = record { left = r ∷ []; stand = one_more {r = r} h (none_left {s = s + parts r} (omega arith)); before = 0; counted = exact refl; sum = omega arith }

  pub all_counted : {r : Rule} {s entries : ℕ} → Counted r s entries → s ≡ n → Capped entries (entry_sum r)
  all_counted {r} {s} {entries} c l = go c.left c.stand c.sum
    where
      go : (rs : List Rule) → Rules s rs → c.before + sum_of rs ≡ entry_sum r → Capped entries (entry_sum r)
      go [] (none_left z) e = let z : c.before ≡ entry_sum r = omega arith in rw (← z) c.counted
      go (x ∷ rs) (one_more h f) e = absurd (omega (arith, behind (s + parts x) rs f, parts_low x))

  -- there is a part s: the first rule that is left, and those behind it
  module _ {rule : Rule} {s entries : ℕ} (c : Counted rule s entries) (more : s < n) (d : RulePart) where
    record First : Type 0 where
      first : Rule
      others : List Rule
      stands : Stands p s first
      next : Rules (s + parts first) others
      sum : c.before + (entry_sum first + sum_of others) ≡ entry_sum rule

    here : First
    here = go c.left c.stand c.sum
      where
        go : (rs : List Rule) → Rules s rs → c.before + sum_of rs ≡ entry_sum rule → First
        go [] (none_left z) e = absurd (omega arith)
        go (r ∷ rs) (one_more h f) e = record { first = r; others = rs; stands = h; next = f; sum = e }

    abbrev pub head : Head
    head = (get_or p s d).head

    head_is : head ≡ own_head here.first
    head_is = head_stands p s here.first here.stands d

    -- a part that uses its inner parts once
    pub one_counted : asks_unknown head ≡ false → (k : ℕ) → k ≡ own_entries head → Counted rule (s + 1) (entries + k)
    one_counted other k own =
        let t = step s here.first here.others here.stands here.next (ap asks_unknown (sym head_is) ∙ other) in
        record {
          left = t.later;
          stand = t.stand;
          before = c.before + own_entries (own_head here.first);
          counted = both_counted c.counted (exact (own ∙ ap own_entries head_is));
          sum = omega (arith, t.sum, here.sum);
        }

    -- and one that uses them twice: they stand behind it, up to its end
    module _ (unknown : asks_unknown head ≡ true) where
      inside : IsTwice s here.first
      inside = twice s here.first here.stands (ap asks_unknown (sym head_is) ∙ unknown)

      abbrev pub end : ℕ
      end = (get_or p s d).end

      end_is : end ≡ s + parts here.first
      end_is = end_stands p s here.first here.stands d

      pub end_bounds : (s + 1 ≤ end) × (end ≤ n)
      end_bounds = (omega (arith, end_is, parts_low here.first), omega (arith, end_is, behind _ here.others here.next))

      pub inner_countable : n ≤ most_parts → Countable p (s + 1) end
      inner_countable few =
          record { rule = inside.inner; count = omega (arith, end_is, inside.count); few = omega (arith, end_bounds); stands = inside.inner_stands }

      pub twice_counted : n ≤ most_parts → (inner k : ℕ) → CountedTo p (s + 1) end inner → ((m : ℕ) → Capped inner m → Capped k (1 + 2 * m)) → Counted rule end (entries + k)
      unfolding inner_countable
      twice_counted few inner k w used =
          record {
            left = here.others;
            stand = moved (sym end_is) here.next;
            before = c.before + (1 + 2 * entry_sum inside.inner);
            counted = both_counted c.counted (used _ (w (inner_countable few)));
            sum = omega (arith, here.sum, inside.sum);
          }
