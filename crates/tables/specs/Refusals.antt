-- Document 01, 'Gate says why not', the sentences under the table: which of the refusals that apply is given, and what a buffer holds after a
-- success. That a refusal leaves every buffer as it was is the product's first demand.
-- A call lists its refusals in the order in which they are tried, and the first that applies is given. The numbers of the list of each call are
-- its published order (`read_order` and the like, in Calls.antt of rule, translation, card and lines). Where they rise, that is 'the lowest applying
-- number' (LowestClaim); READ, JUDGE and CARD try 13 before 11 and 12 (document 02, Point 1), and IMPORT tries 14 and 15 before 12 (Point 2).
use Rattle.std.specs.Prelude.{Bool, true, false, not, List, [], ◌∷◌, ◌++◌, map, ℕ, ltb, length, drop}
use Rattle.std.proofs.Math.Option.{Option, none, some}
use Rattle.tables.specs.Tables.{sizes_fit, marks_fit, row_count}

-- a refusal's number, and whether it applies
pub record Refusal : Type 0 where
  pub number : ℕ
  pub applies : Bool

infix 10 ◌if◌
abbrev pub ◌if◌ : ℕ → Bool → Refusal
n if b = record { number = n; applies = b }

-- the numbers of a list of refusals, in the order of the list
abbrev pub numbers : List Refusal → List ℕ
numbers rs = map (λ r. r.number) rs

-- the number of the first refusal of a list that applies
unfoldable pub first_applying : List Refusal → Option ℕ
first_applying [] = none
first_applying (r ∷ rs) = elim r.applies [ true ↦ some r.number | false ↦ first_applying rs ]

-- what a call answers: a refusal's number and nothing else, or the answer
pub data Answer (A : Type 0) : Type 0 where
  Refused : ℕ → Answer A
  Given : A → Answer A

-- the first refusal that applies, or else the answer, which is not computed before
unfoldable pub unless : {A : Type 0} → Option ℕ → (Unit {0} → A) → Answer A
unless (some n) answer = Refused n
unless none answer = Given (answer tt)

-- a call that only looks: nothing to answer, or the first refusal that applies
abbrev pub passes : List Refusal → Answer (Unit {0})
passes refusals = unless (first_applying refusals) (λ _. tt)

-- ---- calls that write their answer into a lent buffer

-- how many elements the answer has, or a refusal; and what the buffer holds afterwards
pub record Lent (A : Type 0) : Type 0 where
  pub result : Answer ℕ
  pub buffer : List A

module _ {A : Type 0} where
  -- a refusal leaves the buffer as it was
  abbrev pub refused_with : ℕ → List A → Lent A
  refused_with n buffer = record { result = Refused n; buffer = buffer }

  -- an answer stands at the buffer's start, and what lies past it is as it was
  abbrev pub filled_with : List A → List A → Lent A
  filled_with answer buffer = record { result = Given (length answer); buffer = answer ++ drop (length answer) buffer }

  -- refusal 12: the buffer has fewer elements than the whole answer
  abbrev pub short_refusal : List A → List A → Refusal
  short_refusal answer buffer = 12 if ltb (length buffer) (length answer)

  -- a refusal, or else the answer
  abbrev pub lend_unless : Option ℕ → List A → List A → Lent A
  lend_unless (some n) answer buffer = refused_with n buffer
  lend_unless none answer buffer = filled_with answer buffer

  -- the call's own refusals, and then 12
  abbrev pub lend_refusals : List Refusal → List A → List A → List Refusal
  lend_refusals refusals answer buffer = refusals ++ (short_refusal answer buffer ∷ [])

  -- the first of these that applies, or else the answer
  unfoldable pub lend : List Refusal → List A → List A → Lent A
  lend refusals answer buffer = lend_unless (first_applying (lend_refusals refusals answer buffer)) answer buffer

-- ---- refusals that several calls share

-- 1 and 2: what any call that is given a tables file looks at first
unfoldable pub tables_refusals : List ℕ → List Refusal
tables_refusals file = (1 if not (sizes_fit file)) ∷ (2 if not (marks_fit file)) ∷ []

-- a tables file looked at by itself: nothing to answer, or refusal 1 or 2
unfoldable pub tables_call : List ℕ → Answer (Unit {0})
tables_call file = passes (tables_refusals file)

-- refusal 11: table 1 has no such row
unfoldable pub row_refusal : List ℕ → ℕ → Refusal
row_refusal file row = 11 if not (ltb row (row_count file 1))
