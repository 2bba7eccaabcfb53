-- READ accepts just what grammar, names and limits allow.
use mathlib.Core.Path.{◌≡◌, refl, sym, ap, ◌∙◌}
use mathlib.Core.Bool.{Bool, true, false, not}
use mathlib.Core.List.{List, [], ◌∷◌}
use mathlib.Core.Logic.{◌↔◌}
use mathlib.Core.Option.{Option, none, some}
use Prim.Native.Nat.{ℕ, ◌≤◌}
use native.Mathlib.Omega.{arith}
use borrow.Author.Tests.{eq-eqb, eqb-true, ltb-true, ltb-false}
use lib.Dec.{T, eqb, ltb}
use lib.ListN.{length}
use Rattle.tables.specs.Lists.{all}
use Rattle.tables.specs.Refusals.{Refusal, first_applying, Refused, Given, Lent, tables_refusals}
use Rattle.tables.proofs.Tests.{both}
use Rattle.std.specs.Prelude.{Result, Ok, Err}
use Rattle.cells.specs.Reasons.{reason_number, answer_of}
use Rattle.cells.specs.declared.Reason.{Reason}
use Rattle.rule.specs.Condition.{parts}
use Rattle.rule.specs.Calls.{reading_refusals, Accepted, read_call}
use Rattle.rule.specs.Claims.{Allowed, AcceptedAs}
use Rattle.rule.specs.declared.Part.{Part}
use Rattle.rule.proofs.Accepted.{accepted_claim, named_rule, parts_claim}
use Rattle.rule.proofs.Calls.{calls_claim}
use Rattle.reader.specs.Claims.{accepts, AcceptanceClaim}
use Rattle.reader.proofs.Told.{read_claim}

-- the first refusal of a list has a number of the list
first_other : (rs : List Refusal) {n : ℕ} → T (all (λ r. not (eqb r.number 12)) rs) → first_applying rs ≡ some n → n ≡ 12 → ⊥
unfolding first_applying
first_other [] t e f = let z : ◌≡◌ {A = ℕ} 0 1 = cc in omega arith
first_other (r ∷ rs) {n} t e f = let (here, rest) = both (not (eqb r.number 12)) _ t in go r.applies here (λ g. first_other rs rest g f) e
  where
    go : (b : Bool) → T (not (eqb r.number 12)) → (first_applying rs ≡ some n → ⊥) → elim b as (λ _. Option ℕ) [ true ↦ some r.number | false ↦ first_applying rs ] ≡ some n → ⊥
    go true h k g = let z : r.number ≡ n = cc in rw (eq-eqb r.number 12 (z ∙ f)) at h
    go false h k g = k g

-- no refusal of reading is 12
reading_other : (text file : List ℕ) {n : ℕ} → first_applying (reading_refusals text file) ≡ some n → n ≡ 12 → ⊥
unfolding reading_refusals tables_refusals
reading_other text file e = first_other (reading_refusals text file) tt e

-- an answer by what it stands for
refused_accepts : (r : Result ℕ Reason) (n : ℕ) → answer_of r ≡ Refused n → accepts r ≡ true → n ≡ 12
refused_accepts (Ok m) n e a = let z : ◌≡◌ {A = ℕ} 0 1 = cc in absurd (omega arith)
refused_accepts (Err x) n e a = let p : reason_number x ≡ n = cc in sym p ∙ eqb-true (reason_number x) 12 a

short_accepts : (r : Result ℕ Reason) → answer_of r ≡ Refused 12 → accepts r ≡ true
short_accepts (Ok m) e = let z : ◌≡◌ {A = ℕ} 0 1 = cc in absurd (omega arith)
short_accepts (Err x) e = let p : reason_number x ≡ 12 = cc in eq-eqb (reason_number x) 12 p

given_accepts : (r : Result ℕ Reason) (n : ℕ) → answer_of r ≡ Given n → accepts r ≡ true
given_accepts (Ok m) n e = refl
given_accepts (Err x) n e = let z : ◌≡◌ {A = ℕ} 0 1 = cc in absurd (omega arith)

module _ (text file : List ℕ) (list : List Part) (r : Result ℕ Reason) (e : answer_of r ≡ (read_call text file list).result) where
  answers : (l : Lent Part) → read_call text file list ≡ l → answer_of r ≡ l.result
  answers l p = e ∙ ap (λ (a : Lent Part). a.result) p

  -- where a refusal of reading applies
  module _ (n : ℕ) (f : first_applying (reading_refusals text file) ≡ some n) where
    refused : answer_of r ≡ Refused n
    refused = answers _ (calls_claim.read_refused text file list n f)

    forbidden : Allowed text file → ⊥
    forbidden w = let g = (accepted_claim text file).1 w in let z : ◌≡◌ {A = ℕ} 0 1 = cc in omega arith

  -- where none does
  module _ (a : Accepted text file) where
    allowed : Allowed text file
    allowed = (accepted_claim text file).0 a

    accepts_with : AcceptedAs text file → accepts r ≡ true
    accepts_with w = go (ltb (length list) (parts w.rule)) refl
      where
        go : (b : Bool) → ltb (length list) (parts w.rule) ≡ b → accepts r ≡ true
        go true f = short_accepts r (answers _ (calls_claim.read_short text file list a w.rule w.is_rule (ltb-true _ _ f)))
        go false f = given_accepts r _ (answers _ (calls_claim.read_given text file list a w.rule w.is_rule (ltb-false _ _ f)))

    accepts_always : accepts r ≡ true
    accepts_always = accepts_with (parts_claim text file a)

  accepted : (o : Option ℕ) → first_applying (reading_refusals text file) ≡ o → (accepts r ≡ true) ↔ Allowed text file
  accepted (some n) f = (
    λ a. absurd (reading_other text file f (refused_accepts r n (refused n f) a)),
    λ w. absurd (forbidden n f w),
  )
  accepted none f = (λ a. allowed f, λ w. accepts_always f)

  given : (w : Allowed text file) → parts w.up_to_names.rule ≤ length list → r ≡ Ok (parts w.up_to_names.rule)
  given w h =
      let a = (accepted_claim text file).1 w in
      read_claim r (Ok (parts w.up_to_names.rule)) (answers _ (calls_claim.read_given text file list a w.up_to_names.rule (named_rule text file w.up_to_names) h))

pub acceptance_claim : AcceptanceClaim
acceptance_claim = record {
  accepted = λ text file list r e. accepted text file list r e (first_applying (reading_refusals text file)) refl;
  given = λ text file list r e w h. given text file list r e w h;
}
