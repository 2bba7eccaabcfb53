-- What an enum stands for tells its case.
use mathlib.Core.Path.{◌≡◌, refl, sym, ap, ◌∙◌}
use Rattle.std.specs.Prelude.{Result, Ok, Err}
use mathlib.Core.List.{[], ◌∷◌}
use Prim.Native.Nat.{ℕ, ◌<◌}
use native.Mathlib.Omega.{arith}
use lib.ListN.{get_or}
use Rattle.tables.specs.Refusals.{Answer, Refused}
use Rattle.cells.specs.Reasons.{reason_number, answer_of}
use Rattle.cells.specs.Claims.{ReasonsClaim}
use Rattle.cells.specs.declared.Reason.{Reason}
use Rattle.cells.specs.declared.Reason.TheVariants.{Sizes, Mark, TextLength, Token, Brackets, Grammar, Limits, Names, Unsound, Columns, Row, Short, Entries, Fields, TooMany}

-- the reason with a number
abbrev reason_at : ℕ → Reason
reason_at n = get_or (Sizes ∷ Sizes ∷ Mark ∷ TextLength ∷ Token ∷ Brackets ∷ Grammar ∷ Limits ∷ Names ∷ Unsound ∷ Columns ∷ Row ∷ Short ∷ Entries ∷ Fields ∷ TooMany ∷ []) n Sizes

reason_back : (x : Reason) → reason_at (reason_number x) ≡ x
reason_back Sizes = refl
reason_back Mark = refl
reason_back TextLength = refl
reason_back Token = refl
reason_back Brackets = refl
reason_back Grammar = refl
reason_back Limits = refl
reason_back Names = refl
reason_back Unsound = refl
reason_back Columns = refl
reason_back Row = refl
reason_back Short = refl
reason_back Entries = refl
reason_back Fields = refl
reason_back TooMany = refl

-- each number has at most two digits
pub reason_small : (x : Reason) → reason_number x < 100
reason_small x = grind arith

-- two refusals with one number have one reason
pub same_reason : {A : Type 0} {x y : Reason} → ◌≡◌ {A = Answer A} (Refused (reason_number x)) (Refused (reason_number y)) → x ≡ y
same_reason {x = x} {y = y} e = let n : reason_number x ≡ reason_number y = cc in sym (reason_back x) ∙ ap reason_at n ∙ reason_back y

pub reasons_claim : ReasonsClaim
reasons_claim = record {
  reasons = λ x y e. sym (reason_back x) ∙ ap reason_at e ∙ reason_back y;
  answers = answers;
}
  where
    answers : {A : Type 0} (x y : Result A Reason) → answer_of x ≡ answer_of y → x ≡ y
    answers (Ok a) (Ok b) e = let z : a ≡ b = cc in ap Ok z
    answers (Err x) (Err y) e = ap Err (same_reason e)
    answers (Ok a) (Err y) e = let z : ◌≡◌ {A = ℕ} 0 1 = cc in absurd (omega arith)
    answers (Err x) (Ok b) e = let z : ◌≡◌ {A = ℕ} 0 1 = cc in absurd (omega arith)
