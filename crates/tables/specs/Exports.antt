-- What the C functions give back: a number that is 0 or a refusal's, and the answer through pointers; a refusal leaves what they point to as it was.
use Rattle.std.specs.Prelude.{◌≡◌, Bool, true, false, ℕ}
use Rattle.tables.specs.Refusals.{Answer, Refused, Given}

-- 0 for success, else the refusal's number
abbrev pub status_of : {A : Type 0} → Answer A → ℕ
status_of (Given x) = 0
status_of (Refused n) = n

-- RUN's answer as a number: 0 no, 1 yes
abbrev pub yes_no : Bool → ℕ
yes_no false = 0
yes_no true = 1

-- the number behind a pointer afterwards, where it was `before`
abbrev pub number_after : {A : Type 0} → (A → ℕ) → Answer A → ℕ → ℕ
number_after f (Given x) before = f x
number_after f (Refused n) before = before

-- there is an answer
abbrev pub is_given : {A : Type 0} → Answer A → Bool
is_given (Given x) = true
is_given (Refused n) = false

-- what a C function returns of a call is 0 only where there is an answer: no refusal has that number
abbrev pub ZeroIsSuccess : {A : Type 0} → Answer A → Type 0
ZeroIsSuccess a = status_of a ≡ 0 → is_given a ≡ true
