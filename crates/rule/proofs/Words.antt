-- Words and signs are told apart by their numbers.
use mathlib.Core.Path.{◌≡◌, refl, sym, ap, ◌∙◌}
use mathlib.Core.Bool.{true}
use mathlib.Core.List.{[], ◌∷◌}
use Prim.Native.Nat.{ℕ}
use borrow.Author.Tests.{eqb-true}
use lib.ListN.{get_or}
use Rattle.rule.specs.Tokens.{word_number, same_word}
use Rattle.rule.specs.declared.Word.{Word}
use Rattle.rule.specs.declared.Word.TheVariants.{And, Or, Not, Exists, In, Some, All, Is, Null, Select, From, Where, Open, Close, Point, True, False, Unknown, Declined}

-- the word with a number
abbrev word_at : ℕ → Word
word_at n =
    get_or (And ∷ And ∷ Or ∷ Not ∷ Exists ∷ In ∷ Some ∷ All ∷ Is ∷ Null ∷ Select ∷ From ∷ Where ∷ Open ∷ Close ∷ Point ∷ True ∷ False ∷ Unknown ∷ Declined ∷ []) n And

word_back : (w : Word) → word_at (word_number w) ≡ w
word_back And = refl
word_back Or = refl
word_back Not = refl
word_back Exists = refl
word_back In = refl
word_back Some = refl
word_back All = refl
word_back Is = refl
word_back Null = refl
word_back Select = refl
word_back From = refl
word_back Where = refl
word_back Open = refl
word_back Close = refl
word_back Point = refl
word_back True = refl
word_back False = refl
word_back Unknown = refl
word_back Declined = refl

pub same_word_is : (v w : Word) → same_word v w ≡ true → v ≡ w
same_word_is v w e = sym (word_back v) ∙ ap word_at (eqb-true (word_number v) (word_number w) e) ∙ word_back w
