-- A word is found by the number that it spells: no byte of a word or of a run of capitals is 0, so no two spell the same number.
use mathlib.Core.Path.{◌≡◌, refl, sym, ap, ap₂, subst, ◌∙◌}
use mathlib.Core.Bool.{Bool, true, false, cond, ◌&&◌}
use mathlib.Core.List.{List, [], ◌∷◌, ◌++◌}
use mathlib.Core.Option.{Option as MathOption, none, some, map}
use Rattle.std.specs.Prelude.{Option, Some, None}
use Prim.Native.Nat.{ℕ, ◌+◌, ◌*◌, ◌-◌, ◌≤◌, ◌<◌}
use native.Mathlib.Omega.{arith}
use borrow.Author.Tests.{eqb-true, eqb-false, leb-true, leb-false}
use lib.Ieee.Fits.{and_i}
use lib.Dec.{T, eqb, leb, leb→le}
use lib.ListN.{length, take, drop, take-append-drop, length-drop}
use Rattle.tables.specs.Lists.{same, all}
use Rattle.tables.specs.Bytes.{between}
use Rattle.tables.proofs.Tests.{both, bounds, between_yes, is_so, is_true, refuted}
use Rattle.tables.proofs.Sizes.{same_is, same_refl}
use Rattle.numerals.specs.Texts.{bytes, take_while}
use Rattle.rule.specs.Tokens.{Spelling, Lexed, words, word_in, is_capital}
use Rattle.rule.specs.declared.Token.{Token}
use Rattle.rule.specs.declared.Token.TheVariants.{Fixed}
use Rattle.rule.specs.declared.Word.{Word}
use Rattle.tables.specs.Options.{found}
use Rattle.numerals.specs.Numerals.{in_base}
use Rattle.numerals.proofs.Digits.{in_base_append}
use Rattle.lexer.specs.Code.{most_capitals, word_base, token_spelled, token_to, lexed_as}
use Rattle.lexer.specs.declared.Lexeme.{Lexeme}
use Rattle.digits.specs.Code.{RunAt}
use Rattle.digits.specs.declared.Run.{Run}

abbrev value : ℕ → List ℕ → ℕ
value n l = in_base word_base 0 n l

-- a byte that is not 0
abbrev is_byte : ℕ → Bool
is_byte = between 1 (word_base - 1)

abbrev Digits : List ℕ → Type 0
Digits l = T (all is_byte l)

-- ---- what two runs spell

value_up : (n : ℕ) (l : List ℕ) → n ≤ value n l
value_up n [] = omega arith
value_up n (b ∷ bs) = omega (arith, value_up (word_base * n + (b - 0)) bs)

-- runs of one length that spell the same are the same
same_value : (a b : List ℕ) (n m : ℕ) → Digits a → Digits b → length a ≡ length b → value n a ≡ value m b → (n ≡ m) × (a ≡ b)
same_value [] [] n m da db l e = (e, refl)
same_value [] (y ∷ b) n m da db l e = absurd (omega (arith, l))
same_value (x ∷ a) [] n m da db l e = absurd (omega (arith, l))
same_value (x ∷ a) (y ∷ b) n m da db l e =
    let (dx, da') = both (is_byte x) (all is_byte a) da in
    let (dy, db') = both (is_byte y) (all is_byte b) db in
    let (p, q) = same_value a b (word_base * n + (x - 0)) (word_base * m + (y - 0)) da' db' (omega (arith, l)) e in
    let hx = bounds 1 (word_base - 1) x dx in
    let hy = bounds 1 (word_base - 1) y dy in
    let x-y : x ≡ y = omega (arith, p, hx.0, hx.1, hy.0, hy.1) in (omega (arith, p, x-y), ap₂ ◌∷◌ x-y q)

-- a run that spells 0 is empty
no_value : (l : List ℕ) → Digits l → value 0 l ≡ 0 → l ≡ []
no_value [] d e = refl
no_value (x ∷ l) d e =
    let h = bounds 1 (word_base - 1) x (both (is_byte x) (all is_byte l) d).0 in
    absurd (omega (arith, h.0, value_up (word_base * 0 + (x - 0)) l, e))

digits_append : (a b : List ℕ) → Digits (a ++ b) → Digits a × Digits b
digits_append [] b d = (tt, d)
digits_append (x ∷ a) b d =
    let (p, q) = both (is_byte x) (all is_byte (a ++ b)) d in
    let (r, s) = digits_append a b q in (and_i (is_byte x) (all is_byte a) p r, s)

-- the longer run has the other at its end
value_of_longer : (a b : List ℕ) → Digits a → Digits b → length a ≤ length b → value 0 a ≡ value 0 b → a ≡ b
value_of_longer a b da db h e =
    let k = length b - length a in
    let whole = take-append-drop k b in
    let (df, dr) = digits_append (take k b) (drop k b) (subst Digits (sym whole) db) in
    let long : length a ≡ length (drop k b) = omega (arith, length-drop k b) in
    let (p, q) = same_value a (drop k b) 0 (value 0 (take k b)) da dr long (e ∙ ap (value 0) (sym whole) ∙ in_base_append word_base 0 0 (take k b) (drop k b)) in
    q ∙ ap (λ (l : List ℕ). l ++ drop k b) (sym (no_value (take k b) df (sym p))) ∙ whole

value_one : (a b : List ℕ) → Digits a → Digits b → value 0 a ≡ value 0 b → a ≡ b
value_one a b da db e = go (leb (length a) (length b)) refl
  where
    go : (t : Bool) → leb (length a) (length b) ≡ t → a ≡ b
    go true l = value_of_longer a b da db (leb-true (length a) (length b) l) e
    go false l = let m = leb-false (length a) (length b) l in sym (value_of_longer b a db da (omega arith) (sym e))

-- ---- words

-- comparing two runs is comparing what they spell
same_by_value : (a b : List ℕ) → Digits a → Digits b → same a b ≡ eqb (value 0 a) (value 0 b)
same_by_value a b da db = go (eqb (value 0 a) (value 0 b)) refl
  where
    go : (t : Bool) → eqb (value 0 a) (value 0 b) ≡ t → same a b ≡ t
    go true e = ap (same a) (sym (value_one a b da db (eqb-true (value 0 a) (value 0 b) e))) ∙ is_true (same a a) (same_refl a)
    go false e = refuted (same a b) (λ t. eqb-false (value 0 a) (value 0 b) e (ap (value 0) (same_is a b t)))

-- what the laws below ask of a word
abbrev fits_word : Spelling → Bool
fits_word s = all is_byte s.text && leb (length s.text) most_capitals

every_word_fits : T (all fits_word words)
unfolding words bytes
every_word_fits = tt

first_word : (s : Spelling) (ss : List Spelling) → T (all fits_word (s ∷ ss)) → Digits s.text × (length s.text ≤ most_capitals) × T (all fits_word ss)
first_word s ss h =
    let (p, rest) = both (fits_word s) (all fits_word ss) h in
    let (d, l) = both (all is_byte s.text) (leb (length s.text) most_capitals) p in (d, leb→le (length s.text) most_capitals l, rest)

-- the word that was found, which takes n bytes
abbrev word_lexed : MathOption Token → ℕ → MathOption Lexed
word_lexed o n = map (λ t. (t, n)) o

word_by_value : (ss : List Spelling) (w : List ℕ) → T (all fits_word ss) → Digits w → word_in ss w ≡ word_lexed (token_spelled ss (value 0 w)) (length w)
unfolding word_in token_spelled
word_by_value [] w f d = refl
word_by_value (s ∷ ss) w f d =
    let (ds, short, rest) = first_word s ss f in
    go (eqb (value 0 s.text) (value 0 w)) (same_by_value s.text w ds d) (word_by_value ss w rest d)
  where
    go : (t : Bool) → same s.text w ≡ t → word_in ss w ≡ word_lexed (token_spelled ss (value 0 w)) (length w)
        → elim (same s.text w) [ true ↦ some (s.token, length w) | false ↦ word_in ss w ] ≡ word_lexed (cond t (some s.token) (token_spelled ss (value 0 w))) (length w)
    go true is r = rw is
    go false is r = rw (is) r

too_long : (ss : List Spelling) (w : List ℕ) → T (all fits_word ss) → most_capitals < length w → none ≡ word_in ss w
unfolding word_in
too_long [] w f h = refl
too_long (s ∷ ss) w f h =
    let (ds, short, rest) = first_word s ss f in
    let differ = refuted (same s.text w) (λ u. omega (arith, h, short, ap length (same_is s.text w u))) in
    rw (word_in, differ) (too_long ss w rest h)

-- ---- the word of a run of capitals, which starts at i

digits_run : (l : List ℕ) → Digits (take_while is_capital l)
unfolding take_while
digits_run [] = tt
digits_run (b ∷ bs) = go (is_capital b) refl (digits_run bs)
  where
    go : (t : Bool) → is_capital b ≡ t → Digits (take_while is_capital bs) → Digits (elim t [ true ↦ b ∷ take_while is_capital bs | false ↦ [] ])
    go true e d =
        let (p, q) = bounds 65 90 b (is_so (is_capital b) e) in
        and_i (is_byte b) (all is_byte (take_while is_capital bs)) (is_so (is_byte b) (between_yes 1 (word_base - 1) b (omega arith) (omega arith))) d
    go false e d = tt

module _ (text : List ℕ) (i : ℕ) (r : Run) (run : RunAt text i 65 90 word_base 0 most_capitals r) where
  abbrev capitals : List ℕ
  capitals = take_while is_capital (drop i text)

  long : r.end - i ≡ length capitals
  long = omega (arith, run.ends)

  pub word_long : most_capitals < r.end - i → none ≡ word_in words capitals
  word_long m = too_long words capitals every_word_fits (omega (arith, long))

  module _ (o : Option Word) (short : r.end - i ≤ most_capitals) (w : map Fixed (found o) ≡ token_spelled words r.number) where
    word_known : word_lexed (map Fixed (found o)) (r.end - i) ≡ word_in words capitals
    word_known =
        sym (word_by_value words capitals every_word_fits (digits_run (drop i text)) ∙ sym (ap₂ word_lexed (w ∙ ap (token_spelled words) (run.spells short)) long))

    pub word_none : o ≡ None → none ≡ word_in words capitals
    word_none e = rw e at word_known

    pub word_found : (c : Word) (x : Lexeme) → o ≡ Some c → x ≡ token_to (Fixed c) r.end → lexed_as i (Some x) ≡ word_in words capitals
    word_found c x e t = rw t (rw e at word_known)

-- what word answers
pub ruleset word_rules = (word_long, word_none, word_found)
