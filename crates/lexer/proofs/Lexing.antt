-- The tokens of a text, one after the other.
use mathlib.Core.Path.{◌≡◌, refl, sym, ap, subst, ◌∙◌}
use mathlib.Core.Bool.{Bool, true, false}
use mathlib.Core.List.{List, [], ◌∷◌, ◌++◌, append-nil, append_assoc}
use mathlib.Core.Option.{Option, none, some, map}
use Prim.Native.Nat.{ℕ, zero, suc, ◌+◌, ◌-◌, ◌≤◌, ◌<◌, pred}
use native.Mathlib.Numerals.{add-one}
use native.Mathlib.Omega.{arith}
use lib.ListN.{length, take, drop, get_or, set, length-set, length-drop, drop_of_length-le}
use lib.Seq.{drop-cons, drop-drop, get_or-drop, take-suc-set}
use Rattle.numerals.specs.Texts.{take_while}
use Rattle.rule.specs.Tokens.{Lexed, is_gap, first_token, and_then, tokens_after, tokens_of}
use Rattle.rule.specs.declared.Token.{Token}
use Rattle.rule.specs.Grammar.{Tokens}
use Rattle.numerals.proofs.Runs.{run_cons, run_nil, after_run, run_within}
use Rattle.lexer.proofs.Lengths.{Takes, first_takes}

-- ---- on lists

-- a token's own bytes are passed
after_drop : (n : ℕ) (l : List ℕ) → tokens_after n l ≡ tokens_after 0 (drop n l)
unfolding tokens_after
after_drop zero l = refl
after_drop (suc n) [] = refl
after_drop (suc n) (b ∷ bs) = after_drop n bs

-- gaps are passed
gap_first : (b : ℕ) (bs : List ℕ) → is_gap b ≡ true → tokens_after 0 (b ∷ bs) ≡ tokens_after 0 bs
unfolding tokens_after
gap_first b bs e = rw (tokens_after, e)

token_first : (b : ℕ) (bs : List ℕ) → is_gap b ≡ false → tokens_after 0 (b ∷ bs) ≡ and_then (first_token b bs) (λ n. tokens_after n bs)
unfolding tokens_after
token_first b bs e = rw (tokens_after, e)

after_gaps : (l : List ℕ) → tokens_after 0 l ≡ tokens_after 0 (drop (length (take_while is_gap l)) l)
unfolding take_while
after_gaps [] = refl
after_gaps (b ∷ bs) = go (is_gap b) refl (after_gaps bs)
  where
    rest : List ℕ → Option Tokens
    rest run = tokens_after 0 (drop (length run) (b ∷ bs))

    go : (t : Bool) → is_gap b ≡ t → tokens_after 0 bs ≡ tokens_after 0 (drop (length (take_while is_gap bs)) bs)
        → tokens_after 0 (b ∷ bs) ≡ tokens_after 0 (drop (length (take_while is_gap (b ∷ bs))) (b ∷ bs))
    go true e r = gap_first b bs e ∙ r ∙ ap rest (sym (run_cons is_gap b bs e))
    go false e r = ap rest (sym (run_nil is_gap b bs e))

-- tokens before those that are found
abbrev put_before : Tokens → Option Tokens → Option Tokens
put_before ts o = map (λ us. ts ++ us) o

put_none : (o : Option Tokens) → put_before [] o ≡ o
put_none none = refl
put_none (some us) = refl

put_one : (ts : Tokens) (t : Token) (o : Option Tokens) → put_before ts (map (λ us. t ∷ us) o) ≡ put_before (ts ++ (t ∷ [])) o
put_one ts t none = refl
put_one ts t (some us) = ap {B = Option Tokens} some (sym (append_assoc ts (t ∷ []) us))

-- ---- at a place of a text

-- r is where the gaps from i on end
gaps_passed : (text : List ℕ) (i r : ℕ) → i ≤ length text → r ≡ i + length (take_while is_gap (drop i text))
    → (i ≤ r) × (r ≤ length text) × (r < length text → is_gap (get_or text r 0) ≡ false) × (tokens_after 0 (drop i text) ≡ tokens_after 0 (drop r text))
gaps_passed text i r h w =
    let (from, upto, long) = run_within is_gap text i r h w in
    let run = length (take_while is_gap (drop i text)) in (
      from,
      upto,
      λ m. ap (λ (k : ℕ). is_gap (get_or text k 0)) w ∙ ap is_gap (sym (get_or-drop i text run 0)) ∙ after_run is_gap (drop i text) (omega (arith, length-drop i text, w, m)),
      after_gaps (drop i text) ∙ ap (tokens_after 0) (drop-drop run i text) ∙ ap (λ (k : ℕ). tokens_after 0 (drop k text)) (sym w),
    )

module _ (text : List ℕ) (i : ℕ) (h : i < length text) (g : is_gap (get_or text i 0) ≡ false) where
  token_here : tokens_after 0 (drop i text) ≡ and_then (first_token (get_or text i 0) (drop (1 + i) text)) (λ n. tokens_after n (drop (1 + i) text))
  token_here =
      let z : suc i ≡ 1 + i = omega arith in
      ap (tokens_after 0) (drop-cons text i 0 h ∙ ap (λ (k : ℕ). get_or text i 0 ∷ drop k text) z) ∙ token_first (get_or text i 0) (drop (1 + i) text) g

  no_token : none ≡ first_token (get_or text i 0) (drop (1 + i) text) → tokens_after 0 (drop i text) ≡ none
  no_token e = token_here ∙ ap (λ (o : Option Lexed). and_then o (λ n. tokens_after n (drop (1 + i) text))) (sym e)

  module _ (t : Token) (e : ℕ) (f : some (t, e - i) ≡ first_token (get_or text i 0) (drop (1 + i) text)) where
    token_takes : (1 ≤ e - i) × (e - i ≤ suc (length (drop (1 + i) text)))
    token_takes = subst (Takes (suc (length (drop (1 + i) text)))) (sym f) (first_takes (get_or text i 0) (drop (1 + i) text))

    token_end : (i < e) × (e ≤ length text)
    token_end = let (p, q) = token_takes in (omega arith, omega (arith, length-drop (1 + i) text))

    token_then : tokens_after 0 (drop i text) ≡ map (λ ts. t ∷ ts) (tokens_after 0 (drop e text))
    token_then =
        let (p, q) = token_end in
        let z : 1 + i + pred (e - i) ≡ e = omega arith in
        let rest : drop (pred (e - i)) (drop (1 + i) text) ≡ drop e text = drop-drop (pred (e - i)) (1 + i) text ∙ ap (λ (k : ℕ). drop k text) z in
        token_here
        ∙ ap (λ (o : Option Lexed). and_then o (λ n. tokens_after n (drop (1 + i) text))) (sym f)
        ∙ ap (map (λ ts. t ∷ ts)) (after_drop (pred (e - i)) (drop (1 + i) text) ∙ ap (tokens_after 0) rest)

-- ---- what the lexer has done: n tokens are found, of the many that there is room for, and place i is reached, where no gap is
pub record LexedTo (text : List ℕ) (tokens : Tokens) (many n i : ℕ) : Type 0 where
  pub within : i ≤ length text
  pub fewer : n ≤ i
  pub room : length tokens ≡ many
  pub enough : length text ≤ many
  pub no_gap : i < length text → is_gap (get_or text i 0) ≡ false
  pub still : tokens_of text ≡ put_before (take n tokens) (tokens_after 0 (drop i text))

pub lexed_none : (text : List ℕ) (tokens : Tokens) (r : ℕ) → length text ≤ length tokens → r ≡ 0 + length (take_while is_gap (drop 0 text)) → LexedTo text tokens (length tokens) 0 r
unfolding tokens_of
lexed_none text tokens r enough w =
    let (from, upto, gap, rest) = gaps_passed text 0 r (omega arith) w in
    record { within = upto; fewer = omega arith; room = refl; enough = enough; no_gap = gap; still = rest ∙ sym (put_none (tokens_after 0 (drop r text))) }

module _ (text : List ℕ) (tokens : Tokens) (many n i : ℕ) (h : LexedTo text tokens many n i) where
  -- one token more
  pub one_taken : (t : Token) → i < length text → take (n + 1) (set tokens n t) ≡ take n tokens ++ (t ∷ [])
  one_taken t l = rw (add-one n) (take-suc-set tokens n t (omega (arith, h.room, h.fewer, h.enough)))

  -- and the gaps behind it
  pub lexed_more : (t : Token) (e r : ℕ) → i < length text → some (t, e - i) ≡ first_token (get_or text i 0) (drop (1 + i) text)
      → r ≡ e + length (take_while is_gap (drop e text)) → LexedTo text (set tokens n t) many (n + 1) r
  lexed_more t e r l f w =
      let (after, upto) = token_end text i l (h.no_gap l) t e f in
      let (from, within, gap, rest) = gaps_passed text e r upto w in
      record {
        within = within;
        fewer = omega (arith, h.fewer);
        room = length-set tokens n t ∙ h.room;
        enough = h.enough;
        no_gap = gap;
        still =
            h.still
            ∙ ap (put_before (take n tokens)) (token_then text i l (h.no_gap l) t e f)
            ∙ put_one (take n tokens) t (tokens_after 0 (drop e text))
            ∙ ap (put_before (take n tokens ++ (t ∷ []))) rest
            ∙ ap (λ (ts : Tokens). put_before ts (tokens_after 0 (drop r text))) (sym (one_taken t l));
      }

  -- where the token at place i ends
  pub token_ends : (t : Token) (e : ℕ) → i < length text → some (t, e - i) ≡ first_token (get_or text i 0) (drop (1 + i) text) → (i < e) × (e ≤ length text)
  token_ends t e l f = token_end text i l (h.no_gap l) t e f

  pub lexed_stop : i < length text → none ≡ first_token (get_or text i 0) (drop (1 + i) text) → none ≡ tokens_of text
  lexed_stop l f = sym (h.still ∙ ap (put_before (take n tokens)) (no_token text i l (h.no_gap l) f))

  pub lexed_all : length text ≤ i → some (take n tokens) ≡ tokens_of text
  unfolding tokens_after
  lexed_all l =
      sym (h.still ∙ ap (λ (r : List ℕ). put_before (take n tokens) (tokens_after 0 r)) (drop_of_length-le text l)
      ∙ ap {B = Option Tokens} some (append-nil (take n tokens)))
