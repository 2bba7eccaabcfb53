-- The notes of a condition: its own stands behind those of the conditions in it.
use Rattle.std.proofs.Common.{◌≡◌, ℕ, ◌+◌, ◌-◌, ◌≤◌, List, [], ◌∷◌, ◌++◌, append_assoc, length, get_or, take, length-append, refl, sym, ap, ◌∙◌, arith}
use Rattle.std.proofs.lemmas.List.{append-nil}
use lib.Seq.{length-take-le, take_at, take-take, get_or-take, get_or-append-add}
use Rattle.rule.specs.Condition.{Atom, Join, Apply, Exists, Listed, WrittenCondition, parts, froms_deep}
use Rattle.rule.specs.declared.Head.TheVariants.{JoinHead, UnaryHead, ExistsHead, ListedHead}
use Rattle.phrases.specs.Code.{Note, noted}
use Rattle.scopes.specs.Code.{letters_in}
use Rattle.names.specs.Code.{own_head, inner, inner_count, parts_all, deep_all, noted_all}

own_last : (t : WrittenCondition) → noted t ≡ noted_all (inner t) ++ (own_head t ∷ [])
unfolding noted
own_last (Atom x) = refl
own_last (Join j a b) = rw (append-nil (noted b)) (sym (append_assoc (noted a) (noted b) (JoinHead j ∷ [])))
own_last (Apply u a) = rw (append-nil (noted a)) refl
own_last (Exists f w) = rw (append-nil (noted w)) refl
own_last (Listed q op l s f w) = rw (append-nil (noted w)) refl

pub noted_length : (t : WrittenCondition) → length (noted t) ≡ parts t
unfolding noted parts
noted_length (Atom x) = refl
noted_length (Join j a b) = omega (arith, length-append (noted a) (noted b ++ (JoinHead j ∷ [])), length-append (noted b) (JoinHead j ∷ []), noted_length a, noted_length b)
noted_length (Apply u a) = omega (arith, length-append (noted a) (UnaryHead u ∷ []), noted_length a)
noted_length (Exists f w) = omega (arith, length-append (noted w) (ExistsHead f ∷ []), noted_length w)
noted_length (Listed q op l s f w) = omega (arith, length-append (noted w) (ListedHead q op l s f ∷ []), noted_length w)

pub parts_in : (t : WrittenCondition) → parts t ≡ 1 + parts_all (inner t)
unfolding parts
parts_in (Atom x) = refl
parts_in (Join j a b) = omega arith
parts_in (Apply u a) = omega arith
parts_in (Exists f w) = omega arith
parts_in (Listed q op l s f w) = omega arith

pub deep_in : (t : WrittenCondition) → froms_deep t ≡ letters_in (own_head t) + deep_all (inner t)
unfolding froms_deep
deep_in (Atom x) = refl
deep_in (Join j a b) = omega arith
deep_in (Apply u a) = omega arith
deep_in (Exists f w) = omega arith
deep_in (Listed q op l s f w) = omega arith

pub count_in : (t : WrittenCondition) → length (inner t) ≡ inner_count (own_head t)
count_in (Atom x) = refl
count_in (Join j a b) = refl
count_in (Apply u a) = refl
count_in (Exists f w) = refl
count_in (Listed q op l s f w) = refl

-- ---- the notes of a condition among others

module _ (notes before xs ys : List Note) (h : ℕ) (room : h ≤ length notes) (are : take h notes ≡ before ++ (xs ++ ys)) where
  behind_length : length before + (length xs + length ys) ≡ h
  behind_length = omega (arith, length-take-le h notes room, ap length are, length-append before (xs ++ ys), length-append xs ys)

  pub front_are : (k : ℕ) → k + length ys ≡ h → take k notes ≡ before ++ xs
  front_are k e =
      sym (take-take k h notes (omega arith)) ∙ ap (take k) (are ∙ sym (append_assoc before xs ys)) ∙ take_at (before ++ xs) ys k (omega (arith, behind_length, length-append before xs))

module _ (notes before : List Note) (h : ℕ) (room : h ≤ length notes) (t : WrittenCondition) (are : take h notes ≡ before ++ noted t) where
  own_are : take h notes ≡ before ++ (noted_all (inner t) ++ (own_head t ∷ []))
  own_are = are ∙ ap (before ++◌) (own_last t)

  -- there are as many notes
  pub enough : parts t ≤ h
  enough = omega (arith, length-take-le h notes room, ap length are, length-append before (noted t), noted_length t)

  pub some_notes : 1 ≤ h
  some_notes = omega (arith, enough, parts_in t)

  pub inner_are : take (h - 1) notes ≡ before ++ noted_all (inner t)
  inner_are = front_are notes before (noted_all (inner t)) (own_head t ∷ []) h room own_are (h - 1) (omega (arith, some_notes))

  -- the last of them says what the condition says by itself
  pub note_is : (d : Note) → get_or notes (h - 1) d ≡ own_head t
  note_is d =
      let xs = before ++ noted_all (inner t) in
      let long : length xs + 0 ≡ h - 1 = omega (arith, some_notes, behind_length notes before (noted_all (inner t)) (own_head t ∷ []) h room own_are, length-append before (noted_all (inner t))) in
      sym (get_or-take h notes (h - 1) d (omega (arith, some_notes)))
      ∙ ap (λ (l : List Note). get_or l (h - 1) d) (own_are ∙ sym (append_assoc before (noted_all (inner t)) (own_head t ∷ [])))
      ∙ ap (λ (i : ℕ). get_or (xs ++ (own_head t ∷ [])) i d) (sym long)
      ∙ get_or-append-add xs (own_head t ∷ []) 0 d
