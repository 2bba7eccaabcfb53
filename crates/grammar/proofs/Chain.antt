-- What the loop of `read_joined` keeps, and what one turn does to it, over the connective.
use mathlib.Core.Path.{◌≡◌, refl, sym, ap, ap₂, ◌∙◌}
use mathlib.Core.Bool.{Bool, true, false}
use mathlib.Core.List.{List, [], ◌++◌, append-nil}
use mathlib.Core.Option.{Option, none, some}
use Prim.Native.Nat.{ℕ, ◌+◌, ◌≤◌, max}
use native.Mathlib.Omega.{arith}
use lib.ListN.{length, take}
use Rattle.tables.specs.Lists.{◌>>=◌}
use Rattle.tables.specs.declared.Connective.{Connective}
use Rattle.rule.specs.Condition.{Join, WrittenCondition, parts, froms_deep}
use Rattle.rule.specs.Grammar.{Tokens}
use Rattle.rule.specs.Names.{most_parts}
use Rattle.rule.specs.declared.Token.TheVariants.{Fixed}
use Rattle.rule.specs.declared.Word.{Word}
use Rattle.rule.specs.Calls.{is_there}
use Rattle.rule.specs.Reader.{expect, branch, reading, chain, operand, more, join_word}
use Rattle.rule.proofs.Steps.{reading_chain, reading_more}
use Rattle.phrases.specs.Code.{Note, noted, tokens_from, Moved, Stands}
use Rattle.phrases.proofs.Tokens.{expect_to}
use Rattle.grammar.specs.Code.{join_parts, join_notes, Ready, Reads}
use Rattle.grammar.proofs.Noting.{Noted, both_noted}

-- ---- an operand, and those before it, if there are any

abbrev join_to : Connective → Option WrittenCondition → WrittenCondition → WrittenCondition
join_to j none b = b
join_to j (some a) b = Join j a b

abbrev parts_before : Option WrittenCondition → ℕ
parts_before none = 0
parts_before (some a) = parts a

abbrev deep_before : Option WrittenCondition → ℕ
deep_before none = 0
deep_before (some a) = froms_deep a

abbrev noted_before : Option WrittenCondition → List Note
noted_before none = []
noted_before (some a) = noted a

join_parts_lem : (j : Connective) (left : Option WrittenCondition) (b : WrittenCondition) → parts (join_to j left b) ≡ parts_before left + parts b + join_parts (is_there left)
unfolding parts
join_parts_lem j none b = omega arith
join_parts_lem j (some a) b = omega arith

join_deep : (j : Connective) (left : Option WrittenCondition) (b : WrittenCondition) → froms_deep (join_to j left b) ≡ max (deep_before left) (froms_deep b)
unfolding froms_deep
join_deep j none b = omega arith
join_deep j (some a) b = refl

join_noted : (j : Connective) (left : Option WrittenCondition) (b : WrittenCondition) → noted (join_to j left b) ≡ noted_before left ++ (noted b ++ join_notes (is_there left) j)
unfolding noted
join_noted j none b = sym (append-nil (noted b))
join_noted j (some a) b = refl

-- ---- the operands read so far

-- before an operand, the first or one behind the connective's word: what stands left of it, which the rest at `next` makes whole
pub record Before (j : Connective) (s : Tokens) (at w : ℕ) (old : List Note) (joins : Bool) (out : List Note) (next n d : ℕ) : Type 0 where
  pub left : Option WrittenCondition
  pub first : joins ≡ is_there left
  pub same : reading (chain j) (tokens_from s at) ≡ (reading (operand j) (tokens_from s next) >>= (λ b. reading (more j (join_to j left b.0)) b.1))
  pub later : at ≤ next
  pub within : next ≤ length s
  pub count : n ≡ w + parts_before left
  pub froms : d ≡ deep_before left
  pub used : n + at + join_parts joins ≤ next + w
  pub notes : Noted old out w n (noted_before left)

-- after some operands: the tree so far, from which the rest at `next` gives the whole
pub record SoFar (j : Connective) (s : Tokens) (at w : ℕ) (old out : List Note) (next n d : ℕ) : Type 0 where
  pub tree : WrittenCondition
  pub same : reading (chain j) (tokens_from s at) ≡ reading (more j tree) (tokens_from s next)
  pub moved : Moved s at next
  pub count : n ≡ w + parts tree
  pub froms : d ≡ froms_deep tree
  pub used : n + at ≤ next + w
  pub notes : Noted old out w n (noted tree)

module _ (j : Connective) (s : Tokens) (at : ℕ) where
  pub begins : {w : ℕ} {old : List Note} → Ready s at w → Before j s at w old false old at w 0
  begins {w} {old} r = record {
    left = none;
    first = refl;
    same = reading_chain j (tokens_from s at);
    later = omega arith;
    within = r.within;
    count = omega arith;
    froms = refl;
    used = omega arith;
    notes = record { first = λ h. sym (append-nil (take w old)) };
  }

  module _ {w : ℕ} {old : List Note} {joins : Bool} {out : List Note} {next n d : ℕ} (f : Before j s at w old joins out next n d) where
    -- one operand more
    pub turns : {mid new : List Note} {behind m e k g : ℕ} → Reads (reading (operand j) (tokens_from s next)) s next n out mid behind m e
        → k ≡ m + join_parts joins → (k ≤ most_parts → take k new ≡ take m mid ++ join_notes joins j) → g ≡ max d e
        → SoFar j s at w old new behind k g
    turns r grows put deeper =
        let b : WrittenCondition = r.tree in
        let p : parts (join_to j f.left b) ≡ parts_before f.left + parts b + join_parts joins = rw f.first (join_parts_lem j f.left b) in
        let q : noted (join_to j f.left b) ≡ noted_before f.left ++ (noted b ++ join_notes joins j) = rw f.first (join_noted j f.left b) in
        let noting = both_noted (omega (arith, r.count)) f.notes (both_noted (omega arith) (record { first = r.notes }) (record { first = put })) in
        record {
          tree = join_to j f.left b;
          same = f.same ∙ ap (◌>>= (λ b. reading (more j (join_to j f.left b.0)) b.1)) r.reads;
          moved = record { later = omega (arith, f.later, r.moved.later); within = r.moved.within };
          count = omega (arith, f.count, r.count);
          froms = deeper ∙ ap₂ max f.froms r.froms ∙ sym (join_deep j f.left b);
          used = omega (arith, f.used, r.used);
          notes = rw q noting;
        }

  module _ {w : ℕ} {old out : List Note} {next n d : ℕ} (f : SoFar j s at w old out next n d) where
    rest : {o : Option Tokens} → expect (Fixed (join_word j)) (tokens_from s next) ≡ o
        → reading (chain j) (tokens_from s at) ≡ branch o (λ us. reading (operand j) us >>= (λ b. reading (more j (Join j f.tree b.0)) b.1)) (λ _. some (f.tree, tokens_from s next))
    rest e =
        f.same ∙ reading_more j f.tree (tokens_from s next)
        ∙ ap (λ (o : Option Tokens). branch o (λ us. reading (operand j) us >>= (λ b. reading (more j (Join j f.tree b.0)) b.1)) (λ _. some (f.tree, tokens_from s next))) e

    -- no operand more
    pub ends : {word : Word} → word ≡ join_word j → expect (Fixed word) (tokens_from s next) ≡ none → Reads (reading (chain j) (tokens_from s at)) s at w old out next n d
    ends is absent =
        record {
          tree = f.tree;
          reads = rest {o = none} (rw (← is) absent);
          moved = f.moved;
          count = f.count;
          froms = f.froms;
          used = f.used;
          notes = f.notes.first;
        }

    -- the connective's word, and what follows it
    pub goes_on : {word : Word} → word ≡ join_word j → Stands s next (Fixed word) → Before j s at w old true out (next + 1) n d
    goes_on is there =
        record {
          left = some f.tree;
          first = refl;
          same = rest {o = some (tokens_from s (next + 1))} (rw (← is) (expect_to there));
          later = omega (arith, f.moved.later);
          within = omega (arith, there.within);
          count = f.count;
          froms = f.froms;
          used = omega (arith, f.used);
          notes = f.notes;
        }
