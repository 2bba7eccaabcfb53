-- A field as it is found: a number, a `!`, or nothing.
use mathlib.Core.Path.{◌≡◌, sym, ap, ap₂, ◌∙◌}
use mathlib.Core.List.{List, ◌∷◌}
use Rattle.std.proofs.Math.Option.{none, some}
use Prim.Native.Nat.{ℕ, suc, ◌+◌, ◌-◌, ◌<◌, ◌≤◌}
use native.Mathlib.Omega.{arith}
use borrow.Author.Tests.{eq-eqb, ne_eqb}
use lib.IntN.{ℤ}
use lib.ListN.{length, get_or, drop, drop_of_length-le}
use lib.Seq.{drop-cons}
use Rattle.tables.specs.Bytes.{bits}
use Rattle.tables.specs.Tables.{Cell, Blank, Declined}
use Rattle.files.specs.Files.{raw_cell}
use Rattle.numerals.specs.Numerals.{first_number}
use Rattle.digits.proofs.Numbers.{found_ends}
use Rattle.lines.specs.Lines.{exclamation}
use Rattle.lines.specs.Calls.{stored_cell}
use Rattle.importer.specs.Code.{other_cell, number_cell, field_from, FieldAt}

module _ (text : List ℕ) (i : ℕ) where
  pub field_number : (n : ℤ) (raw e : ℕ) → raw ≡ bits n → some (n, e - i) ≡ first_number (drop i text) → FieldAt text i (record { bits = raw; mark = 0; end = e })
  unfolding field_from
  field_number n raw e same f =
      let (low, high) = found_ends text i n e f in
      record {
        stored = ap (λ (b : ℕ). raw_cell b 0) same ∙ ap (λ x. stored_cell (number_cell (other_cell (drop i text)) x).0) f;
        ends = let z : e ≡ i + (e - i) = omega arith in z ∙ ap (λ x. i + (number_cell (other_cell (drop i text)) x).1) f;
        inside = high;
      }

  -- where no number was found
  module _ (f : first_number (drop i text) ≡ none) where
    other_is : (x : Cell × ℕ) → other_cell (drop i text) ≡ x → x ≡ field_from (drop i text)
    unfolding field_from
    other_is x e = sym (ap₂ number_cell e f)

    empty_field : other_cell (drop i text) ≡ (Blank, 0) → i ≤ length text → FieldAt text i (record { bits = 0; mark = 1; end = i })
    empty_field e h =
        record {
          stored = ap (λ (x : Cell × ℕ). stored_cell x.0) (other_is _ e);
          ends = let z : i ≡ i + 0 = omega arith in z ∙ ap (λ (x : Cell × ℕ). i + x.1) (other_is _ e);
          inside = h;
        }

    here : i < length text → drop i text ≡ get_or text i 0 ∷ drop (suc i) text
    here h = drop-cons text i 0 h

    -- at the end of the text
    pub ended_field : length text ≤ i → i ≤ length text → FieldAt text i (record { bits = 0; mark = 1; end = i })
    ended_field l h = empty_field (ap other_cell (drop_of_length-le text l)) h

    -- before a byte that is no `!`
    pub blank_field : i < length text → (get_or text i 0 ≡ exclamation → ⊥) → FieldAt text i (record { bits = 0; mark = 1; end = i })
    blank_field h g = empty_field (ap other_cell (here h) ∙ rw (ne_eqb (get_or text i 0) exclamation g)) (omega arith)

    pub declined_field_lem : i < length text → get_or text i 0 ≡ exclamation → FieldAt text i (record { bits = 0; mark = 2; end = i + 1 })
    declined_field_lem h g =
        let e : other_cell (drop i text) ≡ (Declined, 1) = ap other_cell (here h) ∙ rw (eq-eqb (get_or text i 0) exclamation g) in
        record {
          stored = ap (λ (x : Cell × ℕ). stored_cell x.0) (other_is _ e);
          ends = ap (λ (x : Cell × ℕ). i + x.1) (other_is _ e);
          inside = omega arith;
        }
