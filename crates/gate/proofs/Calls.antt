-- RUN and LIST by cases: what refuses them first, and what they answer.
use mathlib.Core.Path.{◌≡◌, refl, sym, ap, ap₂, ◌∙◌}
use mathlib.Core.Bool.{Bool, true, false, not, ◌&&◌}
use mathlib.Core.List.{List, [], ◌∷◌, ◌++◌}
use mathlib.Core.Option.{none, some}
use Prim.Native.Nat.{ℕ, zero, suc, ◌+◌, ◌≤◌, ◌<◌, suc-le-suc}
use Rattle.std.proofs.Common.{add-zero, zero-add}
use Rattle.std.specs.Prelude.{Ok, Err}
use Rattle.std.specs.List.{range_with_len, list_all}
use lib.Dec.{eqb}
use native.Mathlib.Omega.{arith}
use lib.ListN.{length, drop}
use Rattle.tables.specs.Lists.{tabulate, same}
use Rattle.tables.specs.Bytes.{byte_at}
use Rattle.tables.specs.Tables.{table_count, size_at, columns_of, row_count}
use Rattle.tables.specs.Refusals.{◌if◌, first_applying, Answer, Refused, Given, Lent, tables_refusals, tables_call}
use Rattle.cells.specs.Reasons.{reason_number}
use Rattle.cells.specs.declared.Reason.{Reason}
use Rattle.tables.proofs.Refusals.{first_nil, first_one, first_none, first_append, first_found, unless_none, unless_some}
use Rattle.tables.proofs.Tests.{refuted}
use Rattle.tables.proofs.Tabulated.{tabulate_length}
use Rattle.tables.proofs.Sizes.{columns_are, columns_count, same_is}
use Rattle.cells.proofs.Valid.{given_none, refused_some, tables_refuse, tables_pass}
use Rattle.card.specs.Layout.{tables_in, columns_in}
use Rattle.card.specs.Sound.{sound}
use Rattle.card.specs.Calls.{says_yes, yes_rows, check_refusals, fits_tables, gate_refusals, run_call, list_call}
use Rattle.card.proofs.Claims.{calls_claim}
use Rattle.gate.specs.Code.{prepare_call}

-- ---- whether a card fits the tables

same_no : (xs ys : List ℕ) → (xs ≡ ys → ⊥) → false ≡ same xs ys
same_no xs ys f = sym (refuted (same xs ys) (λ t. f (same_is xs ys t)))

-- two lists by their elements
same_each : (n a : ℕ) (f g : ℕ → ℕ) (p : ℕ → Bool) → ((k : ℕ) → k < n → p (a + k) ≡ eqb (f k) (g k)) → list_all p (range_with_len a n) ≡ same (tabulate n f) (tabulate n g)
same_each zero a f g p h = refl
same_each (suc n) a f g p h =
    ap₂ ◌&&◌ (let z = h 0 (omega arith) in rw (add-zero a) at z)
    (same_each n (a + 1) (λ k. f (suc k)) (λ k. g (suc k)) p (λ k l. let e : a + 1 + k ≡ a + suc k = omega arith in rw e (h (suc k) (suc-le-suc l))))

module _ (card file : List ℕ) where
  pub fits_count : (tables_in card ≡ table_count file → ⊥) → false ≡ fits_tables card file
  unfolding fits_tables columns_in
  fits_count f =
      same_no (columns_in card) (columns_of file) (λ e.
      f (sym (tabulate_length (tables_in card) (λ j. byte_at card (3 + j))) ∙ ap length e ∙ columns_count file))

  -- where there are as many tables, their columns decide
  abbrev pub column_fits : ℕ → Bool
  column_fits j = eqb (byte_at card (3 + j)) (size_at file j).columns

  pub fits_each : (n : ℕ) → tables_in card ≡ n → n ≡ table_count file → list_all column_fits (range_with_len 0 n) ≡ fits_tables card file
  unfolding fits_tables columns_in
  fits_each n e f =
      same_each n 0 (λ j. byte_at card (3 + j)) (λ j. (size_at file j).columns) column_fits (λ k l. ap column_fits (zero-add k))
      ∙ ap₂ same (ap (λ (n : ℕ). tabulate n (λ j. byte_at card (3 + j))) (sym e)) (ap (λ (n : ℕ). tabulate n (λ j. (size_at file j).columns)) f ∙ sym (columns_are file))

-- ---- what is looked at first

module _ (card file : List ℕ) where
  pub prepare_tables : (x : Reason) → Refused (reason_number x) ≡ tables_call file → Refused (reason_number x) ≡ prepare_call card file
  unfolding prepare_call gate_refusals
  prepare_tables x p = sym (unless_some _ _ (first_found (tables_refusals file) _ (tables_refuse file (Err x) x refl p)))

  module _ (p : Given tt ≡ tables_call file) where
    pub prepare_unsound : false ≡ sound card → Refused 9 ≡ prepare_call card file
    unfolding prepare_call gate_refusals check_refusals
    prepare_unsound s = sym (unless_some _ _ (first_append (tables_refusals file) _ (tables_pass file (Ok tt) refl p) ∙ first_one 9 (not (sound card)) _ (ap not (sym s))))

    module _ (s : true ≡ sound card) where
      gate_last : first_applying (gate_refusals card file) ≡ first_applying ((10 if not (fits_tables card file)) ∷ [])
      unfolding gate_refusals check_refusals
      gate_last =
          first_append (tables_refusals file) _ (tables_pass file (Ok tt) refl p)
          ∙ first_append (check_refusals card) _ (first_none 9 (not (sound card)) [] (ap not (sym s)) first_nil)

      pub prepare_columns : false ≡ fits_tables card file → Refused 10 ≡ prepare_call card file
      unfolding prepare_call
      prepare_columns f = sym (unless_some _ _ (gate_last ∙ first_one 10 (not (fits_tables card file)) [] (ap not (sym f))))

      pub prepare_ready : true ≡ fits_tables card file → Given tt ≡ prepare_call card file
      unfolding prepare_call
      prepare_ready f = sym (unless_none _ _ (gate_last ∙ first_none 10 (not (fits_tables card file)) [] (ap not (sym f)) first_nil))

-- ---- the calls

module _ (card file : List ℕ) where
  gate_refused : {n : ℕ} → Refused n ≡ prepare_call card file → first_applying (gate_refusals card file) ≡ some n
  unfolding prepare_call
  gate_refused p = refused_some (λ _. tt) (first_applying (gate_refusals card file)) p

  gate_none : Given tt ≡ prepare_call card file → first_applying (gate_refusals card file) ≡ none
  unfolding prepare_call
  gate_none p = given_none (λ _. tt) (first_applying (gate_refusals card file)) p

  module _ (row : ℕ) where
    pub run_refused : {n : ℕ} → Refused n ≡ prepare_call card file → Refused n ≡ run_call card file row
    run_refused {n} p = sym (calls_claim.run_refused card file row n (gate_refused p))

    module _ (p : Given tt ≡ prepare_call card file) where
      pub run_no_row : row_count file 1 ≤ row → Refused 11 ≡ run_call card file row
      run_no_row h = sym (calls_claim.run_no_row card file row (gate_none p) h)

      pub run_says : {says : Bool} → row < row_count file 1 → says ≡ says_yes card file row → Given says ≡ run_call card file row
      run_says h s = ap Given s ∙ sym (calls_claim.run_given card file row (gate_none p) h)

  module _ (buffer : List ℕ) where
    abbrev Lists : Answer ℕ → List ℕ → Type 0
    Lists a after = (a ≡ (list_call card file buffer).result) × (after ≡ (list_call card file buffer).buffer)

    lent : (l : Lent ℕ) → list_call card file buffer ≡ l → Lists l.result l.buffer
    lent l e = (ap (λ (a : Lent ℕ). a.result) (sym e), ap (λ (a : Lent ℕ). a.buffer) (sym e))

    pub list_refused : {n : ℕ} → Refused n ≡ prepare_call card file → Lists (Refused n) buffer
    list_refused {n} p = lent _ (calls_claim.list_refused card file buffer n (gate_refused p))

    module _ {k : ℕ} (p : Given tt ≡ prepare_call card file) (count : k ≡ length (yes_rows card file)) where
      pub list_short : length buffer < k → Lists (Refused 12) buffer
      list_short h = lent _ (calls_claim.list_short card file buffer (gate_none p) (omega arith))

      pub list_given : k ≤ length buffer → Lists (Given k) (yes_rows card file ++ drop k buffer)
      list_given h = rw count (lent _ (calls_claim.list_given card file buffer (gate_none p) (omega arith)))
