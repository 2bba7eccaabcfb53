-- No file is cut: a longer text is refused with 3, or a lower number, and a longer tables file with 1, and so are their first bytes.
use mathlib.Core.Path.{◌≡◌, refl, sym, ap, ap₂, ◌∙◌}
use mathlib.Core.Bool.{Bool, true, false, not}
use mathlib.Core.List.{List, ◌++◌}
use mathlib.Core.Option.{Option, none, some}
use Prim.Native.Nat.{ℕ, ◌<◌}
use native.Mathlib.Omega.{arith}
use borrow.Author.Tests.{lt-ltb, ltb-true, ltb-false}
use lib.Dec.{ltb}
use lib.ListN.{length, take, drop}
use lib.Seq.{length-take-le, take_all}
use Rattle.tables.specs.Tables.{sizes_fit}
use Rattle.tables.specs.Refusals.{first_applying, tables_refusals}
use Rattle.tables.proofs.Refusals.{first_one, first_append, first_found}
use Rattle.rule.specs.Calls.{most_bytes, reading_refusals}
use Rattle.cells.proofs.Cells.{sizes_no}
use Rattle.admission.specs.Output.{refusal_text, output_for, output, read_of_text, read_of_tables, WrittenFor}
use Rattle.admission.specs.Claims.{WholeFilesClaim}

pub output_refused : (text file : List ℕ) (n : ℕ) → first_applying (reading_refusals text file) ≡ some n → output text file ≡ refusal_text n
unfolding output
output_refused text file n e = ap (output_for text file) e

-- ---- a long text

long_refused : (text file : List ℕ) → most_bytes < length text → first_applying (tables_refusals file) ≡ none → first_applying (reading_refusals text file) ≡ some 3
unfolding reading_refusals
long_refused text file h e = first_append (tables_refusals file) _ e ∙ first_one 3 _ _ (lt-ltb most_bytes (length text) h)

tables_refused : (text file : List ℕ) (n : ℕ) → first_applying (tables_refusals file) ≡ some n → first_applying (reading_refusals text file) ≡ some n
unfolding reading_refusals
tables_refused text file n e = first_found (tables_refusals file) _ e

-- all long texts are refused alike
long_texts : (text other file : List ℕ) → most_bytes < length text → most_bytes < length other → output text file ≡ output other file
long_texts text other file h l = go (first_applying (tables_refusals file)) refl
  where
    both : (n : ℕ) → first_applying (reading_refusals text file) ≡ some n → first_applying (reading_refusals other file) ≡ some n → output text file ≡ output other file
    both n e f = output_refused text file n e ∙ sym (output_refused other file n f)

    go : (o : Option ℕ) → first_applying (tables_refusals file) ≡ o → output text file ≡ output other file
    go (some n) e = both n (tables_refused text file n e) (tables_refused other file n e)
    go none e = both 3 (long_refused text file h e) (long_refused other file l e)

-- the text is whole, or it is long
whole_text : (text file : List ℕ) → output (take read_of_text text) file ≡ output text file
whole_text text file = go (ltb most_bytes (length text)) refl
  where
    go : (b : Bool) → ltb most_bytes (length text) ≡ b → output (take read_of_text text) file ≡ output text file
    go true e =
        let h = ltb-true most_bytes (length text) e in
        long_texts (take read_of_text text) text file (omega (arith, length-take-le read_of_text text (omega arith))) h
    go false e =
        let h = ltb-false most_bytes (length text) e in
        ap (λ (t : List ℕ). output t file) (take_all read_of_text text (omega arith))

-- ---- a long tables file

long_tables : (text file : List ℕ) → 40985 < length file → output text file ≡ refusal_text 1
unfolding tables_refusals
long_tables text file h =
    let no : false ≡ sizes_fit file = sizes_no file (λ s. let l = s.long in let t = s.tables_high in let m = s.cells_high in omega arith) in
    output_refused text file 1 (tables_refused text file 1 (first_one 1 (not (sizes_fit file)) _ (ap not (sym no))))

whole_tables : (text file : List ℕ) → output text (take read_of_tables file) ≡ output text file
whole_tables text file = go (ltb 40985 (length file)) refl
  where
    go : (b : Bool) → ltb 40985 (length file) ≡ b → output text (take read_of_tables file) ≡ output text file
    go true e =
        let h = ltb-true 40985 (length file) e in
        long_tables text (take read_of_tables file) (omega (arith, length-take-le read_of_tables file (omega arith))) ∙ sym (long_tables text file h)
    go false e =
        let h = ltb-false 40985 (length file) e in
        ap (output text) (take_all read_of_tables file (omega arith))

pub whole_files_claim : WholeFilesClaim
whole_files_claim text file = whole_text text (take read_of_tables file) ∙ whole_tables text file

-- what is written for what was read, for whole files
module _ (read_text read_tables text file : List ℕ) (e : read_text ≡ take read_of_text text) (f : read_tables ≡ take read_of_tables file) where
  same_output : output read_text read_tables ≡ output text file
  same_output = ap₂ output e f ∙ whole_files_claim text file

pub written_for : (read_text read_tables before after : List ℕ) (n : ℕ)
    → after ≡ output read_text read_tables ++ drop (length (output read_text read_tables)) before → n ≡ length (output read_text read_tables)
    → WrittenFor read_text read_tables before after n
written_for read_text read_tables before after n bytes count =
    record {
      bytes_are = λ text file e f. bytes ∙ ap (λ (o : List ℕ). o ++ drop (length o) before) (same_output read_text read_tables text file e f);
      count_is = λ text file e f. count ∙ ap length (same_output read_text read_tables text file e f);
    }
