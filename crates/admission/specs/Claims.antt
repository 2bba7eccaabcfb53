-- What proofs/ shows of these definitions.
use Rattle.std.specs.Prelude.{◌≡◌, false, List, ◌++◌, map, ℕ, ◌≤◌, ◌<◌, length, take, drop}
use Rattle.std.proofs.Math.Option.{some}
use Rattle.tables.specs.Tables.{columns_of}
use Rattle.tables.specs.Refusals.{Refused, Given, first_applying}
use Rattle.tables.specs.Claims.{BlanksDiffer, DeclinedDiffer}
use Rattle.rule.specs.Condition.{Rule}
use Rattle.rule.specs.Calls.{rule_of, reading_refusals, Accepted, true_rows, admit_call}
use Rattle.translation.specs.Claims.{text_asks_declined}
use Rattle.admission.specs.Output.{output, read_of_text, read_of_tables}
use Rattle.admission.specs.Promise.{Promised}
use Rattle.admission.specs.Cases.{output_cases, printed_of}

-- the list of admitted rows by cases: a refusal of reading is passed up unchanged, with the list as it was; of an accepted text, exactly the rows where
-- its rule is true are given, and how many they are; where the list has fewer elements, 12 is given and the list is as it was
pub record AdmitClaim : Type 0 where
  pub admit_refused : (text file buffer : List ℕ) (n : ℕ) → first_applying (reading_refusals text file) ≡ some n
      → admit_call text file buffer ≡ record { result = Refused n; buffer = buffer }
  pub admit_short : (text file buffer : List ℕ) → Accepted text file → (r : Rule) → rule_of text (columns_of file) ≡ some r
      → length buffer < length (true_rows file r) → admit_call text file buffer ≡ record { result = Refused 12; buffer = buffer }
  pub admit_given : (text file buffer : List ℕ) → Accepted text file → (r : Rule) → rule_of text (columns_of file) ≡ some r
      → length (true_rows file r) ≤ length buffer
      → admit_call text file buffer ≡ record { result = Given (length (true_rows file r)); buffer = true_rows file r ++ drop (length (true_rows file r)) buffer }

-- demand 3 of whatever CARD, RUN and LIST answer within their contracts
abbrev pub PromiseClaim : Type 0
PromiseClaim = (text file : List ℕ) → Accepted text file → Promised text file

-- no file is cut: what is printed for the first bytes of two files, as many as the program reads, is what is printed for all of them
abbrev pub WholeFilesClaim : Type 0
WholeFilesClaim = (text file : List ℕ) → output (take read_of_text text) (take read_of_tables file) ≡ output text file

-- the value bytes of blank and declined cells affect nothing that the program prints; nor do marks 1 in the place of marks 2, where the text's rule does not ask whether cells are declined
-- (document 02, Point 4: declined 'is blank in every respect')
pub record SamePrintedClaim : Type 0 where
  pub blanks : (text file other : List ℕ) → BlanksDiffer file other → output text file ≡ output text other
  pub declined : (text file other : List ℕ) → DeclinedDiffer file other → text_asks_declined text file ≡ false → output text file ≡ output text other

-- what is printed on some files, together
abbrev pub OutputCasesClaim : Type 0
OutputCasesClaim = map printed_of output_cases ≡ map (λ c. c.printed) output_cases
