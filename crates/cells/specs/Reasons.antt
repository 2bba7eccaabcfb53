-- The answers that the code gives: what each case stands for.
use Rattle.std.specs.Prelude.{ℕ, Result, Ok, Err}
use Rattle.tables.specs.Refusals.{Answer, Refused, Given}
use Rattle.cells.specs.declared.Reason.{Reason}
use Rattle.cells.specs.declared.Reason.TheVariants.{Sizes, Mark, TextLength, Token, Brackets, Grammar, Limits, Names, Unsound, Columns, Row, Short, Entries, Fields, TooMany}

-- 'Gate says why not': the number in the table for each reason to refuse; 13 is of document 02, Point 1, 14 and 15 are of Point 2
abbrev pub reason_number : Reason → ℕ
reason_number Sizes = 1
reason_number Mark = 2
reason_number TextLength = 3
reason_number Token = 4
reason_number Brackets = 5
reason_number Grammar = 6
reason_number Limits = 7
reason_number Names = 8
reason_number Unsound = 9
reason_number Columns = 10
reason_number Row = 11
reason_number Short = 12
reason_number Entries = 13
reason_number Fields = 14
reason_number TooMany = 15

-- what a call answers: what it gives, or the number of the reason for which it refuses
abbrev pub answer_of : {A : Type 0} → Result A Reason → Answer A
answer_of (Ok a) = Given a
answer_of (Err x) = Refused (reason_number x)
