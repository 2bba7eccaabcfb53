-- The fields of a line, one after another.
use Rattle.importer.proofs.Reading.{LineSoFar}
use Rattle.importer.proofs.read_line.Given as goal

abbrev pub invariant-loop-column : goal.invariant-loop-column
invariant-loop-column l = LineSoFar l.text l.i l.columns l.initial.values l.initial.marks l.k l.values l.marks l.at l.column
