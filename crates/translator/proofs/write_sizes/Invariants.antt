-- `translator::write_sizes` meets its contract. The loop's invariant: the columns of the first j tables are in their places.
use Rattle.tables.specs.Tables.{columns_of}
use Rattle.tables.proofs.Placed.{Copied}
use Rattle.translator.proofs.write_sizes.Given as goal

abbrev pub invariant-loop-j : goal.invariant-loop-j
invariant-loop-j l =
    Copied l.initial.out 3 (columns_of l.file) l.out l.j
