-- The column of a level that there is exists, if its table has that many.
use Rattle.std.proofs.Common.{arith, ◌≡◌, ap, sym, ◌∙◌, rules}
use Rattle.tables.specs.Bytes.{between}
use Rattle.tables.specs.Values.{value_fits}
use Rattle.checker.proofs.Checking.{column_fits}
use Rattle.checker.proofs.value_fits.Goals as goal

pub returns-then-level-levels : goal.returns-then-level-levels
returns-then-level-levels c =
    let contains : c.contains.result ≡ between 1 c.byte.result c.in-Column.column = search rules in
    contains ∙ ap (λ n. between 1 n c.in-Column.column) c.byte.ensures.is ∙ column_fits _ _ (omega arith) c.requires _ _ c.if-level-levels.true ∙ ap (value_fits _ _) (sym c.in-Column.is)
