-- The number of tables, the sizes, the values and the marks are put one behind another.
use mathlib.Core.Path.{ap, ◌∙◌}
use Rattle.std.proofs.Common.{[], ◌∷◌, ◌++◌, List, ℕ, ◌*◌, take, arith, length-take}
use Rattle.tables.specs.Lists.{placed}
use Rattle.files.specs.Files.{size_of, sizes_part}
use Rattle.importer.proofs.Storing.{table_stored}
use Rattle.importer.proofs.write_table.Goals as goal

pub returns : goal.returns
returns c =
    let a = c.args in
    let n = length-take (a.rows * a.columns) a.values.now in
    table_stored _ _ _ (omega arith) _ c.put_size.ensures c.as_flattened.result.now _ _ c.put_bytes.ensures (omega arith) _ _ (omega arith) c.put_bytes-2.ensures
    ∙ ap (λ (l : List ℕ). placed a.out.now 0 (sizes_part (size_of a.columns a.rows ∷ []) ++ (l ++ take (a.rows * a.columns) a.marks.now))) c.as_flattened.ensures.value
