-- The bytes of the values, then those of the marks.
use native.Mathlib.Omega.{arith}
use Rattle.storing.proofs.Copying.{cells_copied}
use Rattle.storing.proofs.copy_cells.Goals as goal

pub returns : goal.returns
returns c =
    cells_copied c.args.file.now (λ i. omega (arith, c.type_inv.file i)) c.requires.fact_1 c.args.first c.args.n c.requires.fact_2
    c.args.bytes.now _ _ c.args.values c.args.marks c.args.k c.byte.result c.byte.ensures.is
    c.put_bytes.ensures
    c.put_bytes-2.ensures
