use mathlib.Core.Bool.{true≢false}
use native.Mathlib.Omega.{arith}
use borrow.Author.Tests.{eqb-true, eqb-false}
use Rattle.std.proofs.Common.{◌≡◌, ◌+◌, ◌-◌, ap, true, sym, ◌∙◌, rules}
use Rattle.tables.specs.Lists.{all}
use Rattle.tables.specs.Bytes.{between}
use Rattle.tables.specs.Tables.{most_tables, most_columns}
use Rattle.tables.specs.Values.{most_entries}
use Rattle.tables.proofs.Tests.{is_so, bounds, between_yes}
use Rattle.decoder.proofs.Decoding.{columns_are, laid_no, laid_columns}
use Rattle.decoder.proofs.laid_out.Goals.{then-contains, else-contains, then-contains-2, else-contains-2}
use Rattle.decoder.proofs.laid_out.Goals as goal

pub returns-then-card-lt3 : goal.returns-then-card-lt3
returns-then-card-lt3 c = laid_no _ (λ h. omega arith)

pub returns-then-card-t : goal.returns-then-card-t
returns-then-card-t c =
    let entries : c.contains.result ≡ between 1 most_entries c.read16-n.result = search rules in
    elim c.if-contains-2.branch [
      | then-contains-2 w ↦ (elim c.if-contains.branch [
        | then-contains v ↦
            let tables : v.contains-then-contains.result ≡ between 1 most_tables c.byte-t.result = search rules in
            let n = bounds 1 most_entries c.read16-n.result (is_so _ (sym entries ∙ v.if-contains.true)) in
            let t = bounds 1 most_tables c.byte-t.result (is_so _ (sym tables ∙ sym v.value-is ∙ w.if-contains-2.true)) in
            let long = eqb-true _ _ (sym w.value-is ∙ c.if-card-t.true) in
            let columns = columns_are c.args.card.now (3 + c.byte-t.result - 3) (omega arith) (omega (arith, long)) in
            laid_columns _ _ _ _ c.read16-n.ensures.is c.byte-t.ensures.is n.0 n.1 t.0 t.1 (omega (arith, long)) (c.columns_fit.ensures ∙ ap (all (between 1 most_columns)) columns)
        | else-contains v ↦ absurd (cc)
      ])
      | else-contains-2 w ↦ absurd (cc)
    ]

pub returns-else-card-t : goal.returns-else-card-t
returns-else-card-t c =
    let entries : c.contains.result ≡ between 1 most_entries c.read16-n.result = search rules in
    c.if-card-t.false
    ∙ laid_no _ (λ h.
    elim c.if-contains-2.branch [
      | then-contains-2 w ↦ omega (arith, eqb-false _ _ (sym w.value-is ∙ c.if-card-t.false))
      | else-contains-2 w ↦ (elim c.if-contains.branch [
        | then-contains v ↦
            let tables : v.contains-then-contains.result ≡ between 1 most_tables c.byte-t.result = search rules in
            let t : between 1 most_tables c.byte-t.result ≡ true = between_yes 1 most_tables c.byte-t.result (omega arith) (omega arith) in
            true≢false (sym t ∙ sym tables ∙ sym v.value-is ∙ w.if-contains-2.false)
        | else-contains v ↦
            let n : between 1 most_entries c.read16-n.result ≡ true = between_yes 1 most_entries c.read16-n.result (omega arith) (omega arith) in
            true≢false (sym n ∙ sym entries ∙ v.if-contains.false)
      ])
    ])
