-- EXISTS and lists over one table: what its rows come to, one after the other.
use mathlib.Core.Path.{◌≡◌, sym, ap, ◌∙◌}
use mathlib.Core.Bool.{Bool, cond}
use mathlib.Core.List.{map, map-map}
use Prim.Native.Nat.{ℕ}
use Rattle.tables.specs.Tables.{Tables, rows_of}
use Rattle.tables.specs.Values.{Env, ◌▸◌, cell_of}
use Rattle.tables.specs.declared.Value.{Value}
use Rattle.tables.specs.declared.Comparison.{Comparison}
use Rattle.tables.specs.declared.Quantifier.{Quantifier}
use Rattle.tables.specs.declared.Quantifier.TheVariants.{Some}
use Rattle.tables.proofs.Rows.{any_kept}
use Rattle.rule.specs.Condition.{Exists, Listed, Rule}
use Rattle.rule.specs.declared.FromClause.TheVariants.{Single}
use Rattle.rule.specs.Truth.{truth, is_true}
use Rattle.rule.specs.declared.Truth.{Truth}
use Rattle.rule.specs.Meaning.{compare3, over3, ranged, meaning}
use Rattle.evaluator.specs.Code.{empty_truth}
use Rattle.evaluator.proofs.Truths.{over_kept, exists_some}

module _ (ts : Tables) (env : Env) (t : ℕ) (w : Rule) where
  abbrev kept : Env → Bool
  kept row = is_true (meaning ts row w)

  pub exists_rows : over3 Some (map (λ row. truth (kept (env ▸ row))) (rows_of ts t)) ≡ meaning ts env (Exists (Single t) w)
  unfolding meaning
  exists_rows =
      ap (over3 Some) (sym (map-map (λ row. truth (kept row)) (λ row. env ▸ row) (rows_of ts t)))
      ∙ sym (exists_some kept (ranged ts env (Single t)))
      ∙ ap truth (any_kept kept (ranged ts env (Single t)))

  -- a row that is not retained counts as the value over no rows
  module _ (q : Quantifier) (op : Comparison) (l s : Value) where
    abbrev compared : Env → Truth
    compared row = compare3 op (cell_of env l) (cell_of row s)

    abbrev at_row : Env → Truth
    at_row row = cond (kept row) (compared row) (empty_truth q)

    pub listed_rows : over3 q (map (λ row. at_row (env ▸ row)) (rows_of ts t)) ≡ meaning ts env (Listed q op l s (Single t) w)
    unfolding meaning
    listed_rows =
        ap (over3 q) (sym (map-map at_row (λ row. env ▸ row) (rows_of ts t))) ∙ sym (over_kept q kept compared (ranged ts env (Single t)))
