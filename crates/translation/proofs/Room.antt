-- With room for the largest answer, no call that lends is refused for its room.
use mathlib.Core.Path.{◌≡◌, refl, ap, subst}
use mathlib.Core.Bool.{Bool, true, false, not}
use mathlib.Core.List.{List}
use mathlib.Core.Option.{none, some}
use Prim.Native.Nat.{ℕ, ◌≤◌}
use native.Mathlib.Omega.{arith}
use lib.ListN.{length}
use Rattle.tables.specs.Tables.{most_rows, columns_of, sizes_fit}
use Rattle.tables.specs.Values.{most_entries}
use Rattle.tables.specs.Refusals.{Lent, first_applying, tables_refusals}
use Rattle.tables.specs.Exports.{is_given}
use Rattle.tables.proofs.Tests.{is_so}
use Rattle.tables.proofs.Refusals.{none_first}
use Rattle.tables.proofs.Rows.{rows_few}
use Rattle.tables.proofs.Sizes.{tables_few, first_rows}
use Rattle.card.specs.Calls.{gate_refusals, says_yes, yes_rows}
use Rattle.card.proofs.Claims.{calls_claim as gate-by-cases}
use Rattle.rule.specs.Condition.{Rule}
use Rattle.rule.specs.Sum.{entry_sum}
use Rattle.rule.specs.declared.Part.{Part}
use Rattle.rule.specs.Calls.{rule_of, Accepted}
use Rattle.rule.proofs.Accepted.{accepted_named, parts_claim}
use Rattle.rule.proofs.Calls.{calls_claim as rule-by-cases}
use Rattle.translation.proofs.Demand3.{card_bytes_few, demand_3_claim}
use Rattle.translation.specs.Claims.{RoomClaim}

not_false : (b : Bool) → not b ≡ false → b ≡ true
not_false true e = refl
not_false false e = let z : ◌≡◌ {A = ℕ} 0 1 = cc in absurd (omega arith)

-- tables without a refusal have sizes that fit, so table 1 has at most 1,000 rows
rows_most : (card file : List ℕ) → first_applying (gate_refusals card file) ≡ none → length (yes_rows card file) ≤ most_rows
unfolding gate_refusals tables_refusals
rows_most card file e =
    let fits = not_false (sizes_fit file) (none_first 1 (not (sizes_fit file)) _ e).0 in
    omega (arith, rows_few file (says_yes card file), first_rows file (is_so (sizes_fit file) fits))

-- a card has room for the entries of an accepted text, whichever proof says which rule it is
few : (text file : List ℕ) (a : Accepted text file) (r : Rule) → rule_of text (columns_of file) ≡ some r → entry_sum r ≤ most_entries
few text file a r e =
    let p = parts_claim text file a in
    let same : p.rule ≡ r = cc in
    subst (λ (x : Rule). entry_sum x ≤ most_entries) same p.few_entries

pub room_claim : RoomClaim
room_claim = record {
  numbers = (refl, refl, refl);
  reading = λ text file parts a room.
      let p = parts_claim text file a in
      ap (λ (l : Lent Part). is_given l.result) (rule-by-cases.read_given text file parts a p.rule p.is_rule (omega (arith, p.few_parts)));
  making = λ text file card a room.
      let d = demand_3_claim text file a in
      let fits = is_so (sizes_fit file) (accepted_named text file a).tables_sized in
      let short = card_bytes_few file d.rule (tables_few file fits) (few text file a d.rule d.is_rule) in
      ap (λ (l : Lent ℕ). is_given l.result) ((d.cards card).long (omega (arith, short)));
  listing = λ card file rows e room.
      ap (λ (l : Lent ℕ). is_given l.result) (gate-by-cases.list_given card file rows e (omega (arith, rows_most card file e)));
}
