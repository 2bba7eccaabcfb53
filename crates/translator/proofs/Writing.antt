-- A card in three writes: its sizes, its records behind the room for its kinds, and its kinds.
use mathlib.Core.Path.{◌≡◌, sym, ap, ap₂, ◌∙◌}
use mathlib.Core.Bool.{false}
use mathlib.Core.List.{List, ◌∷◌, ◌++◌, append-nil}
use Prim.Native.Nat.{ℕ, ◌+◌, ◌*◌, ◌-◌, ◌≤◌}
use native.Mathlib.Omega.{arith}
use lib.ListN.{length, take, drop, length-drop, drop_of_length-le}
use lib.Seq.{length-take-le}
use Rattle.tables.specs.Lists.{placed}
use Rattle.tables.specs.Bytes.{bytes16}
use Rattle.tables.specs.Tables.{table_count, columns_of}
use Rattle.tables.specs.Values.{most_entries}
use Rattle.tables.proofs.Placed.{placed_length, placed_start, taken_start, placed_next, placed_before, placed_lent}
use Rattle.tables.proofs.Sizes.{columns_count}
use Rattle.card.specs.declared.Interpretation.TheVariants.{AsNo}
use Rattle.card.specs.Layout.{record_size, kind_bytes, records_from, card_bytes}
use Rattle.card.proofs.Walk.{kinds_length, records_length}
use Rattle.names.specs.declared.RulePart.{RulePart}
use Rattle.translation.specs.Translation.{rule_card}
use Rattle.entries.specs.Code.{card_as, Writable, Wrote, WroteTo}
use Rattle.translator.specs.Code.{CardReady}
use Rattle.parts.proofs.Parts.{rule_stands}

-- what stands before the kinds of a card of n entries
abbrev pub sizes_of : List ℕ → ℕ → List ℕ
sizes_of file n = bytes16 n ++ (length (columns_of file) ∷ columns_of file)

-- where its records start, and where it ends
abbrev pub records_at : ℕ → ℕ → ℕ
records_at tables n = 3 + tables + n

abbrev pub end_at : ℕ → ℕ → ℕ
end_at tables n = records_at tables n + record_size * n

-- the place of the records, lent; and the whole with them in it
abbrev pub lent : List ℕ → ℕ → ℕ → List ℕ
lent bytes tables n = take (end_at tables n - records_at tables n) (drop (records_at tables n) bytes)

abbrev pub around : List ℕ → ℕ → ℕ → List ℕ → List ℕ
around bytes tables n records =
    take (records_at tables n) bytes ++ (records ++ drop (end_at tables n - records_at tables n) (drop (records_at tables n) bytes))

module _ {p : List RulePart} {file out : List ℕ} {n : ℕ} (h : CardReady p file n out) where
  -- with the sizes written
  module _ {tables : ℕ} {bytes : List ℕ} (count : tables ≡ table_count file) (sizes : bytes ≡ placed out 0 (sizes_of file n)) where
    whole : length bytes ≡ length out
    whole = ap length sizes ∙ placed_length out 0 (sizes_of file n) (omega (arith, columns_count file, h.room))

    lent_length : length (lent bytes tables n) ≡ record_size * n
    lent_length =
        let size : end_at tables n - records_at tables n ≡ record_size * n = omega arith in
        let rest = length-drop (records_at tables n) bytes in
        length-take-le (end_at tables n - records_at tables n) (drop (records_at tables n) bytes) (omega (arith, whole, h.room)) ∙ size

    pub writable : Writable (card_as false AsNo) p 0 (lent bytes tables n) 0
    unfolding card_as
    writable =
        record {
          at = record { rule = h.rule; stands = rule_stands p h.rule h.written; within = omega (arith, h.few) };
          room = record { kinds_fit = omega (arith, h.count, h.most); records_fit = omega (arith, h.count, lent_length) };
        }

    -- and with the entries written
    module _ {kinds kinds' records' : List ℕ} {r : ℕ} (size : length kinds ≡ most_entries)
        (wrote : WroteTo (card_as false AsNo) p 0 kinds (lent bytes tables n) kinds' records' 0 r) where
      abbrev ks : List ℕ
      ks = kind_bytes (rule_card h.rule)

      abbrev rs : List ℕ
      rs = records_from 0 (rule_card h.rule)

      wrote_card : Wrote 0 (rule_card h.rule) kinds (lent bytes tables n) kinds' records' r
      unfolding card_as writable
      wrote_card = wrote writable

      kinds_count : length ks ≡ n
      kinds_count = kinds_length (rule_card h.rule) ∙ sym h.count

      records_count : length rs ≡ record_size * n
      records_count = records_length (rule_card h.rule) 0 ∙ ap (λ (m : ℕ). record_size * m) (sym h.count)

      kinds_are : take n kinds' ≡ ks
      kinds_are = ap₂ take (sym kinds_count) wrote_card.kinds_are ∙ taken_start kinds ks

      records_are : records' ≡ rs
      records_are =
          let none = drop_of_length-le (lent bytes tables n) {i = length rs} (omega (arith, lent_length, records_count)) in
          wrote_card.records_are ∙ placed_start (lent bytes tables n) rs ∙ ap (λ (l : List ℕ). rs ++ l) none ∙ append-nil rs

      back : around bytes tables n records' ≡ placed bytes (records_at tables n) rs
      back = ap (around bytes tables n) records_are ∙ placed_lent bytes (records_at tables n) (end_at tables n) rs (omega (arith, records_count))

      -- there are as many kinds, and room for them
      pub kinds_few : n ≤ length kinds'
      kinds_few =
          let same = placed_length kinds 0 ks (omega (arith, kinds_count, h.most)) in
          omega (arith, ap length wrote_card.kinds_are, h.most)

      pub kinds_fit : 3 + tables + length (take n kinds') ≤ length (around bytes tables n records')
      kinds_fit =
          let same = placed_length bytes (records_at tables n) rs (omega (arith, records_count, whole, h.room)) in
          omega (arith, ap length back, whole, h.room, length-take-le n kinds' kinds_few)

      pub card_written : (after : List ℕ) → after ≡ placed (around bytes tables n records') (3 + tables) (take n kinds')
          → after ≡ placed out 0 (card_bytes (columns_of file) (rule_card h.rule))
      unfolding card_bytes
      card_written after e =
          e
          ∙ ap₂ (λ (l v : List ℕ). placed l (3 + tables) v) back kinds_are
          ∙ placed_before bytes (3 + tables) ks (records_at tables n) rs (omega (arith, whole, h.room)) (omega (arith, kinds_count))
          ∙ ap (λ (l : List ℕ). placed l (3 + tables) (ks ++ rs)) sizes
          ∙ placed_next out 0 (sizes_of file n) (3 + tables) (ks ++ rs) (omega arith) (omega (arith, columns_count file))
          ∙ ap (λ (m : ℕ). placed out 0 (sizes_of file m ++ (ks ++ rs))) h.count
