use Rattle.std.proofs.Common.{arith, ◌≡◌, ◌<◌, ◌+◌, ◌-◌, ◌*◌, ℕ, get_or, set, take, drop, ap, ap₂, List, sym, subst, ◌∙◌, length}
use lib.Seq.{get_or-set_same, get_or-set_other}
use borrow.Author.Count.{below_more}
use Rattle.card.specs.Layout.{record_size, entry_count, tables_in, kind_at, record_at}
use Rattle.decoder.specs.Code.{no_entry, EntryOf}
use Rattle.tables.specs.Bytes.{byte_at}
use Rattle.decoder.proofs.decode.Goals as goal

pub loop-i-preserved : goal.loop-i-preserved
loop-i-preserved c =
    let card = c.args.card.now in
    let i = c.loop-i.i in
    let room = c.requires.fact_2 c.requires.fact_1 in
    let there : i < length c.loop-i.d = omega arith in
    let place : 3 + c.byte-kinds.result + c.read16-n.result + record_size * i ≡ 3 + tables_in card + entry_count card + record_size * i = omega arith in
    let size : 3 + c.byte-kinds.result + c.read16-n.result + record_size * i + record_size - (3 + c.byte-kinds.result + c.read16-n.result + record_size * i) ≡ record_size = omega arith in
    let kind : c.byte.result ≡ byte_at card (3 + tables_in card + i) = c.byte.ensures.is ∙ ap (λ (t : ℕ). byte_at card (3 + t + i)) c.byte-kinds.ensures.is in
    let read : (n m : ℕ) → List ℕ = λ n m. take n (drop m card) in
    let here : EntryOf (kind_at card i) (record_at card i) c.read_entry.new.entry =
    subst (λ (k : ℕ). EntryOf k (record_at card i) c.read_entry.new.entry) kind
    (subst (λ (r : List ℕ). EntryOf c.byte.result r c.read_entry.new.entry) (ap₂ read size place) c.read_entry.ensures) in
    below_more (λ k. EntryOf (kind_at card k) (record_at card k) (get_or (set c.loop-i.d i c.read_entry.new.entry) k no_entry)) i
    (λ k l. subst (EntryOf (kind_at card k) (record_at card k)) (sym (get_or-set_other c.loop-i.d i k c.read_entry.new.entry no_entry (λ e. omega arith))) (c.loop-i.invariant k l))
    (subst (EntryOf (kind_at card i) (record_at card i)) (sym (get_or-set_same c.loop-i.d i c.read_entry.new.entry no_entry there)) here)
