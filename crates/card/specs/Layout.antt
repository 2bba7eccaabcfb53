-- Document 01, Card: the bytes of a card, from its entries and back.
use Rattle.std.specs.Prelude.{Bool, true, false, cond, ◌&&◌, ◌||◌, List, [], ◌∷◌, ◌++◌, map, ℕ, zero, suc, ◌+◌, ◌-◌, ◌*◌, eqb, length, take, drop}
use Rattle.std.proofs.Math.Option.{Option, none, some}
use Rattle.tables.specs.Lists.{tabulate, numbered, any, all, only, ◌>>=◌}
use Rattle.tables.specs.Bytes.{between, byte_at, word16, word32, bytes16, bytes32, signed, bits}
use Rattle.card.specs.declared.Kind.{Kind}
use Rattle.card.specs.declared.Kind.TheVariants.{PairKind, RowKind, ComparisonKind, MarkKind}
use Rattle.card.specs.declared.Head.{Head}
use Rattle.card.specs.declared.Head.TheVariants.{LeafHead, PairHead, RowHead}
use Rattle.tables.specs.Values.{constant_tag, unused_value, any_value, Uses, comparison_number, comparison_of}
use Rattle.tables.specs.declared.Value.{Value}
use Rattle.tables.specs.declared.Value.TheVariants.{Constant, Column}
use Rattle.tables.specs.declared.Comparison.{Comparison}
use Rattle.tables.specs.declared.Comparison.TheVariants.{Eq}
use Rattle.tables.specs.declared.Connective.{Connective}
use Rattle.tables.specs.declared.Connective.TheVariants.{And, Or}
use Rattle.tables.specs.declared.Quantifier.{Quantifier}
use Rattle.tables.specs.declared.Quantifier.TheVariants.{Some, All}
use Rattle.tables.specs.declared.MarkTest.{MarkTest}
use Rattle.tables.specs.declared.MarkTest.TheVariants.{Null, NotNull, IsDeclined, NotDeclined}
use Rattle.card.specs.Card.{Card, LeafEntry, PairEntry, RowEntry, entries}
use Rattle.card.specs.declared.Leaf.TheVariants.{CompareLeaf, MarkLeaf}
use Rattle.card.specs.declared.Interpretation.{Interpretation}
use Rattle.card.specs.declared.Interpretation.TheVariants.{AsNo, AsYes}

-- the bytes of one record
abbrev pub record_size : ℕ
record_size = 14

-- and of one value in it: a byte for its tag and four for its number
abbrev pub value_size : ℕ
value_size = 5

-- where a record's fields stand, after the two bytes of its end
abbrev pub table_place : ℕ
table_place = 2

abbrev pub comparison_place : ℕ
comparison_place = 3

abbrev pub left_place : ℕ
left_place = 4

abbrev pub right_place : ℕ
right_place = 9

-- ---- the kinds

-- 'Kinds: 1 and, 2 or, 3 some row, 4 every row, 5 comparison where unknown counts as no, 6 where unknown counts as yes, 7 blank, 8 not blank';
-- and of document 02, Point 4: 'the card kinds 9 (declined) and 10 (not declined)'
abbrev pub pair_kind : Connective → ℕ
pair_kind And = 1
pair_kind Or = 2

abbrev pub row_kind : Quantifier → ℕ
row_kind Some = 3
row_kind All = 4

abbrev pub comparison_kind : Interpretation → ℕ
comparison_kind AsNo = 5
comparison_kind AsYes = 6

abbrev pub mark_kind : MarkTest → ℕ
mark_kind Null = 7
mark_kind NotNull = 8
mark_kind IsDeclined = 9
mark_kind NotDeclined = 10

abbrev pub kind_number : Kind → ℕ
kind_number (PairKind j) = pair_kind j
kind_number (RowKind q) = row_kind q
kind_number (ComparisonKind u) = comparison_kind u
kind_number (MarkKind m) = mark_kind m

-- the kinds in the order of their numbers, from 1 on; and the one with a number, if there is one
abbrev pub kinds : List Kind
kinds =
    PairKind And ∷ PairKind Or ∷ RowKind Some ∷ RowKind All ∷ ComparisonKind AsNo ∷ ComparisonKind AsYes
    ∷ MarkKind Null ∷ MarkKind NotNull ∷ MarkKind IsDeclined ∷ MarkKind NotDeclined ∷ []

abbrev pub kind_with : ℕ → Option Kind
kind_with n = numbered (map some kinds) n none

-- 'Kinds 3 and 4 use the table, 5 and 6 the comparison and both values, 7 and 8 the left value'; 9 and 10 'use the left value as 7 and 8 do'
abbrev pub uses : Kind → Uses
uses (PairKind j) = record { table = false; comparison = false; left = false; right = false }
uses (RowKind q) = record { table = true; comparison = false; left = false; right = false }
uses (ComparisonKind u) = record { table = false; comparison = true; left = true; right = true }
uses (MarkKind m) = record { table = false; comparison = false; left = true; right = false }

-- ---- what an entry says by itself

abbrev pub kind_of : Head → Kind
kind_of (PairHead j) = PairKind j
kind_of (RowHead q t) = RowKind q
kind_of (LeafHead (CompareLeaf u op l r)) = ComparisonKind u
kind_of (LeafHead (MarkLeaf m l)) = MarkKind m

-- what an entry of this kind says with this table, comparison, left and right value
abbrev pub head_with : Kind → ℕ → Comparison → Value → Value → Head
head_with (PairKind j) t op l r = PairHead j
head_with (RowKind q) t op l r = RowHead q t
head_with (ComparisonKind u) t op l r = LeafHead (CompareLeaf u op l r)
head_with (MarkKind m) t op l r = LeafHead (MarkLeaf m l)

abbrev pub value_bytes : Value → List ℕ
value_bytes (Constant k) = constant_tag ∷ bytes32 (bits k)
value_bytes (Column l c) = l ∷ bytes32 c

-- 'unused bytes are 0': the fields of a record behind its end: table, comparison, left and right value, as far as they are used
abbrev pub fields_with : Uses → ℕ → Comparison → Value → Value → List ℕ
fields_with u t op l r =
    cond u.table t 0
    ∷ cond u.comparison (comparison_number op) 0
    ∷ value_bytes (cond u.left l unused_value) ++ value_bytes (cond u.right r unused_value)

-- what stands for a table where the kind uses none, as Eq does for a comparison; it is not written
abbrev any_table : ℕ
any_table = 1

-- the fields of an entry by what it says
abbrev pub field_bytes : Head → List ℕ
field_bytes (PairHead j) = fields_with (uses (kind_of (PairHead j))) any_table Eq any_value any_value
field_bytes (RowHead q t) = fields_with (uses (kind_of (RowHead q t))) t Eq any_value any_value
field_bytes (LeafHead (CompareLeaf i op l r)) = fields_with (uses (kind_of (LeafHead (CompareLeaf i op l r)))) any_table op l r
field_bytes (LeafHead (MarkLeaf m l)) = fields_with (uses (kind_of (LeafHead (MarkLeaf m l)))) any_table Eq l any_value

abbrev pub record_bytes : ℕ → Head → List ℕ
record_bytes end h = bytes16 end ++ field_bytes h

-- ---- the bytes of a card

-- the kinds of a card's entries: an entry stands before its inner ones, and the left one before the right
unfoldable pub kind_bytes : Card → List ℕ
kind_bytes (LeafEntry x) = kind_number (kind_of (LeafHead x)) ∷ []
kind_bytes (PairEntry j a b) = kind_number (kind_of (PairHead j)) ∷ (kind_bytes a ++ kind_bytes b)
kind_bytes (RowEntry q t c) = kind_number (kind_of (RowHead q t)) ∷ kind_bytes c

-- and their records, where the first entry has the number k; an end is the number of the first entry after it and its inner ones
unfoldable pub records_from : ℕ → Card → List ℕ
records_from k (LeafEntry x) = record_bytes (k + 1) (LeafHead x)
records_from k (PairEntry j a b) =
    record_bytes (k + (1 + entries a + entries b)) (PairHead j) ++ (records_from (k + 1) a ++ records_from (k + 1 + entries a) b)
records_from k (RowEntry q t c) = record_bytes (k + (1 + entries c)) (RowHead q t) ++ records_from (k + 1) c

-- the whole card: how many entries, how many tables, the columns of each, all kinds, all records
unfoldable pub card_bytes : List ℕ → Card → List ℕ
card_bytes columns c = bytes16 (entries c) ++ (length columns ∷ (columns ++ (kind_bytes c ++ records_from 0 c)))

-- document 02, Point 4: whether a kind, 9 or 10, asks whether a cell is declined, and whether some entry of a card does (AsksClaim). To a card without such entries, as cards were before
-- Point 4, a declined cell 'is blank in every respect' (DeclinedBlankClaim)
abbrev pub kind_asks_declined : ℕ → Bool
kind_asks_declined n = eqb n (mark_kind IsDeclined) || eqb n (mark_kind NotDeclined)

abbrev pub asks_declined : Card → Bool
asks_declined c = any kind_asks_declined (kind_bytes c)

-- how long a card of n entries is: two bytes and one, the columns, and for each entry its kind and its record
abbrev pub card_length : ℕ → ℕ → ℕ
card_length tables n = 3 + tables + (1 + record_size) * n

-- ---- the entries of some bytes

module _ (bs : List ℕ) where
  abbrev pub entry_count : ℕ
  entry_count = word16 bs 0

  abbrev pub tables_in : ℕ
  tables_in = byte_at bs 2

  unfoldable pub columns_in : List ℕ
  columns_in = tabulate tables_in (λ j. byte_at bs (3 + j))

  abbrev pub kind_at : ℕ → ℕ
  kind_at i = byte_at bs (3 + tables_in + i)

  abbrev pub record_at : ℕ → List ℕ
  record_at i = take record_size (drop (3 + tables_in + entry_count + record_size * i) bs)

  abbrev pub end_at : ℕ → ℕ
  end_at i = word16 (record_at i) 0

-- the value of a tag and a number; and of five bytes from place i
abbrev pub value_of : ℕ → ℕ → Value
value_of tag n = cond (eqb tag constant_tag) (Constant (signed n)) (Column tag n)

abbrev pub value_from : List ℕ → ℕ → Value
value_from r i = value_of (byte_at r i) (word32 r (i + 1))

-- the bytes from place i up to place j are 0
unfoldable pub zeros : List ℕ → ℕ → ℕ → Bool
zeros r i j = all (λ k. eqb (byte_at r (i + k)) 0) (tabulate (j - i) (λ k. k))

-- whether a record is as a kind asks, by what the kind uses: a comparison from 1 to 6, and 0 in what it does not use
unfoldable pub record_fits : Uses → List ℕ → Bool
record_fits u r =
    (u.table || zeros r table_place comparison_place)
    && (cond u.comparison (between 1 6 (byte_at r comparison_place)) (zeros r comparison_place left_place)
    && ((u.left || zeros r left_place right_place)
    && (u.right || zeros r right_place record_size)))

-- what an entry of this kind with this record says
abbrev pub head_in : Kind → List ℕ → Head
head_in k r = head_with k (byte_at r table_place) (comparison_of (byte_at r comparison_place)) (value_from r left_place) (value_from r right_place)

-- the same by the kind's number: none, if there is no such kind, or if the record is not as the kind asks
unfoldable pub head_from : ℕ → List ℕ → Option Head
head_from n r = kind_with n >>= (λ k. only (record_fits (uses k) r) (head_in k r))

-- an entry with its inner ones, and the number of the entry after them
abbrev pub Taken : Type 0
Taken = Card × ℕ

-- the inner entries by kind: two, one or none; `from` takes the entry that starts at a number
abbrev pub inside : (ℕ → Option Taken) → ℕ → Head → Option Taken
inside from i (LeafHead x) = some (LeafEntry x, i + 1)
inside from i (PairHead j) = from (i + 1) >>= (λ a. from a.1 >>= (λ b. some (PairEntry j a.0 b.0, b.1)))
inside from i (RowHead q t) = from (i + 1) >>= (λ c. some (RowEntry q t c.0, c.1))

-- the entry i, if its end is the number of the entry after it and its inner ones; depth bounds how many entries stand around one another, and is as
-- large as it can be needed where it is the number of entries (SoundClaim: every sound card passes)
unfoldable pub entry_from : List ℕ → ℕ → ℕ → Option Taken
entry_from bs zero i = none
entry_from bs (suc depth) i =
    head_from (kind_at bs i) (record_at bs i) >>= (λ h. inside (entry_from bs depth) i h >>= (λ x. only (eqb (end_at bs i) x.1) x))

-- the card that some bytes hold: entry 0 reaches to the last one
unfoldable pub card_from : List ℕ → Option Card
card_from bs = entry_from bs (entry_count bs) 0 >>= (λ x. only (eqb x.1 (entry_count bs)) x.0)
