-- Cards at the edges of soundness, cards with files at the edges of the refusals, and what each kind of entry answers.
use Rattle.std.specs.Prelude.{Bool, true, false, List, [], ◌∷◌, ◌++◌, map, ℕ, zero, suc, pos, length, take, drop, set}
use Rattle.tables.specs.Refusals.{Answer, Refused, Given, Lent}
use Rattle.tables.specs.declared.Value.{Value}
use Rattle.tables.specs.declared.Value.TheVariants.{Constant, Column}
use Rattle.tables.specs.declared.Connective.TheVariants.{Or}
use Rattle.tables.specs.declared.Quantifier.TheVariants.{Some, All}
use Rattle.tables.specs.declared.MarkTest.{MarkTest}
use Rattle.tables.specs.declared.MarkTest.TheVariants.{Null, NotNull, IsDeclined, NotDeclined}
use Rattle.card.specs.Card.{Card, LeafEntry, PairEntry, RowEntry}
use Rattle.card.specs.declared.Leaf.TheVariants.{MarkLeaf}
use Rattle.card.specs.Layout.{card_bytes}
use Rattle.card.specs.Calls.{run_call, list_call}

pub record Edge : Type 0 where
  pub card : List ℕ
  pub is_sound : Bool

abbrev good : List ℕ → Edge
good bs = record { card = bs; is_sound = true }

abbrev bad : List ℕ → Edge
bad bs = record { card = bs; is_sound = false }

-- the worked card of document 01, in hexadecimal: one entry over one table of 3 columns
abbrev pub worked_card : List ℕ
worked_card =
    0x01 ∷ 0x00 ∷ 0x01 ∷ 0x03 ∷ 0x05 ∷ 0x01 ∷ 0x00 ∷ 0x00 ∷ 0x06 ∷ 0x00 ∷ 0x02 ∷ 0x00 ∷ 0x00 ∷ 0x00 ∷ 0xFF ∷ 0x05 ∷ 0x00 ∷ 0x00 ∷ 0x00 ∷ []

-- tables of 3 and 2 columns
abbrev over : Card → List ℕ
over c = card_bytes (3 ∷ 2 ∷ []) c

abbrev null : ℕ → ℕ → Card
null l c = LeafEntry (MarkLeaf Null (Column l c))

-- a single test by the mark: its kind at byte 5, its record at 6
abbrev alone : MarkTest → Value → List ℕ
alone m v = over (LeafEntry (MarkLeaf m v))

-- two tests joined by or: kinds at bytes 5 to 7, records of 14 bytes at 8, 22 and 36
abbrev three : List ℕ
three = over (PairEntry Or (null 0 1) (LeafEntry (MarkLeaf NotNull (Column 0 3))))

-- a row entry around a test: kinds at bytes 5 and 6, records at 7 and 21
abbrev rows : List ℕ
rows = over (RowEntry All 2 (null 1 2))

-- n + 1 blank tests joined by or, from the right: 2n + 1 entries
unfoldable pub chained : ℕ → Card
chained zero = null 0 1
chained (suc n) = PairEntry Or (null 0 1) (chained n)

-- n row entries of table 2 around one another
unfoldable pub nested : ℕ → Card → Card
nested zero c = c
nested (suc n) c = RowEntry Some 2 (nested n c)

-- the bytes of the worked card changed one at a time, then the length, then entries that fit and do not
unfoldable pub edges : List Edge
edges =
    good worked_card ∷ bad (set worked_card 0 0) ∷ bad (set worked_card 0 2) ∷ bad (set worked_card 1 1) ∷ bad (set worked_card 2 0) ∷ bad (set worked_card 2 2) ∷ bad (set worked_card 3 1) ∷ good (set worked_card 3 2)
    ∷ good (set worked_card 3 16) ∷ bad (set worked_card 3 17) ∷ bad (set worked_card 4 0) ∷ bad (set worked_card 4 1) ∷ bad (set worked_card 4 3) ∷ good (set worked_card 4 6) ∷ bad (set worked_card 4 7) ∷ bad (set worked_card 4 9)
    ∷ bad (set worked_card 5 0) ∷ bad (set worked_card 5 2) ∷ bad (set worked_card 6 1) ∷ bad (set worked_card 7 1) ∷ bad (set worked_card 8 0) ∷ good (set worked_card 8 1) ∷ bad (set worked_card 8 7)
    ∷ bad (set worked_card 9 1) ∷ good (set worked_card 9 255) ∷ bad (set worked_card 10 0) ∷ good (set worked_card 10 3) ∷ bad (set worked_card 10 4) ∷ bad (set worked_card 11 1) ∷ bad (set worked_card 14 0) ∷ good (set worked_card 18 255)
    ∷ bad [] ∷ bad (0 ∷ 0 ∷ []) ∷ bad (worked_card ++ (0 ∷ []))
    ∷ good (over (nested 3 (null 3 2))) ∷ bad (over (nested 4 (null 3 2))) ∷ bad (over (nested 3 (null 4 1))) ∷ bad (over (nested 3 (null 3 3))) ∷ good (over (nested 3 (null 0 3)))
    -- ends: of the first inner entry, of the second, of entry 0; an entry left over; unused bytes of kinds 2, 7, 4; an absent column under not blank
    ∷ good three ∷ bad (set three 22 1) ∷ bad (set three 22 3) ∷ bad (set three 36 2) ∷ bad (set three 8 2) ∷ bad (set three 5 7) ∷ bad (set (set (set three 5 7) 8 1) 13 1)
    ∷ bad (set three 10 1) ∷ bad (set three 11 1) ∷ bad (set three 12 1) ∷ bad (set three 21 1) ∷ bad (set three 24 1) ∷ bad (set three 25 1) ∷ bad (set three 31 1) ∷ bad (set three 35 1)
    ∷ good rows ∷ bad (set rows 10 1) ∷ bad (set rows 11 1) ∷ bad (set rows 20 1) ∷ good (set rows 9 1) ∷ bad (set rows 9 0) ∷ bad (set rows 9 3) ∷ bad (set rows 5 1)
    ∷ bad (over (LeafEntry (MarkLeaf NotNull (Column 0 4)))) ∷ good (over (RowEntry All 2 (RowEntry Some 1 (RowEntry All 2 (null 3 2))))) ∷ bad (over (RowEntry All 2 (RowEntry All 1 (RowEntry All 2 (RowEntry All 1 (null 3 2))))))
    -- 8 and 9 tables; 191, 192 and 193 entries
    ∷ good (card_bytes (1 ∷ 1 ∷ 1 ∷ 1 ∷ 1 ∷ 1 ∷ 1 ∷ 1 ∷ []) (null 0 1)) ∷ bad (card_bytes (1 ∷ 1 ∷ 1 ∷ 1 ∷ 1 ∷ 1 ∷ 1 ∷ 1 ∷ 1 ∷ []) (null 0 1))
    ∷ good (over (chained 95)) ∷ good (over (RowEntry Some 1 (chained 95))) ∷ bad (over (chained 96))
    -- no columns and 17 in another table; tables 0 and 3 of two; a level outside its row entry
    ∷ bad (card_bytes (3 ∷ 0 ∷ []) (null 0 1)) ∷ bad (card_bytes (3 ∷ 17 ∷ []) (null 0 1))
    ∷ bad (over (RowEntry All 0 (null 0 1))) ∷ bad (over (RowEntry All 3 (null 0 1))) ∷ good (over (PairEntry Or (null 0 1) (RowEntry All 1 (null 1 3)))) ∷ bad (over (PairEntry Or (RowEntry All 1 (null 1 3)) (null 1 1)))
    -- declined and not declined, of a column and of a constant: kinds 9 and 10, and no kind 11; unused bytes of both: table, comparison, right value; absent columns and levels, a level
    -- inside its row entry, and a wrong end
    ∷ good (alone IsDeclined (Column 0 3)) ∷ good (alone NotDeclined (Column 0 3)) ∷ good (alone IsDeclined (Constant (pos 5))) ∷ good (alone NotDeclined (Constant (pos 5)))
    ∷ good (set (alone Null (Column 0 3)) 5 9) ∷ good (set (alone Null (Column 0 3)) 5 10) ∷ bad (set (alone Null (Column 0 3)) 5 11) ∷ bad (set (alone Null (Column 0 3)) 5 0)
    ∷ bad (set (alone IsDeclined (Column 0 3)) 8 1) ∷ bad (set (alone IsDeclined (Column 0 3)) 9 1) ∷ bad (set (alone IsDeclined (Column 0 3)) 15 255) ∷ bad (set (alone IsDeclined (Column 0 3)) 19 1)
    ∷ bad (set (alone NotDeclined (Column 0 3)) 8 1) ∷ bad (set (alone NotDeclined (Column 0 3)) 9 1) ∷ bad (set (alone NotDeclined (Column 0 3)) 15 255) ∷ bad (set (alone NotDeclined (Column 0 3)) 16 1)
    ∷ bad (alone IsDeclined (Column 0 4)) ∷ bad (alone NotDeclined (Column 1 1)) ∷ good (over (RowEntry All 2 (LeafEntry (MarkLeaf NotDeclined (Column 1 2))))) ∷ bad (set (alone IsDeclined (Column 0 3)) 6 2)
    ∷ []

-- ---- a card and a file, and what RUN on row 0 and LIST with room for one row give

pub record GateEdge : Type 0 where
  pub card : List ℕ
  pub file : List ℕ
  pub run : Answer Bool
  pub listing : Lent ℕ

-- a refusal of both
abbrev refuses : List ℕ → List ℕ → ℕ → GateEdge
refuses c f n = record { card = c; file = f; run = Refused n; listing = record { result = Refused n; buffer = 9 ∷ [] } }

-- tables of 3 and 2 columns; table 1 has one row, 4, 5 and a blank, and table 2 none
abbrev one_row : List ℕ
one_row = 2 ∷ 3 ∷ 1 ∷ 0 ∷ 2 ∷ 0 ∷ 0 ∷ 4 ∷ 0 ∷ 0 ∷ 0 ∷ 5 ∷ 0 ∷ 0 ∷ 0 ∷ 6 ∷ 0 ∷ 0 ∷ 0 ∷ 0 ∷ 0 ∷ 1 ∷ []

-- a wrong length, a wrong mark, an unsound card, columns that differ in table 1, in table 2 and in number, in the order in which they are
-- tried; then yes and no, with the third cell blank and declined, of a column and of a constant, a row entry over no rows, and a table 1 without rows
unfoldable pub gate_edges : List GateEdge
gate_edges =
    refuses [] [] 1 ∷ refuses three (one_row ++ (0 ∷ [])) 1 ∷ refuses (0 ∷ []) (set one_row 21 3) 2 ∷ refuses (0 ∷ []) one_row 9
    ∷ refuses (set three 10 1) (set one_row 4 1) 9 ∷ refuses (card_bytes (2 ∷ 2 ∷ []) (null 0 1)) one_row 10 ∷ refuses three (set one_row 4 1) 10
    ∷ refuses worked_card one_row 10 ∷ refuses (card_bytes (3 ∷ 2 ∷ 1 ∷ []) (null 0 1)) one_row 10
    ∷ record { card = over (null 0 3); file = one_row; run = Given true; listing = record { result = Given 1; buffer = 0 ∷ [] } }
    ∷ record { card = over (null 0 3); file = set one_row 21 2; run = Given true; listing = record { result = Given 1; buffer = 0 ∷ [] } }
    ∷ record { card = alone IsDeclined (Column 0 3); file = set one_row 21 2; run = Given true; listing = record { result = Given 1; buffer = 0 ∷ [] } }
    ∷ record { card = alone IsDeclined (Column 0 3); file = one_row; run = Given false; listing = record { result = Given 0; buffer = 9 ∷ [] } }
    ∷ record { card = alone IsDeclined (Constant (pos 5)); file = set one_row 21 2; run = Given false; listing = record { result = Given 0; buffer = 9 ∷ [] } }
    ∷ record { card = over (null 0 2); file = one_row; run = Given false; listing = record { result = Given 0; buffer = 9 ∷ [] } }
    ∷ record { card = over (RowEntry All 2 (null 1 1)); file = one_row; run = Given true; listing = record { result = Given 1; buffer = 0 ∷ [] } }
    ∷ record { card = over (null 0 3); file = 2 ∷ 3 ∷ 0 ∷ 0 ∷ 2 ∷ 0 ∷ 0 ∷ []; run = Refused 11; listing = record { result = Given 0; buffer = 9 ∷ [] } }
    ∷ []

abbrev pub gate_answers : GateEdge → Answer Bool × Lent ℕ
gate_answers e = (run_call e.card e.file 0, list_call e.card e.file (9 ∷ []))

abbrev pub gate_expected : GateEdge → Answer Bool × Lent ℕ
gate_expected e = (e.run, e.listing)

-- ---- each kind of entry, by its bytes

-- a card of byte values, for tables of 2 columns and 1; RUN's answers on the rows 0 to 3; LIST's rows
pub record KindCase : Type 0 where
  pub card : List ℕ
  pub runs : List Bool
  pub admitted : List ℕ

-- a record: end, table, comparison, and two values of a tag and a number, all below 256
abbrev fields : ℕ → ℕ → ℕ → ℕ → ℕ → ℕ → ℕ → List ℕ
fields end table comparison tag n tag' n' = end ∷ 0 ∷ table ∷ comparison ∷ tag ∷ n ∷ 0 ∷ 0 ∷ 0 ∷ tag' ∷ n' ∷ 0 ∷ 0 ∷ 0 ∷ []

abbrev one_entry : ℕ → List ℕ → List ℕ
one_entry kind r = 1 ∷ 0 ∷ 2 ∷ 2 ∷ 1 ∷ kind ∷ r

-- an entry of this kind with m.2 > 0 (kind 5) and m.1 is not blank
abbrev pair_of : ℕ → List ℕ
pair_of kind = 3 ∷ 0 ∷ 2 ∷ 2 ∷ 1 ∷ kind ∷ 5 ∷ 8 ∷ fields 3 0 0 0 0 0 0 ++ (fields 2 0 5 0 2 255 0 ++ fields 3 0 0 0 1 0 0)

-- an entry of this kind over table 2, with a comparison of its column 1 with m.1 or m.2
abbrev rows_with : ℕ → ℕ → ℕ → ℕ → List ℕ
rows_with kind inner comparison column = 2 ∷ 0 ∷ 2 ∷ 2 ∷ 1 ∷ kind ∷ inner ∷ fields 2 2 0 0 0 0 0 ++ fields 2 0 comparison 1 1 0 column

-- table 1: (1, 5), (2, blank), (3, 0), (blank, declined); table 2: 1, blank. The numbers of blank and declined cells are 7.
abbrev pub kind_file : List ℕ
kind_file =
    (2 ∷ 2 ∷ 4 ∷ 0 ∷ 1 ∷ 2 ∷ 0 ∷ [])
    ++ (1 ∷ 0 ∷ 0 ∷ 0 ∷ 5 ∷ 0 ∷ 0 ∷ 0 ∷ 2 ∷ 0 ∷ 0 ∷ 0 ∷ 7 ∷ 0 ∷ 0 ∷ 0 ∷ 3 ∷ 0 ∷ 0 ∷ 0 ∷ 0 ∷ 0 ∷ 0 ∷ 0 ∷ 7 ∷ 0 ∷ 0 ∷ 0 ∷ 7 ∷ 0 ∷ 0 ∷ 0 ∷ 1 ∷ 0 ∷ 0 ∷ 0 ∷ 7 ∷ 0 ∷ 0 ∷ 0 ∷ [])
    ++ (0 ∷ 0 ∷ 0 ∷ 1 ∷ 0 ∷ 0 ∷ 1 ∷ 2 ∷ 0 ∷ 1 ∷ [])

-- the kinds from 1 to 10; then 10 of the constant 5, and of m.1, which is blank once and never declined; and some row with v.1 < m.2, where the two levels cannot be taken for one
-- another
unfoldable pub kind_cases : List KindCase
kind_cases =
    record { card = pair_of 1; runs = true ∷ false ∷ false ∷ false ∷ []; admitted = 0 ∷ [] }
    ∷ record { card = pair_of 2; runs = true ∷ true ∷ true ∷ false ∷ []; admitted = 0 ∷ 1 ∷ 2 ∷ [] }
    ∷ record { card = rows_with 3 5 1 1; runs = true ∷ false ∷ false ∷ false ∷ []; admitted = 0 ∷ [] }
    ∷ record { card = rows_with 4 6 1 1; runs = true ∷ false ∷ false ∷ true ∷ []; admitted = 0 ∷ 3 ∷ [] }
    ∷ record { card = one_entry 5 (fields 1 0 5 0 2 255 0); runs = true ∷ false ∷ false ∷ false ∷ []; admitted = 0 ∷ [] }
    ∷ record { card = one_entry 6 (fields 1 0 5 0 2 255 0); runs = true ∷ true ∷ false ∷ true ∷ []; admitted = 0 ∷ 1 ∷ 3 ∷ [] }
    ∷ record { card = one_entry 7 (fields 1 0 0 0 2 0 0); runs = false ∷ true ∷ false ∷ true ∷ []; admitted = 1 ∷ 3 ∷ [] }
    ∷ record { card = one_entry 8 (fields 1 0 0 0 2 0 0); runs = true ∷ false ∷ true ∷ false ∷ []; admitted = 0 ∷ 2 ∷ [] }
    ∷ record { card = one_entry 9 (fields 1 0 0 0 2 0 0); runs = false ∷ false ∷ false ∷ true ∷ []; admitted = 3 ∷ [] }
    ∷ record { card = one_entry 10 (fields 1 0 0 0 2 0 0); runs = true ∷ true ∷ true ∷ false ∷ []; admitted = 0 ∷ 1 ∷ 2 ∷ [] }
    ∷ record { card = one_entry 10 (fields 1 0 0 255 5 0 0); runs = true ∷ true ∷ true ∷ true ∷ []; admitted = 0 ∷ 1 ∷ 2 ∷ 3 ∷ [] }
    ∷ record { card = one_entry 10 (fields 1 0 0 0 1 0 0); runs = true ∷ true ∷ true ∷ true ∷ []; admitted = 0 ∷ 1 ∷ 2 ∷ 3 ∷ [] }
    ∷ record { card = rows_with 3 5 3 2; runs = true ∷ false ∷ false ∷ false ∷ []; admitted = 0 ∷ [] }
    ∷ []

-- RUN on the rows 0 to 4, and LIST with five elements, and with one fewer than there are rows
abbrev pub kind_answers : KindCase → List (Answer Bool) × Lent ℕ × Lent ℕ
kind_answers e = (
  map (run_call e.card kind_file) (0 ∷ 1 ∷ 2 ∷ 3 ∷ 4 ∷ []),
  list_call e.card kind_file (9 ∷ 9 ∷ 9 ∷ 9 ∷ 9 ∷ []),
  list_call e.card kind_file (drop 1 e.admitted),
)

abbrev pub kind_expected : KindCase → List (Answer Bool) × Lent ℕ × Lent ℕ
kind_expected e = (
  map Given e.runs ++ (Refused 11 ∷ []),
  record { result = Given (length e.admitted); buffer = take 5 (e.admitted ++ (9 ∷ 9 ∷ 9 ∷ 9 ∷ 9 ∷ [])) },
  record { result = Refused 12; buffer = drop 1 e.admitted },
)
