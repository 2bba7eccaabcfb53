use Rattle.std.proofs.Common.{◌≡◌, ◌∙◌, ap, arith, rules}
use Rattle.card.specs.Layout.{record_size, table_place, comparison_place, left_place, right_place}
use Rattle.tables.specs.Bytes.{between}
use Rattle.decoder.proofs.Decoding.{and_last, and_first, zeros_part, fits_pair, fits_row, fits_comparison, fits_mark}
use Rattle.decoder.proofs.fields_fit.Goals as goal

pub returns-in-PairKind : goal.returns-in-PairKind
returns-in-PairKind c = c.zero_bytes.ensures ∙ zeros_part _ table_place record_size (omega arith) (omega arith) ∙ fits_pair _ _ c.in-PairKind.is

pub returns-in-RowKind : goal.returns-in-RowKind
returns-in-RowKind c = c.zero_bytes-in-RowKind.ensures ∙ zeros_part _ comparison_place record_size (omega arith) (omega arith) ∙ fits_row _ _ c.in-RowKind.is

pub returns-then-contains : goal.returns-then-contains
returns-then-contains c =
    let contains : c.contains.result ≡ between 1 6 c.byte.result = search rules in
    and_last (fits_comparison _ _ c.in-ComparisonKind.is) (contains ∙ ap (between 1 6) c.byte.ensures.is) c.if-contains.true
    (c.zero_bytes-then-contains.ensures ∙ zeros_part _ table_place comparison_place (omega arith) (omega arith))

pub returns-else-contains : goal.returns-else-contains
returns-else-contains c =
    let contains : c.contains.result ≡ between 1 6 c.byte.result = search rules in
    and_first _ (fits_comparison _ _ c.in-ComparisonKind.is) (contains ∙ ap (between 1 6) c.byte.ensures.is) c.if-contains.false

pub returns-then-zero_bytes : goal.returns-then-zero_bytes
returns-then-zero_bytes c =
    and_last (fits_mark _ _ c.in-MarkKind.is) (c.zero_bytes-in-MarkKind.ensures ∙ zeros_part _ table_place left_place (omega arith) (omega arith)) c.if-zero_bytes.true
    (c.zero_bytes-then-zero_bytes.ensures ∙ zeros_part _ right_place record_size (omega arith) (omega arith))

pub returns-else-zero_bytes : goal.returns-else-zero_bytes
returns-else-zero_bytes c =
    and_first _ (fits_mark _ _ c.in-MarkKind.is) (c.zero_bytes-in-MarkKind.ensures ∙ zeros_part _ table_place left_place (omega arith) (omega arith)) c.if-zero_bytes.false
