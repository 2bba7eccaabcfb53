-- A line read field by field.
use mathlib.Core.Path.{◌≡◌, refl, sym, ap, ap₂, subst, ◌∙◌}
use mathlib.Core.List.{List, [], ◌∷◌, ◌++◌, map, append_assoc, append-nil}
use Rattle.std.proofs.Math.Option.{Option as MathOption, none, some}
use Prim.Native.Nat.{ℕ, suc, ◌+◌, ◌-◌, ◌<◌, ◌≤◌}
use native.Mathlib.Omega.{arith}
use lib.ListN.{length, drop, length-append, length-map, length-drop}
use lib.Seq.{drop-drop}
use Rattle.tables.specs.Lists.{◌>>=◌}
use Rattle.tables.specs.Tables.{Row}
use Rattle.files.specs.Files.{RawCell, raw_cell}
use Rattle.lines.specs.Calls.{stored_cell}
use Rattle.importer.specs.Code.{field_from, FieldAt, behind_from, place_after, line_from, line_after, Room, MoreKept, LineKept}
use Rattle.importer.specs.declared.Field.{Field}
use Rattle.std.specs.Prelude.{Some, None}
use Rattle.importer.proofs.Behind.{behind_within}
use Rattle.importer.proofs.Keeping.{more_none, more_kept}

-- cells, and so many bytes, before the rest of a line
abbrev pub continued : Row → ℕ → MathOption (Row × ℕ) → MathOption (Row × ℕ)
continued row n none = none
continued row n (some r) = some (row ++ r.0, n + r.1)

continued_twice : (row more : Row) (m n : ℕ) (o : MathOption (Row × ℕ)) → continued row m (continued more n o) ≡ continued (row ++ more) (m + n) o
continued_twice row more m n none = refl
continued_twice row more m n (some r) =
    let z : m + (n + r.1) ≡ m + n + r.1 = omega arith in
    ap₂ (λ (l : Row) (k : ℕ). some (l, k)) (sym (append_assoc row more r.0)) z

-- ---- one field of a line

field_then : (x : ℕ → MathOption (Row × ℕ)) (o : MathOption ℕ) (n : ℕ) → o ≡ some n → (o >>= x) ≡ x n
field_then x o n e = ap (λ (p : MathOption ℕ). p >>= x) e

pub line_step : (text : List ℕ) (left n : ℕ) → behind_from left (drop (field_from text).1 text) ≡ some n
    → line_from (suc left) text ≡ continued ((field_from text).0 ∷ []) ((field_from text).1 + n) (line_from left (drop ((field_from text).1 + n) text))
unfolding line_from
line_step text left n e = field_then _ _ n e ∙ go (line_from left (drop ((field_from text).1 + n) text))
  where
    go : (o : MathOption (Row × ℕ)) → (o >>= λ r. some ((field_from text).0 ∷ r.0, (field_from text).1 + n + r.1)) ≡ continued ((field_from text).0 ∷ []) ((field_from text).1 + n) o
    go none = refl
    go (some r) = refl

pub line_bad : (text : List ℕ) (left : ℕ) → behind_from left (drop (field_from text).1 text) ≡ none → line_from (suc left) text ≡ none
unfolding line_from
line_bad text left e = ap (λ (p : MathOption ℕ). p >>= λ n. (line_from left (drop ((field_from text).1 + n) text) >>= λ r. some ((field_from text).0 ∷ r.0, (field_from text).1 + n + r.1))) e

-- ---- what `after` tells

pub after_place : (i j : ℕ) (o : MathOption ℕ) → Some j ≡ place_after i o → (o ≡ some (j - i)) × (i ≤ j)
after_place i j none e = let z : ◌≡◌ {A = ℕ} 0 1 = cc in absurd (omega arith)
after_place i j (some n) e = let z : j ≡ i + n = cc in (ap some (omega arith), omega arith)

pub after_bad : (i : ℕ) (o : MathOption ℕ) → None ≡ place_after i o → o ≡ none
after_bad i none e = refl
after_bad i (some n) e = let z : ◌≡◌ {A = ℕ} 0 1 = cc in absurd (omega arith)

-- ---- the loop over the fields of a line

-- so many fields of the line at place i were read, up to the place `at`, and their cells are kept
pub record LineSoFar (text : List ℕ) (i columns : ℕ) (values₀ : List (List ℕ)) (marks₀ : List ℕ) (k : ℕ) (values : List (List ℕ)) (marks : List ℕ) (at column : ℕ) : Type 0 where
  pub row : Row
  pub count : length row ≡ column
  pub few : column ≤ columns
  pub later : i ≤ at
  pub inside : at ≤ length text
  pub line : line_from columns (drop i text) ≡ continued row (at - i) (line_from (columns - column) (drop at text))
  pub kept : MoreKept values₀ marks₀ k (map stored_cell row) values marks

pub line_begun : (text : List ℕ) (i columns : ℕ) (values : List (List ℕ)) (marks : List ℕ) (k : ℕ) → i ≤ length text → Room values marks
    → LineSoFar text i columns values marks k values marks i 0
line_begun text i columns values marks k h room =
    record {
      row = [];
      count = refl;
      few = omega arith;
      later = omega arith;
      inside = h;
      line =
          let z : i - i ≡ 0 = omega arith in
          let n : columns - 0 ≡ columns = omega arith in
          sym (ap₂ (λ (m n : ℕ). continued [] m (line_from n (drop i text))) z n ∙ whole _);
      kept = more_none values marks room k;
    }
  where
    whole : (o : MathOption (Row × ℕ)) → continued [] 0 o ≡ o
    whole none = refl
    whole (some r) = let z : 0 + r.1 ≡ r.1 = omega arith in ap (λ (n : ℕ). some (r.0, n)) z

module _ {text : List ℕ} {i columns : ℕ} {values₀ : List (List ℕ)} {marks₀ : List ℕ} {k : ℕ} {values : List (List ℕ)} {marks : List ℕ} {at column : ℕ}
    (so_far : LineSoFar text i columns values₀ marks₀ k values marks at column) where
  module _ (more : column < columns) (field : Field) (found : FieldAt text at field) where
    abbrev left : ℕ
    left = columns - (column + 1)

    from_field : drop field.end text ≡ drop (field_from (drop at text)).1 (drop at text)
    from_field = ap (λ (n : ℕ). drop n text) found.ends ∙ sym (drop-drop (field_from (drop at text)).1 at text)

    one_more : columns - column ≡ suc left
    one_more = omega arith

    -- something else than a comma or a line end stands behind the field
    pub line_fails : None ≡ place_after field.end (behind_from left (drop field.end text)) → line_from columns (drop i text) ≡ none
    line_fails e =
        so_far.line
        ∙ ap (continued so_far.row (at - i))
        (ap (λ (n : ℕ). line_from n (drop at text)) one_more
        ∙ line_bad (drop at text) left (sym (ap (behind_from left) from_field) ∙ after_bad field.end _ e))

    -- a field more, its cell kept
    module _ (values' : List (List ℕ)) (marks' : List ℕ) (kept : MoreKept values marks (k + column) (raw_cell field.bits field.mark ∷ []) values' marks') (next : ℕ)
        (after : Some next ≡ place_after field.end (behind_from left (drop field.end text))) where
      abbrev cell_length : ℕ
      cell_length = (field_from (drop at text)).1

      place : (behind_from left (drop field.end text) ≡ some (next - field.end)) × (field.end ≤ next)
      place = after_place field.end next _ after

      ends : field.end ≡ at + cell_length
      ends = found.ends

      pub line_goes_on : LineSoFar text i columns values₀ marks₀ k values' marks' next (column + 1)
      line_goes_on =
          let count = so_far.count in
          let later = so_far.later in
          let high = place.1 in
          let behind = sym (ap (behind_from left) from_field) ∙ place.0 in
          let n : at - i + (cell_length + (next - field.end)) ≡ next - i = omega (arith, ends) in
          let j : at + (cell_length + (next - field.end)) ≡ next = omega (arith, ends) in
          let x = (field_from (drop at text)).0 in
          record {
            row = so_far.row ++ (x ∷ []);
            count = omega (arith, length-append so_far.row (x ∷ []));
            few = omega arith;
            later = omega (arith, ends);
            inside = omega (arith, behind_within left (drop field.end text) (next - field.end) place.0, length-drop field.end text, found.inside);
            line =
                so_far.line
                ∙ ap (continued so_far.row (at - i)) (ap (λ (m : ℕ). line_from m (drop at text)) one_more ∙ line_step (drop at text) left (next - field.end) behind)
                ∙ continued_twice so_far.row (x ∷ []) (at - i) (cell_length + (next - field.end)) (line_from left (drop (cell_length + (next - field.end)) (drop at text)))
                ∙ ap₂ (λ (m : ℕ) (l : List ℕ). continued (so_far.row ++ (x ∷ [])) m (line_from left l)) n
                (drop-drop (cell_length + (next - field.end)) at text ∙ ap (λ (m : ℕ). drop m text) j);
            kept =
                subst (λ cs. MoreKept values₀ marks₀ k cs values' marks') (cells_more so_far.row x)
                (more_kept values₀ marks₀ k (k + column) (map stored_cell so_far.row) (stored_cell x ∷ []) values marks values' marks' so_far.kept
                (omega (arith, length-map so_far.row stored_cell))
                (subst (λ c. MoreKept values marks (k + column) (c ∷ []) values' marks') found.stored kept));
          }
        where
          cells_more : (row : Row) (x : _) → map stored_cell row ++ (stored_cell x ∷ []) ≡ map stored_cell (row ++ (x ∷ []))
          cells_more [] x = refl
          cells_more (y ∷ row) x = ap (λ (cs : List RawCell). stored_cell y ∷ cs) (cells_more row x)

  -- all fields were read
  pub line_ends : columns ≤ column → line_from columns (drop i text) ≡ some (so_far.row ++ [], at - i + 0)
  unfolding line_from
  line_ends h =
      let z : columns - column ≡ 0 = omega arith in
      so_far.line ∙ ap (λ (n : ℕ). continued so_far.row (at - i) (line_from n (drop at text))) z

  pub line_done : columns ≤ column → LineKept text i columns k values₀ marks₀ (Some at) values marks
  line_done h =
      let later = so_far.later in
      let z : at ≡ i + (at - i + 0) = omega arith in
      let is = line_ends h in
      record {
        after = ap Some z ∙ sym (ap (line_after i) is);
        room = so_far.kept.room;
        long = so_far.kept.long;
        more = λ x e.
            let same : x.0 ≡ so_far.row = cc_row x (sym e ∙ is) in
            subst (λ (r : Row). MoreKept values₀ marks₀ k (map stored_cell r) values marks) (sym same) so_far.kept;
      }
    where
      cc_row : (x : Row × ℕ) → some x ≡ some (so_far.row ++ [], at - i + 0) → x.0 ≡ so_far.row
      cc_row x e = let z : x ≡ (so_far.row ++ [], at - i + 0) = cc in ap (λ (y : Row × ℕ). y.0) z ∙ append-nil so_far.row

-- a line that could not be read
pub line_failed : (text : List ℕ) (i columns k : ℕ) (values : List (List ℕ)) (marks : List ℕ) (values' : List (List ℕ)) (marks' : List ℕ) → line_from columns (drop i text) ≡ none
    → Room values' marks' → length marks' ≡ length marks → LineKept text i columns k values marks None values' marks'
line_failed text i columns k values marks values' marks' e room long =
    record {
      after = sym (ap (line_after i) e);
      room = room;
      long = long;
      more = λ x f. let z : ◌≡◌ {A = ℕ} 0 1 = absurd_some x (sym e ∙ f) in absurd (omega arith);
    }
  where
    absurd_some : (x : Row × ℕ) → ◌≡◌ {A = MathOption (Row × ℕ)} none (some x) → ◌≡◌ {A = ℕ} 0 1
    absurd_some x e = cc

pub ruleset line_read_so = (line_begun, line_fails, line_failed, line_goes_on, line_done)
