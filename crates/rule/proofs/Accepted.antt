-- An accepted text is just what the grammar, names and limits allow.
use mathlib.Core.Path.{◌≡◌, refl, sym, ap, ◌∙◌}
use mathlib.Core.Bool.{Bool, true, false, not, ◌&&◌}
use mathlib.Core.List.{List, [], ◌∷◌}
use mathlib.Core.Option.{Option, none, some}
use Prim.Native.Nat.{ℕ, ◌≤◌, ◌<◌}
use native.Mathlib.Omega.{arith}
use borrow.Author.Tests.{ltb-false, le-ltb, leb-true, le-leb, not-false, not-true}
use lib.Dec.{ltb, leb}
use lib.IntN.{pos}
use lib.ListN.{length}
use Rattle.tables.specs.Lists.{◌>>=◌, is_missing}
use Rattle.tables.specs.Tables.{sizes_fit, marks_fit, columns_of}
use Rattle.tables.specs.Values.{most_entries, judged_levels}
use Rattle.tables.specs.Refusals.{◌if◌, first_applying, tables_refusals}
use Rattle.tables.proofs.Refusals.{first_nil, skipped, first_none, first_one, none_first, other_first}
use Rattle.rule.specs.Tokens.{tokens_of, opens_fit}
use Rattle.rule.specs.Condition.{WrittenCondition, parts, froms_deep}
use Rattle.rule.specs.Reader.{read_all}
use Rattle.rule.specs.Names.{most_parts, most_froms, limits_fit, outermost, rule_in}
use Rattle.rule.specs.Sum.{entry_sum, sum_fits}
use Rattle.rule.specs.Calls.{most_bytes, fails, is_there, condition_of, rule_of, reading_refusals, Accepted}
use Rattle.rule.specs.Claims.{UpToNames, Allowed, AcceptedClaim, TooManyEntries, ManyEntriesClaim, PartsClaim}
use Rattle.rule.proofs.Reading.{read_sound, read_complete}
use Rattle.rule.proofs.Constants.{tokens_fit, reading_constants}
use Rattle.rule.proofs.Fits.{names_fit, fits_scoped}
use Rattle.rule.proofs.Parts.{parts_back, parts_length}
use Rattle.rule.proofs.Sum.{sum_fits_lem, fits_sum, sum_unfits, unfits_sum}

-- something is there
there : {A : Type 0} (o : Option A) → is_missing o ≡ false → (x : A) × (o ≡ some x)
there none e = let z : ◌≡◌ {A = ℕ} 0 1 = cc in absurd (omega arith)
there (some x) e = (x, refl)

passed : {A : Type 0} (p : A → Bool) (x : A) → fails p (some x) ≡ false → p x ≡ true
passed p x e = not-false (p x) e

-- the refusals of reading one by one
record Unrefused (text file : List ℕ) : Type 0 where
  no_1 : not (sizes_fit file) ≡ false
  no_2 : not (marks_fit file) ≡ false
  no_3 : ltb most_bytes (length text) ≡ false
  no_4 : is_missing (tokens_of text) ≡ false
  no_5 : fails (opens_fit (pos 0)) (tokens_of text) ≡ false
  no_6 : fails (λ ts. is_there (read_all ts)) (tokens_of text) ≡ false
  no_7 : fails limits_fit (condition_of text) ≡ false
  no_8 : fails (λ a. is_there (rule_in (columns_of file) outermost a)) (condition_of text) ≡ false

-- 13, which is left where none of them applies
abbrev over_sum : List ℕ → List ℕ → Bool
over_sum text file = fails sum_fits (rule_of text (columns_of file))

-- what reading gives is none of 1 to 8: none of these applies, and so 13 decides
unrefused : (text file : List ℕ) (o : Option ℕ) → ((n : ℕ) → n ≤ 8 → some n ≡ o → ⊥) → first_applying (reading_refusals text file) ≡ o
    → Unrefused text file × (first_applying ((13 if over_sum text file) ∷ []) ≡ o)
unfolding reading_refusals tables_refusals condition_of rule_of
unrefused text file o h e =
    let e1 = other_first 1 (not (sizes_fit file)) _ o (h 1 (omega arith)) e in
    let e2 = other_first 2 (not (marks_fit file)) _ o (h 2 (omega arith)) e1.1 in
    let e3 = other_first 3 (ltb most_bytes (length text)) _ o (h 3 (omega arith)) e2.1 in
    let e4 = other_first 4 (is_missing (tokens_of text)) _ o (h 4 (omega arith)) e3.1 in
    let e5 = other_first 5 (fails (opens_fit (pos 0)) (tokens_of text)) _ o (h 5 (omega arith)) e4.1 in
    let e6 = other_first 6 (fails (λ ts. is_there (read_all ts)) (tokens_of text)) _ o (h 6 (omega arith)) e5.1 in
    let e7 = other_first 7 (fails limits_fit (condition_of text)) _ o (h 7 (omega arith)) e6.1 in
    let e8 = other_first 8 (fails (λ a. is_there (rule_in (columns_of file) outermost a)) (condition_of text)) _ o (h 8 (omega arith)) e7.1 in
    (record { no_1 = e1.0; no_2 = e2.0; no_3 = e3.0; no_4 = e4.0; no_5 = e5.0; no_6 = e6.0; no_7 = e7.0; no_8 = e8.0 }, e8.1)

refused_by_sum : (text file : List ℕ) → Unrefused text file → first_applying (reading_refusals text file) ≡ first_applying ((13 if over_sum text file) ∷ [])
unfolding reading_refusals tables_refusals condition_of rule_of
refused_by_sum text file u =
    skipped 1 _ _ u.no_1 ∙ skipped 2 _ _ u.no_2 ∙ skipped 3 _ _ u.no_3 ∙ skipped 4 _ _ u.no_4
    ∙ skipped 5 _ _ u.no_5 ∙ skipped 6 _ _ u.no_6 ∙ skipped 7 _ _ u.no_7 ∙ skipped 8 _ _ u.no_8

limits_are : (a : WrittenCondition) → limits_fit a ≡ true → (parts a ≤ most_parts) × (froms_deep a ≤ most_froms)
unfolding limits_fit
limits_are a e = go (leb (parts a) most_parts) (leb (froms_deep a) most_froms) refl refl e
  where
    go : (p q : Bool) → leb (parts a) most_parts ≡ p → leb (froms_deep a) most_froms ≡ q → p && q ≡ true → (parts a ≤ most_parts) × (froms_deep a ≤ most_froms)
    go true true f g h = (leb-true _ _ f, leb-true _ _ g)
    go true false f g h = let z : ◌≡◌ {A = ℕ} 0 1 = cc in absurd (omega arith)
    go false q f g h = let z : ◌≡◌ {A = ℕ} 0 1 = cc in absurd (omega arith)

pub limits_of : (a : WrittenCondition) → parts a ≤ most_parts → froms_deep a ≤ most_froms → limits_fit a ≡ true
unfolding limits_fit
limits_of a p q = rw (le-leb (parts a) most_parts p, le-leb (froms_deep a) most_froms q)

-- ---- 1 to 8 leave just what grammar, limits and names allow

unrefused_named : (text file : List ℕ) → Unrefused text file → UpToNames text file
unfolding condition_of
unrefused_named text file u =
    let t = there (tokens_of text) u.no_4 in
    let a = there (read_all t.0) (not-true _ (passed (λ ts. is_there (read_all ts)) t.0 (rw t.1 at u.no_6))) in
    let is : condition_of text ≡ some a.0 = ap (◌>>= read_all) t.1 ∙ a.1 in
    let r = there (rule_in (columns_of file) outermost a.0) (not-true _ (passed (λ x. is_there (rule_in (columns_of file) outermost x)) a.0 (rw is at u.no_8))) in
    let l = limits_are a.0 (passed limits_fit a.0 (rw is at u.no_7)) in
    record {
      tables_sized = not-false _ u.no_1;
      tables_marked = not-false _ u.no_2;
      short = ltb-false most_bytes (length text) u.no_3;
      tokens = t.0;
      are_tokens = t.1;
      brackets = passed (opens_fit (pos 0)) t.0 (rw t.1 at u.no_5);
      condition = a.0;
      reads = read_sound t.0 a.0 a.1;
      few_parts = l.0;
      few_froms = l.1;
      rule = r.0;
      names = r.1;
    }

named_unrefused : (text file : List ℕ) → UpToNames text file → Unrefused text file
unfolding condition_of
named_unrefused text file w =
    let read : read_all w.tokens ≡ some w.condition = read_complete w.tokens w.condition w.reads in
    let is : condition_of text ≡ some w.condition = ap (◌>>= read_all) w.are_tokens ∙ read in
    record {
      no_1 = ap not w.tables_sized;
      no_2 = ap not w.tables_marked;
      no_3 = le-ltb most_bytes (length text) w.short;
      no_4 = ap is_missing w.are_tokens;
      no_5 = rw (w.are_tokens, w.brackets);
      no_6 = rw (w.are_tokens, read);
      no_7 = rw (is, limits_of w.condition w.few_parts w.few_froms);
      no_8 = rw (is, w.names);
    }

pub named_rule : (text file : List ℕ) (w : UpToNames text file) → rule_of text (columns_of file) ≡ some w.rule
unfolding rule_of condition_of
named_rule text file w = ap (◌>>= rule_in (columns_of file) outermost) (ap (◌>>= read_all) w.are_tokens ∙ read_complete w.tokens w.condition w.reads) ∙ w.names

-- ---- and 13 goes by the sum

module _ (text file : List ℕ) (w : UpToNames text file) where
  over_is : over_sum text file ≡ not (sum_fits w.rule)
  over_is = ap (fails sum_fits) (named_rule text file w)

  few_of : over_sum text file ≡ false → entry_sum w.rule ≤ most_entries
  few_of e = fits_sum w.rule (not-false _ (sym over_is ∙ e))

  of_few : entry_sum w.rule ≤ most_entries → over_sum text file ≡ false
  of_few h = over_is ∙ ap not (sum_fits_lem w.rule h)

  many_of : over_sum text file ≡ true → most_entries < entry_sum w.rule
  many_of e = unfits_sum w.rule (not-true _ (sym over_is ∙ e))

  of_many : most_entries < entry_sum w.rule → over_sum text file ≡ true
  of_many h = over_is ∙ ap not (sum_unfits w.rule h)

no_such : {A : Type 0} (n : ℕ) → ◌≡◌ {A = Option ℕ} (some n) none → A
no_such n e = let z : ◌≡◌ {A = ℕ} 0 1 = cc in absurd (omega arith)

accepted_allowed : (text file : List ℕ) → Accepted text file → Allowed text file
accepted_allowed text file e =
    let u = unrefused text file none (λ n h f. no_such n f) e in
    let w = unrefused_named text file u.0 in
    record { up_to_names = w; few_entries = few_of text file w (none_first 13 _ _ u.1).0 }

allowed_accepted : (text file : List ℕ) → Allowed text file → Accepted text file
allowed_accepted text file a =
    refused_by_sum text file (named_unrefused text file a.up_to_names) ∙ first_none 13 _ _ (of_few text file a.up_to_names a.few_entries) first_nil

pub accepted_claim : AcceptedClaim
accepted_claim text file = (accepted_allowed text file, allowed_accepted text file)

pub accepted_named : (text file : List ℕ) → Accepted text file → UpToNames text file
accepted_named text file e = (accepted_allowed text file e).up_to_names

-- 13 is given only where it applies
thirteen_applies : (b : Bool) → first_applying ((13 if b) ∷ []) ≡ some 13 → b ≡ true
unfolding first_applying
thirteen_applies true e = refl
thirteen_applies false e = no_such 13 (sym e)

pub many_entries_claim : ManyEntriesClaim
many_entries_claim text file = (over, given)
  where
    over : first_applying (reading_refusals text file) ≡ some 13 → TooManyEntries text file
    over e =
        let u = unrefused text file (some 13) (λ n h f. let z : n ≡ 13 = cc in omega arith) e in
        let w = unrefused_named text file u.0 in
        record { up_to_names = w; many_entries = many_of text file w (thirteen_applies _ u.1) }

    given : TooManyEntries text file → first_applying (reading_refusals text file) ≡ some 13
    given a = refused_by_sum text file (named_unrefused text file a.up_to_names) ∙ first_one 13 _ _ (of_many text file a.up_to_names a.many_entries)

-- ---- the rule of an accepted text

pub parts_claim : PartsClaim
parts_claim text file e =
    let allowed = accepted_allowed text file e in
    let w = allowed.up_to_names in
    let constants = reading_constants w.reads (tokens_fit text w.are_tokens) in
    let resolved = names_fit (columns_of file) w.condition constants w.names in
    let scoped = fits_scoped (columns_of file) 1 judged_levels refl w.rule resolved.fits in
    let few = w.few_parts in
    let shallow = w.few_froms in
    let deep : froms_deep w.rule ≤ most_froms = omega arith in
    record {
      rule = w.rule;
      is_rule = named_rule text file w;
      fits = resolved.fits;
      scoped = scoped;
      few_parts = omega arith;
      few_froms = deep;
      few_entries = allowed.few_entries;
      records = parts_length w.rule 0;
      back = parts_back w.rule deep scoped;
    }
