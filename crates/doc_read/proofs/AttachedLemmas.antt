-- What is beside the CPs of a stretch.
use Rattle.std.proofs.Common.{◌≡◌, ◌∙◌, refl, sym, ap, subst, ℕ, ◌<◌, ◌≤◌, ◌+◌, ◌-◌, false, List, ◌++◌}
use Rattle.std.proofs.Common.{inl, inr, length, Option, Some, None, arith, length-append}
use Rattle.std.proofs.lemmas.Bool.{cases_lt, true≢false}
use Rattle.std.specs.Prelude.{slice_get, slice_index, is_some, replicate}
use Rattle.std.proofs.lemmas.List.{length-replicate}
use Rattle.std.proofs.lemmas.List.Elements.{All-replicate}
use Rattle.std.proofs.lemmas.Option.{slice_get_within}
use Rattle.doc_bits.proofs.Public.{slice_get_before, All_at, from_behind}
use Rattle.prop_map.specs.Settings.{Properties}
use Rattle.prop_map.specs.declared.modifiers.Modifier.{Modifier}
use Rattle.prop_map.specs.Formed.{IsPropertyMap, paragraph_groups, section_groups}
use Rattle.text_codes.specs.Paragraph.{is_paragraph_end}
use Rattle.doc_model.proofs.Public.{ForSome-from_cases}
use Rattle.doc_columns.specs.declared.attached.Attached.{Attached}
use Rattle.doc_columns.specs.Attached.{nothing}
use Rattle.doc_read.specs.declared.reading.PlcCursors.{PlcCursors}
use Rattle.doc_read.specs.Items.{IsDirectMarkAt}
use Rattle.doc_read.specs.Passing.{AddsEach, AreCpsPassed, IsNotAmong}
use Rattle.doc_read.specs.Reading.{ArePassed, HaveValidMarks, TextView, ends_paragraph_at}
use Rattle.doc_read.proofs.EntryLemmas.{entry_none}
use Rattle.doc_read.specs.Attached.{IsAttachedAt}

-- so many equal entries more
pub adds_times : {A : Type 0} (P : ℕ → A → Type 0) (count : ℕ) (old new : List A) (x : A) →
    new ≡ old ++ replicate count x → ((k : ℕ) → length old ≤ k → k < length old + count → P k x)
    → AddsEach P count old new
adds_times {A = A} P count old new x is right =
    let fresh = replicate count x in
    let long = length-append old fresh in
    let fresh_long = length-replicate count x in
    record {
      len = omega (arith, ap length is, long, fresh_long);
      kept = λ k lower. ap (λ (l : List A). slice_get l k) is ∙ slice_get_before old fresh k lower;
      each = λ k entry upper here.
          let there : slice_get (old ++ fresh) k ≡ Some entry = ap (λ (l : List A). slice_get l k) (sym is) ∙ here in
          let within = slice_get_within (old ++ fresh) k entry there in
          let place : length old + (k - length old) ≡ k = omega (arith, upper) in
          let behind : slice_get fresh (k - length old) ≡ Some entry =
          sym (from_behind old fresh (k - length old)) ∙ ap (λ (n : ℕ). slice_get (old ++ fresh) n) place ∙ there in
          let same : x ≡ entry =
          All_at (λ (y : A). x ≡ y) fresh (k - length old) entry (All-replicate (λ (y : A). x ≡ y) count x refl)
          behind in
          subst (P k) same (right k upper (omega (arith, within, long, fresh_long)));
    }

-- nothing is at a CP that is passed with the same number as the next one
none_at : (cps : List ℕ) (next cp : ℕ) → AreCpsPassed cps next cp → AreCpsPassed cps next (cp + 1) → IsNotAmong cps cp
none_at cps next cp here later k below = elim (cases_lt k next) [
  | inl low ↦ λ e. omega (arith, here.before k low, e)
  | inr high ↦ λ e. omega (arith, later.after k high below, e)
]

-- nothing is beside a CP that is passed with the same numbers as the next one, where its unit ends no paragraph
pub bare_attached : (view : TextView) (modifier : Modifier) (passed : PlcCursors) (cp : ℕ) →
    is_paragraph_end (slice_index view.units cp) false ≡ false → ArePassed view.marks passed cp
    → ArePassed view.marks passed (cp + 1) → IsAttachedAt view modifier cp nothing
bare_attached view modifier passed cp goes_on here later = record {
  sect_is =
      sym (entry_none view.marks.section_cps view.maps cp
      (none_at view.marks.section_cps passed.section cp here.sections later.sections));
  mark_is =
      subst (λ b. IsDirectMarkAt b view.wd view.paragraphs (slice_index view.places cp) modifier None) (sym goes_on) tt;
  fld_is =
      sym (entry_none view.marks.field_cps view.marks.field_bytes cp
      (none_at view.marks.field_cps passed.field cp here.fields later.fields));
  note_is =
      sym (entry_none view.marks.note_cps view.marks.note_kinds cp
      (none_at view.marks.note_cps passed.note cp here.notes later.notes));
  maps = record {
    pap = ForSome-from_cases None (λ mark. IsPropertyMap paragraph_groups mark.pap) tt;
    sect = ForSome-from_cases None (IsPropertyMap section_groups) tt;
  };
}

-- the unit of such a CP ends no paragraph
bare_goes_on : (view : TextView) (passed : PlcCursors) (cp : ℕ) →
    is_paragraph_end (slice_index view.units cp) false ≡ false → ArePassed view.marks passed cp
    → ArePassed view.marks passed (cp + 1) → ends_paragraph_at view cp ≡ false
bare_goes_on view passed cp goes_on here later =
    let none = entry_none view.marks.section_cps view.maps cp
    (none_at view.marks.section_cps passed.section cp here.sections later.sections) in
    ap (λ (o : Option Properties). is_paragraph_end (slice_index view.units cp) (is_some o)) none ∙ goes_on

-- so no mark is looked for in a stretch where nothing is
pub bare_marks : (view : TextView) (passed : PlcCursors) (cp until : ℕ) →
    ((at : ℕ) → cp ≤ at → at < until → is_paragraph_end (slice_index view.units at) false ≡ false)
    → ((at : ℕ) → cp ≤ at → at ≤ until → ArePassed view.marks passed at) → HaveValidMarks view cp until
bare_marks view passed cp until bare passes = λ at upper lower ends.
    absurd
    (true≢false (sym ends ∙ bare_goes_on view passed at (bare at upper lower) (passes at upper (omega (arith, lower)))
    (passes (at + 1) (omega (arith, upper)) (omega (arith, lower)))))

-- nothing came for each CP of a stretch where nothing is
pub bare_stretch : (view : TextView) (modifier : Modifier) (passed : PlcCursors) (cp until : ℕ) (old new : List
    Attached) →
    length old ≡ cp → cp < until → new ≡ old ++ replicate (until - cp) nothing
    → ((at : ℕ) → cp ≤ at → at < until → is_paragraph_end (slice_index view.units at) false ≡ false)
    → ((at : ℕ) → cp ≤ at → at ≤ until → ArePassed view.marks passed at)
    → AddsEach (IsAttachedAt view modifier) (until - cp) old new
bare_stretch view modifier passed cp until old new here some is bare passes =
    adds_times (IsAttachedAt view modifier) (until - cp) old new nothing is
    (λ at upper lower. bare_attached view modifier passed at
    (bare at (omega (arith, here, upper)) (omega (arith, here, some, lower)))
    (passes at (omega (arith, here, upper)) (omega (arith, here, some, lower)))
    (passes (at + 1) (omega (arith, here, upper)) (omega (arith, here, some, lower))))

-- one more, which is beside the CP
pub one_attached : (view : TextView) (modifier : Modifier) (cp : ℕ) (old new : List Attached) (attached : Attached) →
    length old ≡ cp → new ≡ old ++ replicate 1 attached → IsAttachedAt view modifier cp attached
    → AddsEach (IsAttachedAt view modifier) (cp + 1 - cp) old new
one_attached view modifier cp old new attached here is stands =
    let one : 1 ≡ cp + 1 - cp = omega arith in
    subst (λ (n : ℕ). AddsEach (IsAttachedAt view modifier) n old new) one
    (adds_times (IsAttachedAt view modifier) 1 old new attached is
    (λ at upper lower. let same : cp ≡ at = omega (arith, here, upper, lower) in
    subst (λ (n : ℕ). IsAttachedAt view modifier n attached) same stands))
