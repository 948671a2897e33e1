-- The sections that end in a run of what is beside units, of which some have their properties in an old stream.
use Rattle.std.proofs.Common.{◌≡◌, ◌∙◌, ap, sym, subst, ℕ, zero, suc, ◌+◌, ◌-◌, ◌*◌, ◌<◌, ◌≤◌, List, [], ◌∷◌, ◌++◌}
use Rattle.std.proofs.Common.{refl, length, get_or, Option, Some, None, arith}
use Rattle.std.specs.Prelude.{slice_get, IsSome}
use Rattle.std.proofs.lemmas.List.{length-append}
use Rattle.prop_map.specs.Settings.{Properties}
use Rattle.doc_parts.specs.declared.lists.Sed.{Sed}
use Rattle.doc_model.specs.declared.item.Item.{Item}
use Rattle.doc_model.specs.Collected.{sections_of}
use Rattle.doc_columns.specs.declared.attached.Attached.{Attached}
use Rattle.doc_columns.specs.Attached.{attached_of}
use Rattle.full_save.specs.Alike.{HaveAlike}
use Rattle.full_save.specs.Sections.{left_from}
use Rattle.full_save.proofs.Public.{alike_fewer, alike_rest, alike_of, there_at}
use Rattle.fast_save_layout.specs.PlannedSections.{new_sepx, planned_fc, planned_seds}
use Rattle.fast_save_layout.specs.PlannedSections.{PlannedSections, ArePlannedUpTo}
use Rattle.fast_save_layout.specs.declared.sections.SectionPlaces.{SectionPlaces}
use Rattle.fast_save_layout.proofs.PlannedLemmas.{planned_skip, planned_more, left_some}

-- no section is done yet
pub planned_begin : (main : List Item) (places : List (Option ℕ)) (base : ℕ) (out : List ℕ) (seds : List Sed) →
    length places ≡ length (sections_of main) → seds ≡ [] →
    ArePlannedUpTo main places base out 0 (record { number = 0; start = 0; out = out; seds = seds })
planned_begin main places base out seds count none =
    let all : length (left_from main 0) ≡ length places = sym count in
    record {
      bytes = refl;
      seds = ap (λ (list : List Sed). list ++ planned_seds 0 (base + length out) places (left_from main 0)) none;
      few = omega arith;
      count = omega (arith, all);
    }

-- items that end no section
pub planned_none : (main : List Item) (places : List (Option ℕ)) (base : ℕ) (old : List ℕ) (place count : ℕ)
    (so : PlannedSections) → HaveAlike (λ (item : Item). item.sect) None main place count →
    ArePlannedUpTo main places base old place so → ArePlannedUpTo main places base old (place + count) so
planned_none main places base old place zero so are done =
    let e : place ≡ place + 0 = omega arith in subst (λ (n : ℕ). ArePlannedUpTo main places base old n so) e done
planned_none main places base old place (suc count) so are done =
    let within = are.within in
    let j : ℕ = place + count in
    let below : j < length main = omega (arith, within) in
    let there = there_at main j below in
    let sect : Item → Option Properties = λ item. item.sect in
    let none : (get_or main j there.item).sect ≡ None =
    ap sect there.same ∙ are.each j there.item (omega arith) (omega arith) there.here in
    let before = planned_none main places base old place count so (alike_fewer sect None main place count are) done in
    let after = planned_skip main places base old j there.item so below none before in
    let e : j + 1 ≡ place + suc count = omega arith in
    subst (λ (n : ℕ). ArePlannedUpTo main places base old n so) e after

-- so many items that end a section each are so many sections
sections_in : (main : List Item) (properties : Properties) (place count : ℕ) →
    HaveAlike (λ (item : Item). item.sect) (Some properties) main place count →
    length (left_from main place) ≡ count + length (left_from main (place + count))
sections_in main properties place zero are =
    let e : place ≡ place + 0 = omega arith in
    omega (arith, ap (λ (n : ℕ). length (left_from main n)) e)
sections_in main properties place (suc count) are =
    let within = are.within in
    let below : place < length main = omega (arith, within) in
    let there = there_at main place below in
    let sect : Item → Option Properties = λ item. item.sect in
    let has : (get_or main place there.item).sect ≡ Some properties =
    ap sect there.same ∙ are.each place there.item (omega arith) (omega arith) there.here in
    let first = ap length (left_some main place there.item properties below has) in
    let one_less : suc count - 1 ≡ count = omega arith in
    let rest = sections_in main properties (place + 1) count
    (subst (λ (n : ℕ). HaveAlike sect (Some properties) main (place + 1) n) one_less
    (alike_rest sect (Some properties) main place (suc count) are (omega arith))) in
    let e : place + 1 + count ≡ place + suc count = omega arith in
    let end : length (left_from main (place + 1 + count)) ≡ length (left_from main (place + suc count)) =
    ap (λ (n : ℕ). length (left_from main n)) e in
    omega (arith, first, rest, end)

-- there are places for the sections that end in a run
pub places_within : (main : List Item) (places : List (Option ℕ)) (base : ℕ) (old : List ℕ) (beside : Attached)
    (place count : ℕ) (so : PlannedSections) → HaveAlike attached_of beside main place count → IsSome beside.sect →
    ArePlannedUpTo main places base old place so → so.number + count ≤ length places
places_within main places base old beside place count so are some done =
    within_by beside.sect some (alike_of attached_of (λ (b : Attached). b.sect) beside main place count are)
  where
    within_by : (sect : Option Properties) → IsSome sect →
        HaveAlike (λ (item : Item). item.sect) sect main place count → so.number + count ≤ length places
    within_by None some are = absurd (grind (arith, some))
    within_by (Some properties) some are =
        let counted = done.count in
        omega (arith, counted, sections_in main properties place count are)

-- the sections that end in a run before a CP are done, whatever main text the run is of
pub record ArePlannedIn
    (beside : Attached) (place count : ℕ) (old : SectionPlaces) (cp : ℕ) (before so : PlannedSections) : Type 0 where
  pub low : place ≤ cp
  pub high : cp ≤ place + count
  pub short : length so.out ≤ length before.out + 504 * (cp - place)
  pub number : so.number ≡ before.number + (cp - place)
  pub goes :
      (main : List Item) (bytes : List ℕ) → HaveAlike attached_of beside main place count →
      ArePlannedUpTo main old.places.now old.base bytes place before →
      ArePlannedUpTo main old.places.now old.base bytes cp so

pub none_in : (beside : Attached) (place count : ℕ) (old : SectionPlaces) (before : PlannedSections) →
    ArePlannedIn beside place count old place before before
none_in beside place count old before = record {
  low = omega arith;
  high = omega arith;
  short = omega arith;
  number = omega arith;
  goes = λ main bytes are done. done;
}

pub one_in : (beside : Attached) (place count : ℕ) (old : SectionPlaces) (cp : ℕ) (properties : Properties)
    (at : Option ℕ) (before so new : PlannedSections) → cp < place + count → beside.sect ≡ Some properties →
    slice_get old.places.now so.number ≡ Some at → length (new_sepx at properties) ≤ 503 →
    new.out ≡ so.out ++ new_sepx at properties →
    new.seds ≡ so.seds
    ++ (record { start = so.start; sepx = planned_fc (old.base + length so.out) at properties }) ∷ [] →
    new.start ≡ cp + 1 → new.number ≡ so.number + 1 → ArePlannedIn beside place count old cp before so →
    ArePlannedIn beside place count old (cp + 1) before new
one_in beside place count old cp properties at before so new below has there short out seds start number done =
    let low = done.low in
    let grown = ap length out in
    let so_far = done.short in
    let counted = done.number in
    record {
      low = omega (arith, low);
      high = omega (arith, below);
      short = omega (arith, grown, length-append so.out (new_sepx at properties), so_far, short, low);
      number = omega (arith, number, counted, low);
      goes = λ main bytes are before_it.
          let within = are.within in
          let here : cp < length main = omega (arith, within, below) in
          let item = there_at main cp here in
          let sect : (get_or main cp item.item).sect ≡ Some properties =
          ap (λ (i : Item). i.sect) item.same
          ∙ (ap (λ (b : Attached). b.sect) (are.each cp item.item low below item.here) ∙ has) in
          planned_more main old.places.now old.base bytes cp item.item properties at so new here sect there short out
          seds
          start number (done.goes main bytes are before_it);
    }
