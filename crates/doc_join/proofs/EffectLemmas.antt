-- What is in effect at a place of either document is in effect where its item is in the joined one.
use Rattle.std.proofs.Common.{◌≡◌, ◌∙◌, inl, inr, refl, sym, ap, subst, ℕ, ◌+◌, ◌-◌, ◌<◌, ◌≤◌, List}
use Rattle.std.proofs.Common.{length, Some, arith}
use Rattle.std.specs.Prelude.{slice_get}
use Rattle.std.proofs.lemmas.Bool.{cases_lt}
use Rattle.std.proofs.lemmas.Option.{slice_get_within, same_Some, none-some}
use Rattle.doc_bits.proofs.Public.{get-map}
use Rattle.doc_bits.specs.Places.{Place}
use Rattle.doc_bits.specs.declared.places.Where.{Where}
use Rattle.doc_bits.specs.declared.places.Where.TheVariants.{File, Wd, Table, Sheet as SheetPart, Main, Note, Head}
use Rattle.doc_model.specs.declared.item.Item.{Item}
use Rattle.doc_model.specs.declared.document.Document.{Document}
use Rattle.plain_doc.specs.RulesOfTexts.{text_of_place}
use Rattle.doc_join.specs.declared.renumbering.Renumbering.{Renumbering}
use Rattle.doc_join.specs.Texts.{renumbered_item, renumbered_mark, renumbered_text, ending_section}
use Rattle.doc_join.specs.Effects.{IsMarkFrom, Effects, AreEffectsAt, renumbered_effects}
use Rattle.doc_join.specs.Settings.{renumbered_chp}
use Rattle.doc_join.specs.Join.{document_join, first_numbers, second_numbers}
use Rattle.doc_join.specs.Laws.{CanBeJoined, main_end, place_from_second, IsNoSeparator, with_section_ended}
use Rattle.doc_join.specs.Laws.{JoinsKeepEffects}
use Rattle.doc_join.proofs.PartLemmas.{IsSheetPart, first_part, second_part}
use Rattle.doc_join.proofs.LayerLemmas.{character_moved, paragraph_moved}
use Rattle.effective_props.specs.Effective.{IsEffectiveCharacter}
use Rattle.doc_join.proofs.PlaceLemmas.{StandsIn, mark_stands, renumbered_stands, first_main, first_main_end}
use Rattle.doc_join.proofs.PlaceLemmas.{second_main}
use Rattle.doc_join.proofs.PlaceLemmas.{first_main_stands, second_main_stands, first_text, second_text}

-- ---- what is in effect at a place

-- where an item stood, and where it is
pub record IsMoved (numbers : Renumbering) (old joined : Document) (text : List Item) (place : ℕ) (there : Place) :
    Type 0 where
  pub shift : ℕ
  pub made : List Item
  pub is : text_of_place joined there.0 ≡ Some made
  pub stands : StandsIn numbers shift text made
  pub at : there.1 ≡ shift + place

pub effects_moved : (numbers : Renumbering) (old joined : Document) (place there : Place) (found : Effects)
    (item : Item) (was : AreEffectsAt old place found) → IsSheetPart numbers old.sheet joined.sheet →
    numbers.before + numbers.slots ≤ 4094 → (moved : IsMoved numbers old joined was.text place.1 there) →
    slice_get moved.made there.1 ≡ Some item → item.chp ≡ renumbered_chp numbers found.item.chp →
    AreEffectsAt joined there (record (renumbered_effects numbers found) { item = item })
effects_moved numbers old joined place there found item was part few moved here chp = record {
  text = moved.made;
  there = moved.is;
  item = here;
  mark =
      subst (λ n. IsMarkFrom moved.made n (renumbered_mark numbers found.mark)) (sym moved.at)
      (mark_stands numbers moved.shift was.text moved.made place.1 found.mark moved.stands was.mark);
  characters =
      subst (λ direct.
      IsEffectiveCharacter joined.sheet (found.mark.istd + numbers.before) direct (renumbered_chp numbers
      found.characters))
      (sym chp)
      (character_moved numbers old.sheet joined.sheet found.mark.istd found.item.chp found.characters part few
      was.characters);
  paragraph =
      paragraph_moved numbers old.sheet joined.sheet found.mark.istd found.mark.pap found.paragraph part was.paragraph;
}

-- ---- the law

renumbered_text_moves : (numbers : Renumbering) (old joined : Document) (text : List Item) (place : ℕ) (there : Place) →
    text_of_place joined there.0 ≡ Some (renumbered_text numbers text) → there.1 ≡ place →
    IsMoved numbers old joined text place there
renumbered_text_moves numbers old joined text place there is at = record {
  shift = 0;
  made = renumbered_text numbers text;
  is = is;
  stands = renumbered_stands numbers text;
  at = omega (arith, at);
}

first_numbers_few : (first second : Document) → CanBeJoined first second →
    (first_numbers first).before + (first_numbers first).slots ≤ 4094
first_numbers_few first second can = omega (arith, can.fits)

-- a place in a text of notes or header texts
first_kept_text : (first second : Document) (part : Where) (at : ℕ) (found : Effects) (can : CanBeJoined first second)
    (was : AreEffectsAt first (part, at) found) →
    text_of_place (document_join first second) part ≡ Some (renumbered_text (first_numbers first) was.text) →
    AreEffectsAt (document_join first second) (part, at) (renumbered_effects (first_numbers first) found)
unfolding renumbered_text_moves
first_kept_text first second part at found can was is =
    let first_maps = first_numbers first in
    let joined = document_join first second in
    effects_moved first_maps first joined (part, at) (part, at) found (renumbered_item first_maps found.item) was
    (first_part first.sheet second.sheet can.fits) (first_numbers_few first second can)
    (renumbered_text_moves first_maps first joined was.text at (part, at) is refl)
    (get-map (renumbered_item first_maps) was.text at found.item was.item) refl

second_kept_text : (first second : Document) (part there : Where) (at : ℕ) (found : Effects)
    (can : CanBeJoined first second) (was : AreEffectsAt second (part, at) found) →
    text_of_place (document_join first second) there ≡ Some (renumbered_text (second_numbers first second) was.text) →
    AreEffectsAt (document_join first second) (there, at) (renumbered_effects (second_numbers first second) found)
unfolding renumbered_text_moves
second_kept_text first second part there at found can was is =
    let second_maps = second_numbers first second in
    let joined = document_join first second in
    effects_moved second_maps second joined (part, at) (there, at) found (renumbered_item second_maps found.item) was
    (second_part first.sheet second.sheet can.fits) can.fits
    (renumbered_text_moves second_maps second joined was.text at (there, at) is refl)
    (get-map (renumbered_item second_maps) was.text at found.item was.item) refl

-- a place in the first main text
main_moved : (first second : Document) (at : ℕ) (text : List Item) → first.main ≡ text →
    IsMoved (first_numbers first) first (document_join first second) text at (Main, at)
main_moved first second at text is = record {
  shift = 0;
  made = (document_join first second).main;
  is = refl;
  stands =
      subst (λ t. StandsIn (first_numbers first) 0 t (document_join first second).main) is
      (first_main_stands (first_numbers first) (second_numbers first second) first.main second.main);
  at = omega arith;
}

first_kept_main : (first second : Document) (at : ℕ) (found : Effects) (item : Item) → CanBeJoined first second →
    AreEffectsAt first (Main, at) found → slice_get (document_join first second).main at ≡ Some item →
    item.chp ≡ renumbered_chp (first_numbers first) found.item.chp →
    AreEffectsAt (document_join first second) (Main, at)
    (record (renumbered_effects (first_numbers first) found) { item = item })
unfolding main_moved
first_kept_main first second at found item can was here chp =
    effects_moved (first_numbers first) first (document_join first second) (Main, at) (Main, at) found item was
    (first_part first.sheet second.sheet can.fits) (first_numbers_few first second can)
    (main_moved first second at was.text (same_Some first.main was.text was.there)) here chp

-- the item of a main text
main_item : (document : Document) (at : ℕ) (found : Effects) → AreEffectsAt document (Main, at) found →
    slice_get document.main at ≡ Some found.item
main_item document at found was =
    ap (λ text. slice_get text at) (same_Some document.main was.text was.there) ∙ was.item

pub first_kept : (first second : Document) (part : Where) (at : ℕ) (found : Effects) → CanBeJoined first second →
    AreEffectsAt first (part, at) found → ¬ (◌≡◌ {A = Place} (part, at) (main_end first)) →
    AreEffectsAt (document_join first second) (part, at) (renumbered_effects (first_numbers first) found)
first_kept first second File at found can was apart = absurd (none-some was.text was.there)
first_kept first second Wd at found can was apart = absurd (none-some was.text was.there)
first_kept first second Table at found can was apart = absurd (none-some was.text was.there)
first_kept first second SheetPart at found can was apart = absurd (none-some was.text was.there)
first_kept first second Main at found can was apart =
    let here = main_item first at found was in
    let within = slice_get_within first.main at found.item here in
    let before : at + 1 < length first.main = elim (cases_lt (at + 1) (length first.main)) [
      | inl low ↦ low
      | inr high ↦
          let end : at ≡ length first.main - 1 = omega (arith, high, within) in
          absurd (apart (ap (λ (n : ℕ). (Main, n)) end))
    ] in
    first_kept_main first second at found (renumbered_item (first_numbers first) found.item) can was
    (first_main (first_numbers first) (second_numbers first second) first.main second.main at found.item here before)
    refl
first_kept first second (Note number) at found can was apart =
    first_kept_text first second (Note number) at found can was
    (first_text 0 (first_numbers first) (second_numbers first second) first.notes second.notes number was.text
    was.there)
first_kept first second (Head number) at found can was apart =
    first_kept_text first second (Head number) at found can was
    (first_text 6 (first_numbers first) (second_numbers first second) first.heads second.heads number was.text
    was.there)

pub end_kept : (first second : Document) (found : Effects) → CanBeJoined first second →
    AreEffectsAt first (main_end first) found →
    AreEffectsAt (document_join first second) (main_end first)
    (with_section_ended (renumbered_effects (first_numbers first) found))
end_kept first second found can was =
    let last = length first.main - 1 in
    let here = main_item first last found was in
    let within = slice_get_within first.main last found.item here in
    first_kept_main first second last found (ending_section (renumbered_item (first_numbers first) found.item)) can was
    (first_main_end (first_numbers first) (second_numbers first second) first.main second.main last found.item here
    (omega (arith, within)))
    refl

pub second_kept : (first second : Document) (part : Where) (at : ℕ) (found : Effects) → CanBeJoined first second →
    AreEffectsAt second (part, at) found → IsNoSeparator part →
    AreEffectsAt (document_join first second) (place_from_second first part at)
    (renumbered_effects (second_numbers first second) found)
second_kept first second File at found can was other = absurd (none-some was.text was.there)
second_kept first second Wd at found can was other = absurd (none-some was.text was.there)
second_kept first second Table at found can was other = absurd (none-some was.text was.there)
second_kept first second SheetPart at found can was other = absurd (none-some was.text was.there)
second_kept first second Main at found can was other =
    let second_maps = second_numbers first second in
    let joined = document_join first second in
    effects_moved second_maps second joined (Main, at) (Main, length first.main + at) found
    (renumbered_item second_maps found.item) was (second_part first.sheet second.sheet can.fits) can.fits (record {
      shift = length first.main;
      made = joined.main;
      is = refl;
      stands =
          subst (λ t. StandsIn second_maps (length first.main) t joined.main) (same_Some second.main was.text was.there)
          (second_main_stands (first_numbers first) second_maps first.main second.main);
      at = refl;
    })
    (second_main (first_numbers first) second_maps first.main second.main at found.item (main_item second at found was))
    refl
second_kept first second (Note number) at found can was other =
    second_kept_text first second (Note number) (Note (length first.notes + number)) at found can was
    (ap (slice_get (document_join first second).notes)
    (let same : length first.notes + number ≡ length first.notes + (number - 0) = omega arith in same)
    ∙ second_text 0 (first_numbers first) (second_numbers first second) first.notes second.notes number was.text
    was.there (omega arith))
second_kept first second (Head number) at found can was other =
    second_kept_text first second (Head number) (Head (length first.heads + (number - 6))) at found can was
    (second_text 6 (first_numbers first) (second_numbers first second) first.heads second.heads number was.text
    was.there (other number refl))

pub effects_kept : JoinsKeepEffects
effects_kept first second can = record {
  of_first = λ place found was apart. first_kept first second place.0 place.1 found can was apart;
  of_end = λ found was. end_kept first second found can was;
  of_second = λ place found was other. second_kept first second place.0 place.1 found can was other;
}
