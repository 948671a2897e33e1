-- What a join keeps, and which rules it may break.
use Rattle.std.specs.Prelude.{◌≡◌, ◌≢◌, ◌⊎◌, ℕ, ◌+◌, ◌-◌, ◌≤◌, List, length, Some, slice_get}
use Rattle.doc_bits.specs.declared.places.Where.{Where}
use Rattle.doc_bits.specs.declared.places.Where.TheVariants.{File, Wd, Table, Sheet, Main, Note, Head}
use Rattle.doc_bits.specs.Places.{Place, IsFirstPlace}
use Rattle.doc_model.specs.declared.item.Item.{Item}
use Rattle.doc_model.specs.declared.document.Document.{Document}
use Rattle.doc_model.specs.Formed.{IsFormed}
use Rattle.plain_doc.specs.RulesOfTexts.{text_of_place}
use Rattle.plain_doc.specs.Sound.{IsSound, document_rules}
use Rattle.doc_join.specs.Texts.{ending_section}
use Rattle.doc_join.specs.Join.{document_join, first_numbers, second_numbers, separators, slots_together, most_slots}
use Rattle.doc_join.specs.Effects.{Effects, AreEffectsAt, renumbered_effects}

-- two sound documents whose styles fit one sheet; that they are well formed holds of every document
pub record CanBeJoined (first second : Document) : Type 0 where
  pub formed_first : IsFormed first
  pub formed_second : IsFormed second
  pub sound_first : IsSound first
  pub sound_second : IsSound second
  pub fits : slots_together first second ≤ most_slots

-- the place of the last item of the main text
abbrev pub main_end : Document → Place
main_end document = (Main, length document.main - 1)

-- where an item of the second document is; its separators of notes are gone
abbrev pub place_from_second : Document → Where → ℕ → Place
place_from_second first File at = (File, at)
place_from_second first Wd at = (Wd, at)
place_from_second first Table at = (Table, at)
place_from_second first Sheet at = (Sheet, at)
place_from_second first Main at = (Main, length first.main + at)
place_from_second first (Note number) at = (Note (length first.notes + number), at)
place_from_second first (Head number) at = (Head (length first.heads + (number - separators)), at)

-- the place is not in a separator of notes
abbrev pub IsNoSeparator : Where → Type 0
IsNoSeparator part = (number : ℕ) → part ≡ Head number → separators ≤ number

-- the last item of the main text ends a section by its unit
abbrev pub with_section_ended : Effects → Effects
with_section_ended found = record found { item = ending_section found.item }

-- each item has its unit, its own properties and those in effect, and the mark of its paragraph has its own, those in
-- effect and its stops, with the styles renumbered; but the last item of the first main text has another unit
pub record KeepsEffects (first second : Document) : Type 0 where
  pub of_first :
      (place : Place) (found : Effects) → AreEffectsAt first place found → place ≢ main_end first →
      AreEffectsAt (document_join first second) place (renumbered_effects (first_numbers first) found)
  pub of_end :
      (found : Effects) → AreEffectsAt first (main_end first) found →
      AreEffectsAt (document_join first second) (main_end first)
      (with_section_ended (renumbered_effects (first_numbers first) found))
  pub of_second :
      (place : Place) (found : Effects) → AreEffectsAt second place found → IsNoSeparator place.0 →
      AreEffectsAt (document_join first second) (place_from_second first place.0 place.1)
      (renumbered_effects (second_numbers first second) found)

-- something is in effect at each item of a sound document
abbrev pub EffectsExist : Type 0
EffectsExist =
    (document : Document) → IsSound document → (place : Place) (text : List Item) (item : Item) →
    text_of_place document place.0 ≡ Some text → slice_get text place.1 ≡ Some item →
    (found : Effects) × AreEffectsAt document place found

abbrev pub JoinsKeepEffects : Type 0
JoinsKeepEffects = (first second : Document) → CanBeJoined first second → KeepsEffects first second

-- the first broken rule of a joined document is the one on the number of items or of bookmarks
abbrev pub JoinsBreakCountsAlone : Type 0
JoinsBreakCountsAlone =
    (first second : Document) (number : ℕ) (place : Place) → CanBeJoined first second →
    IsFirstPlace (document_rules (document_join first second)) number place →
    (number ≡ 68) ⊎ (number ≡ 69)
