-- Each unit of a saved document has its pages: none of the rules 39 to 48 is broken.
use Rattle.std.specs.Prelude.{slice_get, slice_index, is_some, nat_lt}
use Rattle.std.proofs.Common.{get_or-take, ◌≡◌, ◌∙◌, refl, sym, ap, subst, ℕ, ◌+◌, ◌-◌, ◌<◌, ◌≤◌, ◌==◌}
use Rattle.std.proofs.Common.{true, List, length, map, Option, Some, None, arith}
use Rattle.std.proofs.lemmas.Option.{same_Some}
use Rattle.std.proofs.lemmas.Bool.{ltb-true, eqb-true}
use Rattle.std.proofs.lemmas.List.{length-map, length-take, get_or-map}
use Rattle.doc_bits.specs.declared.places.Where.TheVariants.{Wd}
use Rattle.doc_bits.specs.Rules.{Hold}
use Rattle.doc_bits.proofs.Public.{hold_in, there_is, All_at, both_true}
use Rattle.prop_map.specs.Settings.{Properties}
use Rattle.fib_form.specs.declared.table_parts.TablePart.TheVariants.{PlcfBteChpx, PlcfBtePapx}
use Rattle.fib_form.specs.declared.stories.StoryKind.TheVariants.{Main}
use Rattle.fkp_pages.specs.declared.kind.PageKind.TheVariants.{Chpx, Papx}
use Rattle.direct_props.specs.PageRules.{page_rules, IsValidPlace}
use Rattle.direct_props.proofs.Public.{right_lists_are_valid, right_places_hold}
use Rattle.piece_table.specs.Piece.{UnitPlace}
use Rattle.text_codes.specs.Paragraph.{is_paragraph_end}
use Rattle.doc_model.specs.declared.item.Item.{Item}
use Rattle.doc_model.specs.Collected.{sections_of}
use Rattle.file_rules.proofs.Public.{index_of_get}
use Rattle.file_rules.specs.Source.{table_part_bytes, story_length}
use Rattle.file_rules.specs.FormatRules.{text_count, judged_units, judged_places, section_ends, is_end, ends_section}
use Rattle.file_rules.specs.FormatRules.{ends_paragraph, paragraph_end_places, rules_of_formats}
use Rattle.doc_read.proofs.Public.{read_at_place, paragraphs_right as ends_right, any_index, ends_more}
use Rattle.doc_read.specs.Sections.{section_lasts}
use Rattle.save_laws.specs.Places.{IsMarkedAfter, StandsInside, GivesAt}
use Rattle.save_laws.specs.Slots.{Slot, shown, loose, last, IsPlaceForSlot}
use Rattle.doc_model.proofs.Public.{collected_from}
use Rattle.save_laws.proofs.SlotLemmas.{slot_unit, IsJudgedSlot, IsShownAs, all_shown, front_slot, main_slot}
use Rattle.save_laws.proofs.PlaceLemmas.{mark_before, given_there}
use Rattle.save_laws.proofs.SavedLemmas.{Save, the_source, the_whole, the_flat, main_len, note_len, head_len}
use Rattle.save_laws.proofs.SavedLemmas.{placed_at, unit_here}
use Rattle.save_laws.proofs.ItemRules.{IsSavedItem, main_saved, notes_saved, heads_saved}
use Rattle.save_laws.proofs.PartsHeld.{sections_part}
use Rattle.save_laws.proofs.SectionRulesHeld.{characters_part, paragraphs_part}
use Rattle.save_laws.proofs.ItemsHeld.{section_cps}

-- what an option has that has something
some_of : {A : Type 0} (o : Option A) → is_some o ≡ true → (x : A) × (o ≡ Some x)
some_of None some = absurd (cc (some))
some_of (Some x) some = (x, refl)

-- a checked CP: its slot, and a place that represents it
record IsJudgedAt (s : Save) (cp : ℕ) : Type 0 where
  slot : Slot
  here : slice_get (the_whole s) cp ≡ Some slot
  judged : IsJudgedSlot slot
  place : UnitPlace
  there : slice_get (the_flat s) cp ≡ Some place
  is : IsPlaceForSlot (StandsInside s.saved.stream) (GivesAt s.saved.stream) place slot

judged_at : (s : Save) (cp : ℕ) → cp < text_count (the_source s) → IsJudgedAt s cp
judged_at s cp below =
    let front = front_slot s.document s.saved.ends cp (omega (arith, below, main_len s, note_len s, head_len s)) in
    let placed = placed_at s cp front.slot front.here in
    record {
      slot = front.slot;
      here = front.here;
      judged = front.judged;
      place = placed.other;
      there = placed.here;
      is = placed.is;
    }

place_is : (s : Save) (cp : ℕ) (j : IsJudgedAt s cp) → cp < text_count (the_source s) →
    slice_index (judged_places (the_source s)) cp ≡ j.place.at
place_is s cp j below =
    read_at_place (λ (place : UnitPlace). place.at) s.saved.pieces cp (text_count (the_source s)) j.place j.there below

unit_is : (s : Save) (cp : ℕ) (j : IsJudgedAt s cp) → cp < text_count (the_source s) →
    slice_index (judged_units (the_source s)) cp ≡ slot_unit j.slot
unit_is s cp j below =
    get_or-take (text_count (the_source s)) (the_source s).text.units cp 0 below ∙ unit_here s cp j.slot j.here j.judged

-- ---- characters

character_right : (s : Save) (cp : ℕ) → cp < text_count (the_source s) →
    IsValidPlace Chpx s.saved.stream.wd s.saved.stream.characters (slice_index (judged_places (the_source s)) cp)
character_right s cp below =
    let stream = s.saved.stream in
    let j = judged_at s cp below in
    let given = given_there stream j.place j.slot j.judged j.is in
    let characters = given.gives.characters in
    subst (IsValidPlace Chpx stream.wd stream.characters) (sym (place_is s cp j below))
    (right_lists_are_valid Chpx stream.wd stream.characters j.place.at characters.list s.is.characters.table
    characters.has)

length-judged_places : (s : Save) → length (judged_places (the_source s)) ≤ text_count (the_source s)
length-judged_places s =
    let len = length-take (text_count (the_source s)) (the_source s).text.places in omega (arith, len)

characters_right : (s : Save) →
    Hold (page_rules Chpx s.saved.stream.wd s.saved.stream.characters (judged_places (the_source s)))
characters_right s =
    right_places_hold Chpx s.saved.stream.wd s.saved.stream.characters (judged_places (the_source s))
    (λ k below. character_right s k (omega (arith, below, length-judged_places s)))

-- ---- where sections end

-- a section that is read to end at a CP is one that the item has
section_there : (s : Save) (cp : ℕ) (item : Item) → slice_get (the_whole s) cp ≡ Some (shown item) →
    ends_section s.saved.seds (story_length (the_source s) Main) cp ≡ true → is_some item.sect ≡ true
section_there s cp item here ends =
    let main = s.document.main in
    let main_len_is = main_len s in
    let len = story_length (the_source s) Main in
    let list = section_ends s.saved.seds len in
    let both = both_true (nat_lt cp len) (is_end list (cp + 1)) ends in
    let below : cp < length main = omega (arith, ltb-true cp len both.0, main_len_is) in
    let own = there_is main cp below in
    let same : Some (shown own.0) ≡ Some (shown item) = sym (main_slot s.document s.saved.ends cp own.0 own.1) ∙ here in
    let item_is : own.0 ≡ item = cc (same) in
    let any = any_index (λ end. end == (cp + 1)) list both.1 in
    let k = any.0 in
    let end : slice_index list k ≡ cp + 1 = eqb-true (slice_index list k) (cp + 1) any.1.1 in
    let one : slice_index (section_lasts s.saved.seds len) k ≡ slice_index list k - 1 =
    get_or-map (λ (end : ℕ). end - 1) list k 0 0 any.1.0 in
    let cps : List ℕ = map (λ (x : ℕ × Properties). x.0) (sections_of main) in
    let at : slice_index cps k ≡ cp = ap (λ l. slice_index l k) (sym (section_cps s)) ∙ (one ∙ omega (arith, end)) in
    let many : length cps ≡ length list =
    ap length (sym (section_cps s)) ∙ length-map list (λ (end : ℕ). end - 1) in
    let found = there_is (sections_of main) k
    (omega (arith, any.1.0, many, length-map (sections_of main) (λ (x : ℕ × Properties). x.0))) in
    let first : slice_index cps k ≡ found.0.0 =
    index_of_get (λ (x : ℕ × Properties). x.0) (sections_of main) k found.0 found.1 in
    let from = collected_from (λ (x : Item). x.sect) 0 main k found.0 found.1 in
    let index : from.index ≡ cp = omega (arith, from.at, first, at) in
    let its : Some from.item ≡ Some own.0 = sym from.here ∙ (ap (slice_get main) index ∙ own.1) in
    let owner : from.item ≡ item = same_Some from.item own.0 its ∙ item_is in
    ap (λ (x : Item). is_some x.sect) (sym owner) ∙ ap is_some from.has

-- ---- paragraphs

-- a place whose slot ends a paragraph is right
paragraph_right : (s : Save) (cp : ℕ) (place : UnitPlace) (slot : Slot) → slice_get (the_whole s) cp ≡ Some slot →
    IsJudgedSlot slot → IsPlaceForSlot (StandsInside s.saved.stream) (GivesAt s.saved.stream) place slot →
    is_paragraph_end (slot_unit slot) (ends_section s.saved.seds (story_length (the_source s) Main) cp) ≡ true →
    IsShownAs IsSavedItem slot →
    IsValidPlace Papx s.saved.stream.wd s.saved.stream.paragraphs place.at
paragraph_right s cp place (shown item) here judged placed ends saved =
    let stream = s.saved.stream in
    let reads = ends_section s.saved.seds (story_length (the_source s) Main) cp in
    let marked : is_some item.mark ≡ true =
    saved.ends ∙ ends_more item.unit reads (is_some item.sect) (section_there s cp item here) ends in
    let mark = some_of item.mark marked in
    let after = subst (λ o. IsMarkedAfter place.modifier placed.before.mark o) mark.1 placed.after.mark in
    let before = mark_before place.modifier placed.before.mark mark.0 after in
    let given = placed.gives.mark before.before before.is in
    right_lists_are_valid Papx stream.wd stream.paragraphs place.at given.list s.is.paragraphs.table given.has
paragraph_right s cp place loose here judged placed ends saved =
    let stream = s.saved.stream in
    let mark = some_of placed.given.mark placed.marked in
    let given = placed.gives.mark mark.0 mark.1 in
    right_lists_are_valid Papx stream.wd stream.paragraphs place.at given.list s.is.paragraphs.table given.has
paragraph_right s cp place last here judged placed ends saved = absurd judged

end_right : (s : Save) (cp : ℕ) → cp < text_count (the_source s) →
    ends_paragraph (the_source s) s.saved.seds cp ≡ true →
    IsValidPlace Papx s.saved.stream.wd s.saved.stream.paragraphs (slice_index (judged_places (the_source s)) cp)
end_right s cp below ends =
    let j = judged_at s cp below in
    let document = s.document in
    let saved = all_shown IsSavedItem document s.saved.ends (main_saved document s.right)
    (notes_saved document s.right) (heads_saved document s.right) in
    let unit = unit_is s cp j below in
    let reads = ends_section s.saved.seds (story_length (the_source s) Main) cp in
    subst (IsValidPlace Papx s.saved.stream.wd s.saved.stream.paragraphs) (sym (place_is s cp j below))
    (paragraph_right s cp j.place j.slot j.here j.judged j.is (subst (λ u. is_paragraph_end u reads ≡ true) unit ends)
    (All_at (IsShownAs IsSavedItem) (the_whole s) cp j.slot saved j.here))

paragraphs_right : (s : Save) →
    Hold (page_rules Papx s.saved.stream.wd s.saved.stream.paragraphs (paragraph_end_places (the_source s)
    s.saved.seds))
paragraphs_right s =
    let source = the_source s in
    let seds = s.saved.seds in
    let wd = s.saved.stream.wd in
    let bin = s.saved.stream.paragraphs in
    let most = length-take (text_count source) source.text.units in
    right_places_hold Papx wd bin (paragraph_end_places source seds)
    (ends_right wd bin source seds (λ cp below ends. end_right s cp (omega (arith, below, most)) ends))

pub formats_hold : (s : Save) → Hold (rules_of_formats (the_source s))
formats_hold s =
    let source = the_source s in
    let wd = s.saved.stream.wd in
    let first : Hold (page_rules Chpx wd (table_part_bytes source PlcfBteChpx) (judged_places source)) =
    subst (λ bin. Hold (page_rules Chpx wd bin (judged_places source))) (sym (characters_part s))
    (characters_right s) in
    let next : Hold (page_rules Papx wd (table_part_bytes source PlcfBtePapx) (paragraph_end_places source
    s.saved.seds)) =
    subst (λ bin. Hold (page_rules Papx wd bin (paragraph_end_places source s.saved.seds))) (sym (paragraphs_part s))
    (paragraphs_right s) in (
      s.saved.seds,
      (
        (sections_part s).has,
        (
          hold_in Wd (page_rules Chpx wd (table_part_bytes source PlcfBteChpx) (judged_places source)) first,
          hold_in Wd (page_rules Papx wd (table_part_bytes source PlcfBtePapx) (paragraph_end_places source
              s.saved.seds)) next,
        ),
      ),
    )
