-- Each CP of a text has its item, which is well formed.
use Rattle.std.proofs.Common.{◌≡◌, ◌∙◌, refl, ap, subst, ℕ, ◌+◌, ◌<◌, ◌≤◌, ◌^◌, Bool, true, false, List}
use Rattle.std.proofs.Common.{length, map, Option, Some, None, is_some, min, arith, length-take}
use Rattle.std.specs.Prelude.{slice_index}
use Rattle.std.specs.List.{All}
use Rattle.std.specs.Option.{ForSome}
use Rattle.std.proofs.lemmas.List.{length-map}
use Rattle.std.proofs.lemmas.Option.{same_Some}
use Rattle.doc_bits.proofs.Public.{there_is, All-from_slice_get}
use Rattle.doc_bits.specs.Number.{AreBytes}
use Rattle.prop_map.specs.Settings.{Properties}
use Rattle.prop_map.specs.Formed.{IsPropertyMap, paragraph_groups, section_groups}
use Rattle.fkp_pages.specs.declared.kind.PageKind.TheVariants.{Chpx, Papx}
use Rattle.piece_table.specs.Piece.{UnitPlace, flat_pieces, place_of_cp}
use Rattle.doc_model.specs.declared.item.Item.{Item}
use Rattle.doc_model.specs.declared.item.Mark.{Mark}
use Rattle.doc_model.specs.Document.{IsFormedItem}
use Rattle.fib_form.specs.declared.table_parts.TablePart.TheVariants.{PlcfBteChpx, PlcfBtePapx}
use Rattle.fib_form.specs.declared.stories.StoryKind.TheVariants.{Main}
use Rattle.file_rules.specs.Units.{unit_at}
use Rattle.file_rules.specs.Source.{DocSource, table_part_bytes, story_length}
use Rattle.file_rules.specs.FormatRules.{text_count, judged_units, judged_places, section_ends, ends_section}
use Rattle.file_rules.specs.FormatRules.{ends_paragraph, paragraph_end_places}
use Rattle.text_codes.specs.Paragraph.{is_paragraph_end}
use Rattle.file_rules.specs.PartRules.{PartLists}
use Rattle.file_rules.specs.FileRules.{FileText, doc_source_of}
use Rattle.doc_model.specs.Entries.{entry_at_cp}
use Rattle.doc_read.specs.Sections.{section_lasts, section_marks}
use Rattle.doc_read.specs.Marked.{field_mark_bytes, note_kind_entries}
use Rattle.doc_read.specs.Items.{TextParts, IsDirectMarkAt, IsItemAt, HoldsItems}
use Rattle.doc_read.proofs.PlaceLemmas.{read_at_place}
use Rattle.doc_read.proofs.UpLemmas.{IsUpWithin}
use Rattle.doc_read.proofs.RightLemmas.{section_ends_there, ends_more}
use Rattle.direct_props.proofs.Public.{IsValid, character_there, mark_there}
use Rattle.direct_props.specs.Laws.{IsValidModifier}
use Rattle.doc_parts.proofs.Public.{list_of}
use Rattle.doc_read.proofs.EntryValues.{entry_has, zipped_has, AreByteFields, all_bytes, place_unit_small}
use Rattle.doc_read.proofs.KeptPlaces.{paragraph_place}

-- what a text without a broken rule has
pub record AreReady (text : FileText) (lists : PartLists) (maps : List Properties) : Type 0 where
  pub bytes : AreBytes text.wd
  pub long : text_count (doc_source_of text) ≤ length (flat_pieces text.pieces)
  pub modifiers : (cp : ℕ) (place : UnitPlace) → place_of_cp text.pieces cp ≡ Some place → IsValidModifier
      place.modifier
  pub characters : (k : ℕ) → k < length (judged_places (doc_source_of text)) → IsValid Chpx text.wd
      (table_part_bytes (doc_source_of text) PlcfBteChpx) (slice_index (judged_places (doc_source_of text)) k)
  pub paragraphs : (k : ℕ) → k < length (paragraph_end_places (doc_source_of text) lists.sections) → IsValid Papx
      text.wd
      (table_part_bytes (doc_source_of text) PlcfBtePapx) (slice_index (paragraph_end_places (doc_source_of text)
      lists.sections) k)
  pub ends : IsUpWithin 1 (story_length (doc_source_of text) Main + 1) (section_ends lists.sections (story_length
      (doc_source_of text) Main))
  pub maps_formed : All (IsPropertyMap section_groups) maps
  pub fields : AreByteFields lists

record HasMarkOf (end : Bool) (source : DocSource) (place : UnitPlace) : Type 0 where
  mark : Option Mark
  is : IsDirectMarkAt end source.wd (table_part_bytes source PlcfBtePapx) place.at place.modifier mark
  formed : ForSome mark (λ mark. IsPropertyMap paragraph_groups mark.pap)
  small : ForSome mark (λ mark. mark.istd < 2 ^ 16)

mark_of : (end : Bool) (source : DocSource) (place : UnitPlace) → AreBytes source.wd →
    (end ≡ true → IsValid Papx source.wd (table_part_bytes source PlcfBtePapx) place.at) → IsValidModifier
    place.modifier →
    HasMarkOf end source place
mark_of false source place bytes right modifier = record {
  mark = None;
  is = tt;
  formed = λ m e. absurd (cc (e));
  small = λ m e. absurd (cc (e));
}
mark_of true source place bytes right modifier =
    let has =
    mark_there source.wd (table_part_bytes source PlcfBtePapx) place.at place.modifier bytes (right refl) modifier in
    let here : Mark = record { istd = has.istd; pap = has.properties } in
    record {
      mark = Some here;
      is = has.is;
      formed = λ m e. subst (λ (x : Mark). IsPropertyMap paragraph_groups x.pap) (same_Some here m e) has.formed;
      small = λ m e. subst (λ (x : Mark). x.istd < 2 ^ 16) (same_Some here m e) has.small;
    }

pub record IsValidItem (parts : TextParts) (cp : ℕ) (item : Item) : Type 0 where
  pub is : IsItemAt parts cp item
  pub formed : IsFormedItem item

abbrev pub parts_of : FileText → PartLists → List Properties → TextParts
parts_of text lists maps = record { source = doc_source_of text; pieces = text.pieces; lists = lists; sections = maps }

item_there : (text : FileText) (lists : PartLists) (maps : List Properties) → AreReady text lists maps → (cp : ℕ) →
    cp < text_count (doc_source_of text) → (item : Item) × IsValidItem (parts_of text lists maps) cp item
item_there text lists maps ready cp below =
    let source = doc_source_of text in
    let main_len = story_length source Main in
    let flat = flat_pieces text.pieces in
    let long = ready.long in
    let found = there_is flat cp (omega arith) in
    let place = found.0 in
    let here = found.1 in
    let modifier = ready.modifiers cp place here in
    let unit = unit_at text.wd place in
    let sect = entry_at_cp (section_marks lists.sections main_len maps) cp in
    let place_is : slice_index (judged_places source) cp ≡ place.at =
    read_at_place (λ p. p.at) text.pieces cp (text_count source) place here below in
    let unit_is : slice_index (judged_units source) cp ≡ unit =
    read_at_place (unit_at text.wd) text.pieces cp (text_count source) place here below in
    let all_places : length (judged_places source) ≡ min (text_count source) (length (map (λ (p : UnitPlace). p.at)
    flat)) = length-take (text_count source) (map (λ (p : UnitPlace). p.at) flat) in
    let all_units : length (judged_units source) ≡ min (text_count source) (length (map (unit_at text.wd) flat)) =
    length-take (text_count source) (map (unit_at text.wd) flat) in
    let places_len = length-map flat (λ (p : UnitPlace). p.at) in
    let units_len = length-map flat (unit_at text.wd) in
    let in_places : cp < length (judged_places source) = omega arith in
    let in_units : cp < length (judged_units source) = omega arith in
    let chp = character_there text.wd (table_part_bytes source PlcfBteChpx) place.at place.modifier ready.bytes
    (subst (IsValid Chpx text.wd (table_part_bytes source PlcfBteChpx)) place_is (ready.characters cp in_places))
    modifier in
    let ends : is_paragraph_end unit (is_some sect) ≡ true → ends_paragraph source lists.sections cp ≡ true = λ e.
    ends_more (slice_index (judged_units source) cp) (is_some sect) (ends_section lists.sections main_len cp)
    (section_ends_there lists.sections main_len maps cp ready.ends)
    (ap (λ u. is_paragraph_end u (is_some sect)) unit_is ∙ e) in
    let right : is_paragraph_end unit (is_some sect) ≡ true → IsValid Papx text.wd (table_part_bytes source PlcfBtePapx)
    place.at = λ e.
    let at = paragraph_place source lists.sections cp in_units (ends e) in
    subst (IsValid Papx text.wd (table_part_bytes source PlcfBtePapx)) (at.1.1 ∙ place_is) (ready.paragraphs at.0
    at.1.0) in
    let mark = mark_of (is_paragraph_end unit (is_some sect)) source place ready.bytes right modifier in
    let fld = entry_at_cp (field_mark_bytes source lists) cp in (
      record {
        unit = unit;
        chp = chp.properties;
        mark = mark.mark;
        sect = sect;
        fld = fld;
        note = entry_at_cp
            (note_kind_entries lists.refs) cp;
      },
      record {
        is = record {
          place = place;
          here = here;
          unit = refl;
          characters = chp.is;
          section = refl;
          mark = mark.is;
          field = refl;
          note = refl;
        };
        formed = record {
          maps = record {
            chp = chp.formed;
            pap = mark.formed;
            sect = λ m e. entry_has (IsPropertyMap section_groups) (section_marks lists.sections main_len maps) cp m
                (zipped_has (IsPropertyMap section_groups) (section_lasts lists.sections main_len) maps
                ready.maps_formed) e;
          };
          unit = place_unit_small text.wd place ready.bytes;
          style = mark.small;
          field = λ n e. entry_has (λ b. b < 256) (field_mark_bytes source lists) cp n (all_bytes source lists
              ready.fields) e;
        };
      },
    )

-- the items of the whole text
pub record HasItems (text : FileText) (lists : PartLists) (maps : List Properties) : Type 0 where
  pub items : List Item
  pub holds : HoldsItems (parts_of text lists maps) 0 (text_count (doc_source_of text)) items
  pub formed : All IsFormedItem items

pub items_there : (text : FileText) (lists : PartLists) (maps : List Properties) → AreReady text lists maps →
    HasItems text lists maps
items_there text lists maps ready =
    let count = text_count (doc_source_of text) in
    let found = list_of count (IsValidItem (parts_of text lists maps)) (item_there text lists maps ready) in
    let from_start : (i : ℕ) → i ≡ 0 + i = λ i. omega arith in
    record {
      items = found.list;
      holds = record {
        len = omega (arith, found.len);
        each = λ i item here. subst (λ cp. IsItemAt (parts_of text
            lists maps) cp item) (from_start i) (found.each i item here).is;
      };
      formed = All-from_slice_get IsFormedItem found.list (λ k item here. (found.each k item here).formed);
    }
