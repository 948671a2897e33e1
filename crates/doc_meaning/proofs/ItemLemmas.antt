-- What is read at a CP, and of the sections, is the same for a text that reads the same.
use Rattle.std.specs.Prelude.{is_some}
use Rattle.std.proofs.Common.{◌≡◌, ◌≢◌, ◌∙◌, ◌+◌, ◌<◌, refl, sym, ap, subst, inl, inr, ℕ, List, [], length, map}
use Rattle.std.proofs.Common.{Bool, true, false, Option, Some, None, take, drop, arith, ◌++◌}
use Rattle.std.proofs.lemmas.Bool.{cases_lt}
use Rattle.std.proofs.lemmas.Option.{slice_get_within}
use Rattle.std.specs.Option.{unwrap_or}
use Rattle.std.specs.FinMap.{empty}
use Rattle.doc_bits.specs.Number.{u16_at, number_at}
use Rattle.doc_bits.proofs.Public.{number_at-take}
use Rattle.sprm_table.proofs.Public.{spelt_unique, spells_end}
use Rattle.prop_map.specs.Settings.{Properties}
use Rattle.prop_map.specs.Formed.{character_groups, paragraph_groups, section_groups}
use Rattle.prop_map.specs.Acting.{ArePropertiesAfter, style_named}
use Rattle.prop_map.specs.Modifiers.{mark_style, IsCharacterAfter, IsMarkAfter}
use Rattle.prop_map.proofs.Public.{acting_one}
use Rattle.prop_map.specs.declared.modifiers.Modifier.{Modifier}
use Rattle.prl_skips.specs.Skips.{skipped, SkipsOrStays, HoldsNoPictures}
use Rattle.prl_skips.proofs.Public.{make_skips, style_skips}
use Rattle.text_codes.specs.Paragraph.{is_paragraph_end}
use Rattle.fib_form.specs.declared.table_parts.TablePart.TheVariants.{PlcfBteChpx, PlcfBtePapx}
use Rattle.fib_form.specs.declared.stories.StoryKind.TheVariants.{Main, Notes, Heads}
use Rattle.fkp_pages.specs.declared.kind.PageKind.{PageKind}
use Rattle.fkp_pages.specs.declared.kind.PageKind.TheVariants.{Chpx, Papx}
use Rattle.fkp_pages.specs.Properties.{HasListAt, bare_list}
use Rattle.fkp_gaps.specs.Gaps.{IsGap}
use Rattle.page_copies.specs.Pages.{bin_table_of}
use Rattle.page_copies.specs.Laws.{IsListCopy}
use Rattle.page_copies.proofs.Public.{copy_acts}
use Rattle.direct_props.specs.Direct.{MakesProperties, IsDirectCharacter}
use Rattle.direct_props.specs.PageRules.{IsValidPlace}
use Rattle.direct_props.proofs.Public.{right_places_have_lists}
use Rattle.doc_parts.specs.Sections.{HasSepx}
use Rattle.doc_model.specs.declared.item.Item.{Item}
use Rattle.doc_model.specs.declared.item.Mark.{Mark}
use Rattle.doc_model.specs.Entries.{entry_at_cp}
use Rattle.file_rules.specs.Source.{table_part_bytes, story_begin}
use Rattle.file_rules.specs.SectionRules.{LacksSepx, sepx_list, section_fc}
use Rattle.file_rules.specs.FormatRules.{text_count}
use Rattle.file_rules.specs.PartRules.{PartLists}
use Rattle.file_rules.specs.FileRules.{FileText, doc_source_of}
use Rattle.doc_read.specs.Sections.{IsSectionProperties, HaveProperties, section_marks}
use Rattle.doc_read.specs.Items.{IsDirectMarkAt, IsItemAt}
use Rattle.doc_read.specs.Marked.{story_bytes, field_mark_bytes}
use Rattle.doc_read.proofs.Public.{parts_of, RightText, character_place, mark_place, sepx-there}
use Rattle.doc_meaning.specs.Skipped.{bin_tables_of}
use Rattle.doc_meaning.specs.Places.{MeansCharacter, MeansMark}
use Rattle.doc_meaning.specs.Items.{MeansMarkAt, MeansItem}
use Rattle.doc_meaning.specs.Lifted.{IsListFor, KeepsLists, ReadsTheSame}

-- ---- what lists make

bare_istd : u16_at (bare_list Papx) 0 ≡ 0
unfolding number_at
bare_istd = refl

-- no code does nothing
nothing_acts : (groups : ℕ) (before : Properties) → ArePropertiesAfter [] groups before before
nothing_acts groups before = λ code. refl

-- what a list makes once its codes are skipped it makes before
makes_before : (old new : List ℕ) (groups : ℕ) (made : Properties) (style : Option ℕ) → HoldsNoPictures groups →
    SkipsOrStays old new → MakesProperties new groups made style → MakesProperties old groups made style
makes_before old new groups made style none (inr stays) makes =
    subst (λ l. MakesProperties l groups made style) stays.1 makes
makes_before old new groups made style none (inl skips) makes =
    let same = spelt_unique new makes.prls (map skipped skips.prls) makes.spelt skips.skips in
    record {
      prls = skips.prls;
      spelt = skips.spelt;
      map = (make_skips skips.prls groups empty made none).0
          (subst (λ l. ArePropertiesAfter l groups empty made) same makes.map);
      style_is = makes.style_is
          ∙ (ap (λ l. style_named l groups) same ∙ style_skips skips.prls groups none);
    }

characters_before : (list made : List ℕ) (properties : Properties) (style : Option ℕ) → IsListCopy Chpx list made →
    MakesProperties made character_groups properties style → MakesProperties list character_groups properties style
characters_before list made properties style (inr same) makes =
    subst (λ l. MakesProperties l character_groups properties style) same makes
characters_before list made properties style (inl skips) makes =
    makes_before list made character_groups properties style refl skips.sprms makes

paragraphs_before : (list made : List ℕ) (properties : Properties) (style : Option ℕ) → IsListCopy Papx list made →
    MakesProperties (drop 2 made) paragraph_groups properties style →
    MakesProperties (drop 2 list) paragraph_groups properties style
paragraphs_before list made properties style (inr same) makes =
    subst (λ l. MakesProperties (drop 2 l) paragraph_groups properties style) same makes
paragraphs_before list made properties style (inl skips) makes =
    makes_before (drop 2 list) (drop 2 made) paragraph_groups properties style refl skips.sprms makes

-- the style number in front of a paragraph's list
istd_before : (list made : List ℕ) → IsListCopy Papx list made → u16_at made 0 ≡ u16_at list 0
istd_before list made copy =
    let front : take 2 made ≡ take 2 list = (copy_acts Papx list made copy).istd in
    sym (number_at-take 2 made 0 2 (omega arith))
    ∙ (ap (λ l. u16_at l 0) front ∙ number_at-take 2 list 0 2 (omega arith))

-- ---- pages

-- the list of a place whose page is right
list_right : (kind : PageKind) (old new : FileText) (fc : ℕ) (made : List ℕ) → KeepsLists kind old new →
    IsValidPlace kind new.wd (bin_table_of kind (bin_tables_of new.wd new.table)) fc →
    HasListAt kind (bin_table_of kind (bin_tables_of new.wd new.table)) new.wd fc made →
    IsListFor kind old fc made
list_right kind old new fc made keeps right has =
    let is = right_places_have_lists kind new.wd (bin_table_of kind (bin_tables_of new.wd new.table)) fc made right has
    in
    keeps fc made (record {
      number = is.number;
      named = is.named;
      within = is.within;
      answer = is.answer;
      answers = is.answers;
      answered = is.answered;
    }) is.low

-- the bare list makes nothing, and names no style
bare_makes : (groups : ℕ) (made : Properties) (style : Option ℕ) → MakesProperties [] groups made style →
    (made ≡ empty) × (style ≡ None)
bare_makes groups made style makes =
    let none : makes.prls ≡ [] = spelt_unique [] makes.prls [] makes.spelt (spells_end [] (inl (omega arith))) in (
      acting_one [] groups empty made empty (subst (λ l. ArePropertiesAfter l groups empty made) none makes.map)
          (nothing_acts groups empty),
      makes.style_is ∙ ap (λ l. style_named l groups) none,
    )

character_in_gap : (bin wd list : List ℕ) (fc : ℕ) (modifier : Modifier) (chp made : Properties) (style : Option ℕ) →
    IsGap Chpx bin wd fc → list ≡ bare_list Chpx → MakesProperties list character_groups made style →
    IsCharacterAfter modifier made chp → MeansCharacter wd bin fc modifier chp
character_in_gap bin wd list fc modifier chp made style gap bare makes modified =
    let none = bare_makes character_groups made style
    (subst (λ l. MakesProperties l character_groups made style) bare makes) in
    inr (gap, subst (λ m. IsCharacterAfter modifier m chp) none.0 modified)

mark_in_gap : (bin wd list : List ℕ) (fc : ℕ) (modifier : Modifier) (istd : ℕ) (pap made : Properties)
    (style : Option ℕ) → IsGap Papx bin wd fc → list ≡ bare_list Papx →
    MakesProperties (drop 2 list) paragraph_groups made style →
    istd ≡ mark_style modifier (unwrap_or style (u16_at list 0)) → IsMarkAfter modifier made pap →
    MeansMark wd bin fc modifier istd pap
mark_in_gap bin wd list fc modifier istd pap made style gap bare makes style_is modified =
    let none = bare_makes paragraph_groups made style
    (subst (λ l. MakesProperties (drop 2 l) paragraph_groups made style) bare makes) in
    let zero_istd : unwrap_or style (u16_at list 0) ≡ 0 =
    ap (λ s. unwrap_or s (u16_at list 0)) none.1 ∙ (ap (λ l. u16_at l 0) bare ∙ bare_istd) in
    inr (
      gap,
      (style_is ∙ ap (mark_style modifier) zero_istd, subst (λ m. IsMarkAfter modifier m pap) none.0 modified),
    )

character_same : (old new : FileText) (fc : ℕ) (modifier : Modifier) (chp : Properties) → KeepsLists Chpx old new →
    IsValidPlace Chpx new.wd (table_part_bytes (doc_source_of new) PlcfBteChpx) fc →
    IsDirectCharacter new.wd (table_part_bytes (doc_source_of new) PlcfBteChpx) fc modifier chp →
    MeansCharacter old.wd (table_part_bytes (doc_source_of old) PlcfBteChpx) fc modifier chp
character_same old new fc modifier chp keeps right is =
    elim (list_right Chpx old new fc is.list keeps right is.has) [
      | inl before ↦ inl (record {
        list = before.list;
        has = before.has;
        made = is.made;
        style = is.style;
        makes = characters_before before.list is.list is.made is.style before.copy is.makes;
        modified = is.modified;
      })
      | inr gap ↦
          character_in_gap (table_part_bytes (doc_source_of old) PlcfBteChpx) old.wd is.list fc modifier chp is.made
          is.style
          gap.0 gap.1 is.makes is.modified
    ]

mark_same : (ends : Bool) (old new : FileText) (fc : ℕ) (modifier : Modifier) (mark : Option Mark) →
    KeepsLists Papx old new →
    (ends ≡ true → IsValidPlace Papx new.wd (table_part_bytes (doc_source_of new) PlcfBtePapx) fc) →
    IsDirectMarkAt ends new.wd (table_part_bytes (doc_source_of new) PlcfBtePapx) fc modifier mark →
    MeansMarkAt ends old.wd (table_part_bytes (doc_source_of old) PlcfBtePapx) fc modifier mark
mark_same true old new fc modifier None keeps right is = is
mark_same false old new fc modifier (Some mark) keeps right is = is
mark_same false old new fc modifier None keeps right is = is
mark_same true old new fc modifier (Some mark) keeps right is =
    elim (list_right Papx old new fc is.list keeps (right refl) is.has) [
      | inl before ↦ inl (record {
        list = before.list;
        has = before.has;
        made = is.made;
        style = is.style;
        makes = paragraphs_before before.list is.list is.made is.style before.copy is.makes;
        style_is = is.style_is
            ∙ ap (λ n. mark_style modifier (unwrap_or is.style n)) (istd_before before.list is.list before.copy);
        modified = is.modified;
      })
      | inr gap ↦
          mark_in_gap (table_part_bytes (doc_source_of old) PlcfBtePapx) old.wd is.list fc modifier mark.istd mark.pap
          is.made
          is.style gap.0 gap.1 is.makes is.style_is is.modified
    ]

-- ---- items

-- where the stories begin
begin_notes : (old new : FileText) → ReadsTheSame old new →
    story_begin (doc_source_of new) Notes ≡ story_begin (doc_source_of old) Notes
begin_notes old new same = same.counts Main

begin_heads : (old new : FileText) → ReadsTheSame old new →
    story_begin (doc_source_of new) Heads ≡ story_begin (doc_source_of old) Heads
begin_heads old new same = omega (arith, same.counts Main, same.counts Notes)

pub begin_same : (old new : FileText) → ReadsTheSame old new →
    (story_begin (doc_source_of new) Notes ≡ story_begin (doc_source_of old) Notes)
    × (story_begin (doc_source_of new) Heads ≡ story_begin (doc_source_of old) Heads)
begin_same old new same = (begin_notes old new same, begin_heads old new same)

fields_at : (old new : FileText) (lists : PartLists) → ReadsTheSame old new →
    field_mark_bytes (doc_source_of new) lists ≡ field_mark_bytes (doc_source_of old) lists
fields_at old new lists same =
    let notes = begin_notes old new same in
    let heads = begin_heads old new same in
    λ i. story_bytes 0 lists.main_fields
    ++ (story_bytes (notes i) lists.note_fields ++ story_bytes (heads i) lists.head_fields)

-- an item of a CP of the three stories
pub item_same : (old : FileText) (r : RightText) (maps : List Properties) (cp : ℕ) (item : Item) →
    ReadsTheSame old r.text → cp < text_count (doc_source_of r.text) → IsItemAt (parts_of r.text r.lists maps) cp item →
    MeansItem (parts_of old r.lists maps) cp item
item_same old r maps cp item same below is =
    let new = r.text in
    let place = is.place in
    record {
      place = place;
      here = sym (same.places cp below) ∙ is.here;
      unit = is.unit ∙ same.units cp place below is.here;
      characters =
          character_same old new place.at place.modifier item.chp (same.lists Chpx)
          (character_place r cp place below is.here) is.characters;
      section = is.section ∙ ap (λ n. entry_at_cp (section_marks r.lists.sections n maps) cp) (same.counts Main);
      mark =
          mark_same (is_paragraph_end item.unit (is_some item.sect)) old new place.at place.modifier item.mark
          (same.lists Papx) (mark_place r maps cp place item below is.here is.unit is.section) is.mark;
      field = is.field ∙ ap (λ entries. entry_at_cp entries cp) (fields_at old new r.lists same);
      note = is.note;
    }

-- ---- sections

properties_same : (old new : List ℕ) (fc : ℕ) (properties : Properties) →
    (fc ≢ 0xFFFFFFFF → sepx_list new fc ≡ sepx_list old fc) → IsSectionProperties new fc properties →
    IsSectionProperties old fc properties
properties_same old new fc properties same (inl none) = inl none
properties_same old new fc properties same (inr made) = inr (record {
  there = made.there;
  style = made.style;
  makes = subst (λ list. MakesProperties list section_groups properties made.style) (same made.there) made.makes;
})

-- a Sepx that does not lack is there
pub sepx_found : (wd : List ℕ) (fc : ℕ) → ¬ (LacksSepx wd fc) → fc ≢ 0xFFFFFFFF → HasSepx wd fc
sepx_found wd fc none properties = elim (cases_lt fc 1024) [
  | inl low ↦ absurd (none (record {
    properties = properties;
    missing = λ has. let after = has.after_fib in omega (arith, after, low);
  }))
  | inr after ↦ elim (cases_lt (length wd) (fc + 2 + u16_at wd fc)) [
    | inl over ↦ absurd (none (record {
      properties = properties;
      missing = λ has. let within = has.within in omega (arith, within, over);
    }))
    | inr within ↦ record { after_fib = after; within = within }
  ]
]

pub maps_same : (old : FileText) (r : RightText) (maps : List Properties) → ReadsTheSame old r.text →
    HaveProperties r.text.wd r.lists.sections maps → HaveProperties old.wd r.lists.sections maps
maps_same old r maps same have = record {
  len = have.len;
  each = λ k map here.
      let inside = slice_get_within maps k map here in
      let below : k < length r.lists.sections = omega (arith, inside, have.len) in
      let fc = section_fc r.lists.sections k in
      let lacks = sepx-there (doc_source_of r.text) r.lists.sections k r.hold.0.0 r.has.has_sections below in
      properties_same old.wd r.text.wd fc map
      (λ some. same.sections r.lists.sections k r.has.has_sections below (sepx_found r.text.wd fc lacks some))
      (have.each k map here);
}
