-- Each item of a saved document is the item of its CP, and the texts are cut as the document has them.
use Rattle.std.specs.Prelude.{slice_get, slice_index, is_some}
use Rattle.std.proofs.Common.{◌++◌, ◌≡◌, ◌∙◌, refl, sym, ap, subst, ℕ, ◌+◌, ◌-◌, Bool, true, false, List, [], ◌∷◌}
use Rattle.std.proofs.Common.{length, map, take, Option, Some, None, arith}
use Rattle.std.proofs.lemmas.Option.{slice_get_within}
use Rattle.doc_bits.proofs.Public.{All_at}
use Rattle.prop_map.specs.Settings.{Properties}
use Rattle.prop_map.specs.declared.modifiers.Modifier.{Modifier}
use Rattle.fib_form.specs.declared.stories.StoryKind.TheVariants.{Main, Notes, Heads}
use Rattle.direct_props.specs.Direct.{IsDirectCharacter, IsDirectMark}
use Rattle.text_codes.specs.Paragraph.{is_paragraph_end}
use Rattle.doc_model.specs.declared.item.Mark.{Mark}
use Rattle.doc_model.specs.declared.item.Item.{Item}
use Rattle.doc_model.specs.Entries.{entry_at_cp}
use Rattle.doc_model.specs.Collected.{joined_texts, collected, fields_of, refs_of, sections_of, cuts_from}
use Rattle.plain_doc.proofs.Public.{main_ends, ends_main}
use Rattle.doc_model.proofs.Public.{entry_of_item, found_before, length-cuts_from, cut_at, in_joined, next_joined}
use Rattle.doc_model.proofs.Public.{empty_joined}
use Rattle.file_rules.specs.Source.{story_length, story_begin}
use Rattle.file_rules.specs.PartRules.{PartLists}
use Rattle.doc_read.specs.Sections.{section_lasts, section_marks}
use Rattle.doc_read.specs.Marked.{story_bytes, field_mark_bytes}
use Rattle.doc_read.specs.Items.{TextParts, IsDirectMarkAt, IsItemAt, HoldsItems, HoldsTexts}
use Rattle.doc_read.proofs.Public.{entry_of_parts}
use Rattle.doc_model.specs.TextLists.{cuts_of}
use Rattle.save_laws.specs.Slots.{shown}
use Rattle.save_laws.proofs.SlotLemmas.{main_slot, note_slot, head_slot, story_item}
use Rattle.save_laws.proofs.PlaceLemmas.{item_read}
use Rattle.save_laws.proofs.SavedLemmas.{Save, the_source, the_whole, the_notes, main_len, note_len, placed_at}
use Rattle.save_laws.proofs.ItemRules.{IsSavedItem, IsLaterItem, main_saved, notes_saved, heads_saved, notes_later}
use Rattle.save_laws.proofs.ItemRules.{heads_later}
use Rattle.save_laws.proofs.PartsHeld.{note_items, head_items, note_cuts, head_cuts, note_items_within}
use Rattle.save_laws.proofs.SectionRulesHeld.{characters_part, paragraphs_part}
use Rattle.save_laws.proofs.ReadLemmas.{stories_read, AreStoriesRead, story_entries, story_fields, kinds_from}
use Rattle.save_laws.proofs.ReadLemmas.{lasts_are}

-- what the parts hold
abbrev pub the_lists : Save → PartLists
the_lists s = record {
  sections = s.saved.seds;
  sheet = s.document.sheet;
  main_fields = fields_of s.document.main;
  note_fields = fields_of (note_items s);
  head_fields = fields_of (head_items s);
  refs = refs_of s.document.main;
  notes = note_cuts s;
  heads = head_cuts s;
  levels = s.document.carried.levels;
  bookmarks = s.document.bookmarks;
}

-- the properties of the sections
abbrev pub the_maps : Save → List Properties
the_maps s = map (λ section. section.1) (sections_of s.document.main)

abbrev pub the_parts : Save → TextParts
the_parts s = record {
  source = the_source s;
  pieces = s.saved.pieces;
  lists = the_lists s;
  sections = the_maps s;
}

-- ---- what is at the CPs

pub section_cps : (s : Save) →
    section_lasts s.saved.seds (story_length (the_source s) Main) ≡ map (λ section. section.0)
    (sections_of s.document.main)
section_cps s =
    let last = main_ends s.document s.right in
    let some = last.some in
    lasts_are s.document.main s.saved.seds (story_length (the_source s) Main) (length s.document.main - 1) last.item
    (main_len s) (omega (arith, some)) last.here (ends_main s.document s.right) s.is.sections.starts

section_found : (s : Save) (cp : ℕ) →
    entry_at_cp (section_marks s.saved.seds (story_length (the_source s) Main) (the_maps s)) cp
    ≡ entry_at_cp (sections_of s.document.main) cp
section_found s cp =
    entry_of_parts (sections_of s.document.main) (section_lasts s.saved.seds (story_length (the_source s) Main))
    (the_maps s) cp (section_cps s) refl

-- the field bytes are those of the items
abbrev the_fields : Save → List (ℕ × ℕ)
the_fields s =
    story_entries (λ item. item.fld) s.document.main (note_items s) (head_items s)
    (story_begin (the_source s) Notes) (story_begin (the_source s) Heads)

fields_are : (s : Save) → field_mark_bytes (the_source s) (the_lists s) ≡ the_fields s
fields_are s =
    let main = s.document.main in
    let notes = note_items s in
    let heads = head_items s in
    let a = story_begin (the_source s) Notes in
    let b = story_begin (the_source s) Heads in
    let byte : Item → Option ℕ = λ item. item.fld in
    ap (λ l. l ++ (story_bytes a (fields_of notes) ++ story_bytes b (fields_of heads))) (story_fields 0 main)
    ∙ (ap (λ l. collected byte 0 main ++ (l ++ story_bytes b (fields_of heads))) (story_fields a notes)
    ∙ ap (λ l. collected byte 0 main ++ (collected byte a notes ++ l)) (story_fields b heads))

fields_read : (s : Save) →
    AreStoriesRead (λ item. item.fld) s.document.main (note_items s) (head_items s)
    (story_begin (the_source s) Notes) (story_begin (the_source s) Heads)
fields_read s =
    let within = note_items_within s in
    stories_read (λ item. item.fld) s.document.main (note_items s) (head_items s) (story_begin (the_source s) Notes)
    (story_begin (the_source s) Heads) (omega (arith, main_len s)) (omega (arith, note_len s, within))

-- ---- items

mark_by : (ends : Bool) (wd bin : List ℕ) (fc : ℕ) (modifier : Modifier) (o : Option Mark) → is_some o ≡ ends →
    ((mark : Mark) → o ≡ Some mark → IsDirectMark wd bin fc modifier mark.istd mark.pap) →
    IsDirectMarkAt ends wd bin fc modifier o
mark_by true wd bin fc modifier None e reads = absurd (cc (e))
mark_by true wd bin fc modifier (Some mark) e reads = reads mark refl
mark_by false wd bin fc modifier None e reads = tt
mark_by false wd bin fc modifier (Some mark) e reads = absurd (cc (e))

-- what is at the CP of an item is the item's
record HasAtCp (s : Save) (cp : ℕ) (item : Item) : Type 0 where
  slot : slice_get (the_whole s) cp ≡ Some (shown item)
  section : entry_at_cp (sections_of s.document.main) cp ≡ item.sect
  field : entry_at_cp (the_fields s) cp ≡ item.fld
  note : entry_at_cp (collected (λ item. item.note) 0 s.document.main) cp ≡ item.note

item_at : (s : Save) (cp : ℕ) (item : Item) → IsSavedItem item → HasAtCp s cp item → IsItemAt (the_parts s) cp item
item_at s cp item saved has =
    let stream = s.saved.stream in
    let placed = placed_at s cp (shown item) has.slot in
    let place = placed.other in
    let read = item_read stream place item placed.is in
    record {
      place = place;
      here = placed.here;
      unit = read.unit;
      characters =
          subst (λ bin. IsDirectCharacter stream.wd bin place.at place.modifier item.chp) (sym (characters_part s))
          read.characters;
      section = sym (section_found s cp ∙ has.section);
      mark =
          subst (λ bin. IsDirectMarkAt (is_paragraph_end item.unit (is_some item.sect)) stream.wd bin place.at
          place.modifier item.mark)
          (sym (paragraphs_part s))
          (mark_by (is_paragraph_end item.unit (is_some item.sect)) stream.wd stream.paragraphs place.at place.modifier
          item.mark saved.ends read.mark);
      field = sym (ap (λ l. entry_at_cp l cp) (fields_are s) ∙ has.field);
      note = sym (ap (λ l. entry_at_cp l cp) (kinds_from s.document.main) ∙ has.note);
    }

main_item : (s : Save) (i : ℕ) (item : Item) → slice_get s.document.main i ≡ Some item →
    IsItemAt (the_parts s) (0 + i) item
main_item s i item here =
    let at : i ≡ 0 + i = omega arith in
    item_at s (0 + i) item (All_at IsSavedItem s.document.main i item (main_saved s.document s.right) here) (record {
      slot = subst (λ n. slice_get (the_whole s) n ≡ Some (shown item)) at
          (main_slot s.document s.saved.ends i item here);
      section = entry_of_item (λ item. item.sect) 0 s.document.main i item here;
      field = (fields_read s).main_is i item here;
      note = entry_of_item (λ item. item.note) 0 s.document.main i item here;
    })

note_item : (s : Save) (i : ℕ) (item : Item) → slice_get (note_items s) i ≡ Some item →
    IsItemAt (the_parts s) (story_begin (the_source s) Notes + i) item
note_item s i item here =
    let main = s.document.main in
    let cp = story_begin (the_source s) Notes + i in
    let at : length main + i ≡ cp = omega (arith, main_len s) in
    let later = All_at IsLaterItem (note_items s) i item (notes_later s.document s.right) here in
    item_at s cp item (All_at IsSavedItem (note_items s) i item (notes_saved s.document s.right) here) (record {
      slot =
          subst (λ n. slice_get (the_whole s) n ≡ Some (shown item)) at
          (note_slot s.document s.saved.ends i (shown item)
          (story_item s.document.notes s.saved.ends.notes i item here));
      section = found_before (λ item. item.sect) 0 main cp (omega (arith, at)) ∙ sym later.section;
      field = (fields_read s).notes_are i item here;
      note = found_before (λ item. item.note) 0 main cp (omega (arith, at)) ∙ sym later.note;
    })

head_item : (s : Save) (i : ℕ) (item : Item) → slice_get (head_items s) i ≡ Some item →
    IsItemAt (the_parts s) (story_begin (the_source s) Heads + i) item
head_item s i item here =
    let main = s.document.main in
    let cp = story_begin (the_source s) Heads + i in
    let at : length main + length (the_notes s) + i ≡ cp = omega (arith, main_len s, note_len s) in
    let later = All_at IsLaterItem (head_items s) i item (heads_later s.document s.right) here in
    item_at s cp item (All_at IsSavedItem (head_items s) i item (heads_saved s.document s.right) here) (record {
      slot =
          subst (λ n. slice_get (the_whole s) n ≡ Some (shown item)) at
          (head_slot s.document s.saved.ends i (shown item)
          (story_item s.document.heads s.saved.ends.heads i item here));
      section = found_before (λ item. item.sect) 0 main cp (omega (arith, at)) ∙ sym later.section;
      field = (fields_read s).heads_are i item here;
      note = found_before (λ item. item.note) 0 main cp (omega (arith, at)) ∙ sym later.note;
    })

-- ---- texts

pub main_held : (s : Save) → HoldsItems (the_parts s) 0 (story_length (the_source s) Main) s.document.main
main_held s = record { len = omega (arith, main_len s); each = main_item s }

-- texts whose joined items are one after the other
texts_cut : (parts : TextParts) (begin : ℕ) (first : Item) (items : List Item) (texts : List (List Item)) →
    first ∷ items ≡ joined_texts texts →
    ((i : ℕ) (item : Item) → slice_get (joined_texts texts) i ≡ Some item → IsItemAt parts (begin + i) item) →
    HoldsTexts parts begin (cuts_from 0 texts) (length texts) texts
texts_cut parts begin first items texts same each = record {
  len = refl;
  there = λ k text there more.
      let within = slice_get_within texts k text there in
      let from = cut_at 0 texts k (omega (arith, within)) in
      let to = cut_at 0 texts (k + 1) (omega (arith, within)) in
      let next = next_joined texts k text there in
      record {
        len = omega (arith, from, to, next);
        each = λ i item here.
            let front = length (joined_texts (take k texts)) in
            let at : begin + (front + i) ≡ begin + slice_index (cuts_from 0 texts) k + i = omega (arith, from) in
            subst (λ n. IsItemAt parts n item) at (each (front + i) item (in_joined texts k text i item there here));
      };
  missing = λ k text there past.
      let within = slice_get_within texts k text there in
      absurd (omega (arith, within, past, length-cuts_from 0 texts));
}

texts_held : (parts : TextParts) (begin : ℕ) (joined : List Item) (texts : List (List Item)) →
    joined ≡ joined_texts texts →
    ((i : ℕ) (item : Item) → slice_get (joined_texts texts) i ≡ Some item → IsItemAt parts (begin + i) item) →
    HoldsTexts parts begin (cuts_of joined texts) (length texts) texts
texts_held parts begin [] texts same each = record {
  len = refl;
  there = λ k text there more. absurd (omega (arith, more));
  missing = λ k text there past. empty_joined texts k text (ap length (sym same)) there;
}
texts_held parts begin (first ∷ items) texts same each = texts_cut parts begin first items texts same each

pub notes_held : (s : Save) →
    HoldsTexts (the_parts s) (story_begin (the_source s) Notes) (note_cuts s) (length s.document.notes) s.document.notes
notes_held s =
    texts_held (the_parts s) (story_begin (the_source s) Notes) (note_items s) s.document.notes refl (note_item s)

pub heads_held : (s : Save) →
    HoldsTexts (the_parts s) (story_begin (the_source s) Heads) (head_cuts s) (length s.document.heads) s.document.heads
heads_held s =
    texts_held (the_parts s) (story_begin (the_source s) Heads) (head_items s) s.document.heads refl (head_item s)
