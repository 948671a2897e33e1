-- The field characters, the notes, the header texts and the ends of stories of a saved document break none of the rules
-- 52 to 55.
use Rattle.std.specs.Prelude.{slice_get, slice_index, IfSome}
use Rattle.std.proofs.Common.{◌⊎◌, ◌≡◌, ◌∙◌, refl, sym, ap, subst, ℕ, ◌+◌, ◌-◌, ◌*◌, ◌<◌, Bool, true, false, List, []}
use Rattle.std.proofs.Common.{◌∷◌, length, take, Option, Some, arith, inl, inr}
use Rattle.std.proofs.lemmas.Bool.{cases_lt}
use Rattle.std.proofs.lemmas.List.{length-map}
use Rattle.std.proofs.Math.Seq.{take-length}
use Rattle.doc_bits.specs.declared.places.Where.TheVariants.{Wd, Table}
use Rattle.doc_bits.specs.Rules.{Hold, Nowhere, rule}
use Rattle.doc_bits.specs.Plc.{PlcPart}
use Rattle.doc_bits.proofs.Public.{hold_in, there_is}
use Rattle.prop_map.specs.Settings.{Properties}
use Rattle.fib_form.specs.declared.table_parts.TablePart.TheVariants.{PlcffndRef, PlcffndTxt, PlcfHdd, PlcfFldMom}
use Rattle.fib_form.specs.declared.table_parts.TablePart.TheVariants.{PlcfFldHdr, PlcfFldFtn}
use Rattle.fib_form.specs.declared.stories.StoryKind.TheVariants.{Main, Notes, Heads}
use Rattle.doc_parts.specs.Table.{IsValidEntry, plc_part}
use Rattle.doc_parts.specs.Stories.{printed_texts}
use Rattle.doc_parts.specs.declared.lists.NoteRef.{NoteRef}
use Rattle.doc_parts.specs.declared.lists.Fld.{Fld}
use Rattle.doc_parts.specs.Fields.{fld_form, fld_cps}
use Rattle.doc_model.specs.declared.item.NoteKind.{NoteKind}
use Rattle.plain_doc.specs.RulesOfSheet.{section_count, heads_of_sections}
use Rattle.doc_model.specs.Collected.{is_auto, joined_texts, collected, fields_of, refs_of, cuts_from}
use Rattle.doc_model.specs.declared.item.Item.{Item}
use Rattle.doc_model.proofs.Public.{collected_count, length-cuts_from, cut_at}
use Rattle.file_rules.specs.Source.{table_part_bytes, part_place, story_length, story_units}
use Rattle.file_rules.specs.FieldRules.{BreaksFields, BreaksAllFields, rules_of_fields}
use Rattle.file_rules.specs.NoteRules.{ref_count, HasEntries, BreaksRefs, BreaksNoteCuts, HasNoteCuts, rules_of_notes}
use Rattle.file_rules.specs.HeadRules.{IsHeadTable, BreaksHeads, rules_of_heads}
use Rattle.file_rules.specs.EndRules.{last_text_end, IsLooseUnit, BreaksEnds, rules_of_ends}
use Rattle.doc_model.specs.TextLists.{cuts_of}
use Rattle.save_laws.specs.Slots.{shown, loose, story_slots}
use Rattle.save_laws.proofs.SavedLemmas.{part_is, Save, the_source, the_heads, note_len, head_len, length-story_units}
use Rattle.save_laws.proofs.SavedLemmas.{main_unit, note_unit, head_unit}
use Rattle.save_laws.proofs.SlotLemmas.{length-story_slots, story_item, story_mark}
use Rattle.save_laws.proofs.ItemRules.{no_notes}
use Rattle.save_laws.proofs.ListedLemmas.{AreFieldsHeld, AreCutsHeld, field_from, whole_table}
use Rattle.save_laws.proofs.PartsHeld.{note_items, head_items, note_cuts, head_cuts, sections_part, refs_part}
use Rattle.save_laws.proofs.PartsHeld.{note_cuts_part, head_cuts_part, main_fields_part, note_fields_part}
use Rattle.save_laws.proofs.PartsHeld.{head_fields_part}

-- ---- fields

-- the story has the units of the items
abbrev HasUnits : List ℕ → List Item → Type 0
HasUnits story items = (i : ℕ) (item : Item) → slice_get items i ≡ Some item → slice_index story i ≡ item.unit

fields_right : (story bytes : List ℕ) (at len : ℕ) (items : List Item) → HasUnits story items → length story ≡ len →
    AreFieldsHeld bytes len (fields_of items) → Nowhere (BreaksFields story bytes at)
fields_right story bytes at len items units long held place w =
    let table : PlcPart = plc_part 2 bytes in
    elim w [
      | inl wrong ↦ held.rules at place (inl wrong)
      | inr row ↦
          let k = row.entry in
          let all = held.has.all in
          let below : k < length (fields_of items) = omega (arith, row.below, all) in
          let found = there_is (fields_of items) k below in
          let from = field_from items k found.0 found.1 in
          let unit : slice_index story found.0.cp ≡ found.0.unit =
          units found.0.cp from.item from.here ∙ sym from.unit in
          let some : IfSome (slice_get (fields_of items) k) (λ fld. slice_index story fld.cp ≡ fld.unit) =
          subst (λ (o : Option Fld). IfSome o (λ fld. slice_index story fld.cp ≡ fld.unit)) (sym found.1) unit in
          held.rules at place (inr (record {
            entry = k;
            below = row.below;
            broken = record {
              here = row.broken.here;
              broken = λ right. row.broken.broken (record {
                right = subst (λ n. IsValidEntry fld_form (fld_cps n) table k) (sym long) right;
                unit =
                    subst (λ (o : Option Fld). IfSome o (λ fld. slice_index story fld.cp ≡ fld.unit))
                    (held.has.leading.each k below) some;
              });
            };
          }))
    ]

note_units : (s : Save) → HasUnits (story_units (the_source s) Notes) (note_items s)
note_units s i item here =
    note_unit s i (shown item) (story_item s.document.notes s.saved.ends.notes i item here) tt

head_units : (s : Save) → HasUnits (story_units (the_source s) Heads) (head_items s)
head_units s i item here =
    head_unit s i (shown item) (story_item s.document.heads s.saved.ends.heads i item here) tt

pub fields_hold : (s : Save) → Hold (rules_of_fields (the_source s))
fields_hold s =
    let source = the_source s in
    let none : Nowhere (BreaksAllFields source) = λ place w. elim w [
      | inl main ↦
          fields_right (story_units source Main) (table_part_bytes source PlcfFldMom) (part_place source PlcfFldMom)
          (story_length source Main) s.document.main (main_unit s) (length-story_units s Main)
          (main_fields_part s) place main
      | inr (inl notes) ↦
          fields_right (story_units source Notes) (table_part_bytes source PlcfFldFtn) (part_place source PlcfFldFtn)
          (story_length source Notes) (note_items s) (note_units s) (length-story_units s Notes)
          (note_fields_part s) place notes
      | inr (inr heads) ↦
          fields_right (story_units source Heads) (table_part_bytes source PlcfFldHdr) (part_place source PlcfFldHdr)
          (story_length source Heads) (head_items s) (head_units s) (length-story_units s Heads)
          (head_fields_part s) place heads
    ] in
    hold_in Table (rule 52 (BreaksAllFields source)) none

-- ---- notes

-- a table of cuts that has some is as long as they say
cuts_length : (number : ℕ) (bytes : List ℕ) (len : ℕ) (list : List ℕ) → AreCutsHeld number bytes len list →
    0 < length list → length bytes ≡ 4 * (length list + 1)
cuts_length number bytes len list held some =
    let all = held.has.all in
    elim (whole_table 0 bytes (λ wrong. held.rules 0 0 (inl (refl, wrong)))) [
      | inl empty ↦ absurd (omega (arith, all, some, empty))
      | inr whole ↦ omega (arith, all, whole)
    ]

-- there is one cut more than texts, where there are items
length-cuts_of : (joined : List Item) (texts : List (List Item)) → 0 < length joined →
    length (cuts_of joined texts) ≡ length texts + 1
length-cuts_of [] texts some = absurd (omega (arith, some))
length-cuts_of (item ∷ items) texts some = length-cuts_from 0 texts

no_cuts : (joined : List Item) (texts : List (List Item)) → length joined ≡ 0 → cuts_of joined texts ≡ []
no_cuts [] texts none = refl
no_cuts (item ∷ items) texts none = absurd (omega (arith, none))

-- a document has as many references as notes
length-refs : (s : Save) → length (refs_of s.document.main) ≡ length s.document.notes
length-refs s =
    let note : Item → Option NoteKind = λ item. item.note in
    let make : ℕ × NoteKind → NoteRef = λ e. record { cp = e.0; auto = is_auto e.1 } in
    length-map (collected note 0 s.document.main) make
    ∙ (sym (collected_count note 0 s.document.main) ∙ sym s.right.notes)

-- where there are notes, PlcffndRef has entries
entries_there : (s : Save) → 0 < length s.document.notes → HasEntries (table_part_bytes (the_source s) PlcffndRef)
entries_there s some =
    let bytes = table_part_bytes (the_source s) PlcffndRef in
    let held = refs_part s in
    let all = held.has.all in
    let many = length-refs s in
    let count : 0 < ref_count bytes = omega (arith, all, many, some) in
    elim (whole_table 2 bytes (λ wrong. held.rules 0 0 (inl (refl, wrong)))) [
      | inl empty ↦ absurd (omega (arith, count, empty))
      | inr whole ↦ (whole, count)
    ]

no_entries : (s : Save) → length s.document.notes ≡ 0 → ¬ (HasEntries (table_part_bytes (the_source s) PlcffndRef))
no_entries s none entries =
    let all = (refs_part s).has.all in
    let many = length-refs s in
    let some = entries.1 in
    omega (arith, all, many, some, none)

-- notes have items, and items are those of notes
items_of_notes : (s : Save) → 0 < length s.document.notes → 0 < length (note_items s)
items_of_notes s some = elim (cases_lt 0 (length (note_items s))) [
  | inl items ↦ items
  | inr none ↦
      let empty : length (note_items s) ≡ 0 = omega (arith, none) in
      let nothing_there = no_notes s.document s.right empty in absurd (omega (arith, some, nothing_there))
]

nothing_joined : (texts : List (List Item)) → length texts ≡ 0 → length (joined_texts texts) ≡ 0
nothing_joined [] none = refl
nothing_joined (text ∷ texts) none = absurd (omega (arith, none))

pub notes_cut : (s : Save) → HasNoteCuts (the_source s) (note_cuts s)
notes_cut s = elim (cases_lt 0 (length s.document.notes)) [
  | inl some ↦ inl (entries_there s some, (note_cuts_part s).has)
  | inr none ↦
      let no_texts : length s.document.notes ≡ 0 = omega (arith, none) in
      inr (no_entries s no_texts, no_cuts (note_items s) s.document.notes (nothing_joined s.document.notes no_texts))
]

pub notes_counted : (s : Save) → length s.document.notes ≡ length (note_cuts s) - 1
notes_counted s = elim (cases_lt 0 (length s.document.notes)) [
  | inl some ↦
      let many = length-cuts_of (note_items s) s.document.notes (items_of_notes s some) in omega (arith, many)
  | inr none ↦
      let no_texts : length s.document.notes ≡ 0 = omega (arith, none) in
      let empty = ap length (no_cuts (note_items s) s.document.notes (nothing_joined s.document.notes no_texts)) in
      omega (arith, no_texts, empty)
]

pub notes_hold : (s : Save) → Hold (rules_of_notes (the_source s))
notes_hold s =
    let source = the_source s in
    let refs = table_part_bytes source PlcffndRef in
    let cuts = table_part_bytes source PlcffndTxt in
    let held = note_cuts_part s in
    let none : Nowhere (λ place. BreaksRefs source place ⊎ BreaksNoteCuts source place) = λ place w. elim w [
      | inl broken ↦ (refs_part s).rules (part_place source PlcffndRef) place broken
      | inr broken ↦
          let all = (refs_part s).has.all in
          let many = length-refs s in
          let entries = broken.0.1 in
          let some : 0 < length s.document.notes = omega (arith, all, many, entries) in
          let cut = length-cuts_of (note_items s) s.document.notes (items_of_notes s some) in
          let long = cuts_length 53 cuts (story_length source Notes) (note_cuts s) held (omega (arith, cut)) in
          elim broken.1 [
            | inl wrong ↦ wrong.1 (omega (arith, long, cut, all, many))
            | inr row ↦ held.rules (part_place source PlcffndTxt) place (inr row)
          ]
    ] in
    hold_in Table (rule 53 (λ place. BreaksRefs source place ⊎ BreaksNoteCuts source place)) none

-- ---- header texts

pub length-heads : (s : Save) → length s.document.heads ≡ heads_of_sections (length s.saved.seds)
length-heads s =
    let sect : Item → Option Properties = λ item. item.sect in
    let count = collected_count sect 0 s.document.main in
    let many = s.is.sections.properties.len in
    let same : section_count s.document.main ≡ length s.saved.seds = count ∙ sym many in
    s.right.heads ∙ ap heads_of_sections same

head_table : (s : Save) → IsHeadTable (length (table_part_bytes (the_source s) PlcfHdd)) (length s.saved.seds)
head_table s = elim (cases_lt 0 (length (head_items s))) [
  | inl some ↦
      let cut = length-cuts_of (head_items s) s.document.heads some in
      let long =
      cuts_length 54 (table_part_bytes (the_source s) PlcfHdd) (story_length (the_source s) Heads) (head_cuts s)
      (head_cuts_part s) (omega (arith, cut)) in
      let many = length-heads s in
      inr (record {
        texts = length s.document.heads;
        most = omega (arith, many);
        cps = omega (arith, long, cut);
      })
  | inr none ↦
      let empty : head_cuts s ≡ [] = no_cuts (head_items s) s.document.heads (omega (arith, none)) in
      let bytes = part_is s 4 PlcfHdd (printed_texts (head_cuts s) (length (the_heads s))) refl in
      inl (ap length (bytes ∙ ap (λ l. printed_texts l (length (the_heads s))) empty))
]

pub heads_hold : (s : Save) → Hold (rules_of_heads (the_source s))
heads_hold s =
    let source = the_source s in
    let held = head_cuts_part s in
    let none : Nowhere (BreaksHeads source s.saved.seds) = λ place w. elim w [
      | inl wrong ↦ wrong.1 (head_table s)
      | inr row ↦ held.rules (part_place source PlcfHdd) place (inr row)
    ] in
    (s.saved.seds, ((sections_part s).has, hold_in Table (rule 54 (BreaksHeads source s.saved.seds)) none))

-- ---- the ends of stories

-- the last cut is the number of items
last_of_cuts : (joined : List Item) (texts : List (List Item)) → joined ≡ joined_texts texts →
    last_text_end (cuts_of joined texts) ≡ length joined
last_of_cuts [] texts same = refl
last_of_cuts (item ∷ items) texts same =
    let many = length-cuts_from 0 texts in
    let at : length (cuts_from 0 texts) - 1 ≡ length texts = omega (arith, many) in
    let all : take (length texts) texts ≡ texts = take-length texts in
    let cut = cut_at 0 texts (length texts) (omega arith) in
    ap (slice_index (cuts_from 0 texts)) at
    ∙ (cut ∙ (ap (λ l. 0 + length (joined_texts l)) all ∙ omega (arith, ap length same)))

loose_by : (texts : List (List Item)) (end : Bool) (story : List ℕ) (cp : ℕ) →
    length story ≡ length (story_slots texts end) →
    ((i : ℕ) → slice_get (story_slots texts end) i ≡ Some loose → slice_index story i ≡ 0x0D) →
    ¬ (IsLooseUnit story (length (joined_texts texts)) cp)
loose_by texts true story cp long unit w =
    let len = length-story_slots texts true in
    let after = w.after in
    let within = w.within in
    let at : cp ≡ length (joined_texts texts) = omega (arith, len, after, within, long) in
    w.other (at, ap (slice_index story) at ∙ unit (length (joined_texts texts)) (story_mark texts))
loose_by texts false story cp long unit w =
    let len = length-story_slots texts false in
    let after = w.after in
    let within = w.within in
    omega (arith, len, after, within, long)

pub ends_hold : (s : Save) → Hold (rules_of_ends (the_source s))
ends_hold s =
    let source = the_source s in
    let document = s.document in
    let ends = s.saved.ends in
    let none : Nowhere (BreaksEnds source (note_cuts s) (head_cuts s)) = λ place w. elim w [
      | inl notes ↦
          let unit = subst (λ end. IsLooseUnit (story_units source Notes) end notes.cp)
          (last_of_cuts (note_items s) document.notes refl) notes.first.broken in
          loose_by document.notes ends.notes (story_units source Notes) notes.cp
          (length-story_units s Notes ∙ note_len s)
          (λ i here. note_unit s i loose here tt) unit
      | inr heads ↦
          let unit = subst (λ end. IsLooseUnit (story_units source Heads) end heads.cp)
          (last_of_cuts (head_items s) document.heads refl) heads.first.broken in
          loose_by document.heads ends.heads (story_units source Heads) heads.cp
          (length-story_units s Heads ∙ head_len s)
          (λ i here. head_unit s i loose here tt) unit
    ] in (
      note_cuts s,
      (
        notes_cut s,
        (
          head_cuts s,
          ((head_cuts_part s).has, hold_in Wd (rule 55 (BreaksEnds source (note_cuts s) (head_cuts s))) none),
        ),
      ),
    )
