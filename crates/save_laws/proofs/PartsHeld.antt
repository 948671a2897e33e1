-- What the parts of a saved document hold, and that they break no rule of their own.
use Rattle.std.specs.Prelude.{slice_range}
use Rattle.std.proofs.lemmas.Bool.{cases_lt}
use Rattle.std.proofs.Common.{◌≡◌, ◌∙◌, refl, sym, ap, subst, ℕ, ◌+◌, ◌-◌, ◌*◌, ◌<◌, ◌≤◌, List, length, arith, inl}
use Rattle.std.proofs.Common.{inr}
use Rattle.doc_bits.proofs.Public.{hold_in}
use Rattle.doc_bits.specs.Number.{u16_at}
use Rattle.doc_bits.specs.declared.places.Where.TheVariants.{Table}
use Rattle.doc_bits.specs.Rules.{Hold}
use Rattle.fib_form.specs.Fib.{fib_pair}
use Rattle.fib_form.specs.TableParts.{pair_number}
use Rattle.fib_form.specs.declared.table_parts.TablePart.TheVariants.{Stshf, PlcffndRef, PlcffndTxt, PlcfSed, PlcfHdd}
use Rattle.fib_form.specs.declared.table_parts.TablePart.TheVariants.{PlcfFldMom, PlcfFldHdr, PlcfFldFtn, PlfLst}
use Rattle.fib_form.specs.declared.stories.StoryKind.TheVariants.{Main, Notes, Heads}
use Rattle.doc_parts.specs.Levels.{level_count, AreLevelsFrom, HasLists, list_part, level_rules}
use Rattle.doc_parts.proofs.Public.{levels_inside, levels_hold}
use Rattle.doc_parts.specs.Sections.{printed_sections}
use Rattle.doc_parts.specs.Fields.{printed_fields}
use Rattle.doc_parts.specs.Stories.{printed_refs, printed_texts}
use Rattle.style_sheet.specs.Written.{IsValidStsh, written_sheet}
use Rattle.style_sheet.proofs.Public.{sheet_back}
use Rattle.doc_model.specs.declared.item.Item.{Item}
use Rattle.doc_model.specs.Collected.{joined_texts, fields_of, refs_of, sections_of}
use Rattle.plain_doc.proofs.Public.{main_ends, ends_main}
use Rattle.doc_model.proofs.Public.{some_collected}
use Rattle.file_rules.specs.Source.{table_part_bytes, part_place, story_length}
use Rattle.file_rules.specs.ListRules.{rules_of_lists, HasLevels}
use Rattle.doc_model.specs.TextLists.{cuts_of}
use Rattle.fib_form.specs.TableEntries.{TableEntry, IsPartAt}
use Rattle.save_laws.proofs.SlotLemmas.{length-story_slots}
use Rattle.save_laws.proofs.SavedLemmas.{Save, the_source, the_notes, the_heads, main_len, note_len, head_len}
use Rattle.save_laws.proofs.SavedLemmas.{few_units, part_is}
use Rattle.save_laws.proofs.ItemRules.{main_saved, notes_saved, heads_saved}
use Rattle.save_laws.proofs.ListedLemmas.{AreSectionsHeld, AreFieldsHeld, AreRefsHeld, AreCutsHeld, said_of}
use Rattle.save_laws.proofs.ListedLemmas.{fields_held, refs_held, cuts_held, sections_held}

-- the texts' items of the notes, and of the header texts
abbrev pub note_items : Save → List Item
note_items s = joined_texts s.document.notes

abbrev pub head_items : Save → List Item
head_items s = joined_texts s.document.heads

pub note_items_within : (s : Save) → length (note_items s) ≤ length (the_notes s)
note_items_within s = let len = length-story_slots s.document.notes s.saved.ends.notes in omega (arith, len)

pub head_items_within : (s : Save) → length (head_items s) ≤ length (the_heads s)
head_items_within s = let len = length-story_slots s.document.heads s.saved.ends.heads in omega (arith, len)

-- ---- the table of sections

pub some_sections : (s : Save) → 0 < length (sections_of s.document.main)
some_sections s =
    let last = main_ends s.document s.right in
    let here = last.here in
    let some = ends_main s.document s.right in
    some_collected (λ (item : Item). item.sect) 0 s.document.main (length s.document.main - 1) last.item here some

pub sections_part : (s : Save) →
    AreSectionsHeld (table_part_bytes (the_source s) PlcfSed) (story_length (the_source s) Main) s.saved.seds
sections_part s =
    let len = length s.document.main in
    let few = (few_units s).few in
    said_of (λ bytes n. AreSectionsHeld bytes n s.saved.seds) (table_part_bytes (the_source s) PlcfSed)
    (printed_sections s.saved.seds len) (story_length (the_source s) Main) len
    (part_is s 3 PlcfSed (printed_sections s.saved.seds len) refl) (main_len s)
    (sections_held s.saved.stream.wd s.document.main s.saved.seds s.is.wd_small (omega (arith, few)) (some_sections s)
    s.is.sections)

-- ---- styles

pub sheet_part : (s : Save) → IsValidStsh s.document.sheet (table_part_bytes (the_source s) Stshf)
sheet_part s =
    subst (IsValidStsh s.document.sheet) (sym (part_is s 0 Stshf (written_sheet s.document.sheet) refl))
    (sheet_back s.document.sheet s.formed.sheet s.right.writable)

-- ---- field characters

pub main_fields_part : (s : Save) →
    AreFieldsHeld (table_part_bytes (the_source s) PlcfFldMom) (story_length (the_source s) Main) (fields_of
    s.document.main)
main_fields_part s =
    let items = s.document.main in
    let len = length items in
    let few = (few_units s).few in
    said_of (λ bytes n. AreFieldsHeld bytes n (fields_of items)) (table_part_bytes (the_source s) PlcfFldMom)
    (printed_fields (fields_of items) len) (story_length (the_source s) Main) len
    (part_is s 8 PlcfFldMom (printed_fields (fields_of items) len) refl) (main_len s)
    (fields_held items len (omega (arith, few)) (omega arith) (main_saved s.document s.right))

pub note_fields_part : (s : Save) →
    AreFieldsHeld (table_part_bytes (the_source s) PlcfFldFtn) (story_length (the_source s) Notes) (fields_of
    (note_items s))
note_fields_part s =
    let items = note_items s in
    let len = length (the_notes s) in
    let few = (few_units s).few in
    said_of (λ bytes n. AreFieldsHeld bytes n (fields_of items)) (table_part_bytes (the_source s) PlcfFldFtn)
    (printed_fields (fields_of items) len) (story_length (the_source s) Notes) len
    (part_is s 10 PlcfFldFtn (printed_fields (fields_of items) len) refl) (note_len s)
    (fields_held items len (omega (arith, few)) (note_items_within s) (notes_saved s.document s.right))

pub head_fields_part : (s : Save) →
    AreFieldsHeld (table_part_bytes (the_source s) PlcfFldHdr) (story_length (the_source s) Heads) (fields_of
    (head_items s))
head_fields_part s =
    let items = head_items s in
    let len = length (the_heads s) in
    let few = (few_units s).few in
    said_of (λ bytes n. AreFieldsHeld bytes n (fields_of items)) (table_part_bytes (the_source s) PlcfFldHdr)
    (printed_fields (fields_of items) len) (story_length (the_source s) Heads) len
    (part_is s 9 PlcfFldHdr (printed_fields (fields_of items) len) refl) (head_len s)
    (fields_held items len (omega (arith, few)) (head_items_within s) (heads_saved s.document s.right))

-- ---- references and cuts

pub refs_part : (s : Save) →
    AreRefsHeld (table_part_bytes (the_source s) PlcffndRef) (story_length (the_source s) Main) (refs_of
    s.document.main)
refs_part s =
    let main = s.document.main in
    let len = length main in
    let few = (few_units s).few in
    said_of (λ bytes n. AreRefsHeld bytes n (refs_of main)) (table_part_bytes (the_source s) PlcffndRef)
    (printed_refs (refs_of main) len) (story_length (the_source s) Main) len
    (part_is s 1 PlcffndRef (printed_refs (refs_of main) len) refl) (main_len s)
    (refs_held main len (omega (arith, few)) (omega arith))

-- the CPs that cut the notes, and the header texts
abbrev pub note_cuts : Save → List ℕ
note_cuts s = cuts_of (note_items s) s.document.notes

abbrev pub head_cuts : Save → List ℕ
head_cuts s = cuts_of (head_items s) s.document.heads

pub note_cuts_part : (s : Save) →
    AreCutsHeld 53 (table_part_bytes (the_source s) PlcffndTxt) (story_length (the_source s) Notes) (note_cuts s)
note_cuts_part s =
    let len = length (the_notes s) in
    let few = (few_units s).few in
    said_of (λ bytes n. AreCutsHeld 53 bytes n (note_cuts s)) (table_part_bytes (the_source s) PlcffndTxt)
    (printed_texts (note_cuts s) len) (story_length (the_source s) Notes) len
    (part_is s 2 PlcffndTxt (printed_texts (note_cuts s) len) refl) (note_len s)
    (cuts_held 53 (note_items s) s.document.notes len refl (note_items_within s) (omega (arith, few)))

pub head_cuts_part : (s : Save) →
    AreCutsHeld 54 (table_part_bytes (the_source s) PlcfHdd) (story_length (the_source s) Heads) (head_cuts s)
head_cuts_part s =
    let len = length (the_heads s) in
    let few = (few_units s).few in
    said_of (λ bytes n. AreCutsHeld 54 bytes n (head_cuts s)) (table_part_bytes (the_source s) PlcfHdd)
    (printed_texts (head_cuts s) len) (story_length (the_source s) Heads) len
    (part_is s 4 PlcfHdd (printed_texts (head_cuts s) len) refl) (head_len s)
    (cuts_held 54 (head_items s) s.document.heads len refl (head_items_within s) (omega (arith, few)))

-- ---- lists and their levels

pub record AreLevelsHeld (s : Save) : Type 0 where
  pub rules : Hold (rules_of_lists (the_source s))
  pub has : HasLevels (the_source s) s.document.carried.levels

has_lists : (lst : List ℕ) → (0 < length lst → 2 + 28 * u16_at lst 0 ≤ length lst) → HasLists lst
has_lists lst counted = elim (cases_lt 0 (length lst)) [
  | inl some ↦ inr (counted some)
  | inr none ↦ inl (omega (arith, none))
]

pub levels_part : (s : Save) → AreLevelsHeld s
levels_part s =
    let source = the_source s in
    let lst = s.document.carried.lst in
    let levels = s.document.carried.levels in
    let part : TableEntry = record { number = pair_number PlfLst; bytes = lst; behind = levels } in
    let at = part_place source PlfLst in
    let placed : IsPartAt s.table (fib_pair s.saved.stream.wd (pair_number PlfLst)) part = s.is.parts 17 part refl in
    let bytes : table_part_bytes source PlfLst ≡ lst = placed.bytes in
    let lcb : ℕ = length (table_part_bytes source PlfLst) in
    let lcb_is : (fib_pair s.saved.stream.wd (pair_number PlfLst)).1 ≡ lcb = placed.len ∙ ap length (sym bytes) in
    let within : at + lcb + length levels ≤ length s.table =
    subst (λ n. at + n + length levels ≤ length s.table) lcb_is placed.within in
    let behind : slice_range s.table (at + lcb) (at + lcb + length levels) ≡ levels =
    subst (λ n. slice_range s.table (at + n) (at + n + length levels) ≡ levels) lcb_is placed.behind in
    let list : list_part s.table at lcb ≡ lst =
    subst (λ n. slice_range s.table at (at + n) ≡ lst) lcb_is placed.bytes in
    let lists = s.formed.carried.lists in
    let whole : AreLevelsFrom levels 0 (level_count (list_part s.table at lcb)) (length levels) =
    subst (λ l. AreLevelsFrom levels 0 (level_count l) (length levels)) (sym list) lists.whole in
    let inside = levels_inside s.table levels (at + lcb) (level_count (list_part s.table at lcb)) within behind whole in
    record {
      rules =
          hold_in Table (level_rules s.table at lcb) (levels_hold s.table at lcb (at + lcb + length levels)
          (subst HasLists (sym list) (has_lists lst lists.counted)) inside);
      has = record { len = length levels; have = inside.ends; bytes_are = sym behind };
    }
