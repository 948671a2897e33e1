-- How many bytes the parts have that a full save of what is generated writes beside its text and its bin tables.
use Rattle.std.proofs.Common.{◌≡◌, ◌∙◌, refl, ap, ℕ, ◌+◌, ◌≤◌, List, [], ◌∷◌, ◌++◌, length}
use Rattle.std.proofs.Common.{map, Option, Some, None, arith, length-append}
use Rattle.std.specs.Prelude.{slice_index}
use Rattle.std.specs.List.{All}
use Rattle.std.specs.Option.{option_map, ForSome}
use Rattle.std.specs.FinMap.{empty}
use Rattle.std.proofs.lemmas.List.Elements.{All-head, All-tail}
use Rattle.doc_bits.specs.Number.{number_bytes}
use Rattle.prop_map.specs.Settings.{Properties}
use Rattle.prop_map.proofs.Public.{entries-empty}
use Rattle.fib_form.specs.FibFields.{listed_pair}
use Rattle.fib_form.specs.TableEntries.{TableEntry, entry}
use Rattle.fib_form.specs.TableParts.{pair_number}
use Rattle.fib_form.specs.declared.table_parts.TablePart.TheVariants.{Stshf, PlcffndRef, PlcffndTxt, PlcfSed, PlcfHdd}
use Rattle.fib_form.specs.declared.table_parts.TablePart.TheVariants.{PlcfBteChpx, PlcfBtePapx, SttbfFfn, PlcfFldMom}
use Rattle.fib_form.specs.declared.table_parts.TablePart.TheVariants.{PlcfFldHdr, PlcfFldFtn, SttbfBkmk}
use Rattle.fib_form.specs.declared.table_parts.TablePart.TheVariants.{PlcfBkf, PlcfBkl, Dop, SttbfAssoc, Clx, PlfLst}
use Rattle.fib_form.specs.declared.table_parts.TablePart.TheVariants.{PlfLfo}
use Rattle.style_sheet.specs.Written.{written_sheet}
use Rattle.doc_parts.specs.declared.lists.Fld.{Fld}
use Rattle.doc_parts.specs.declared.lists.NoteRef.{NoteRef}
use Rattle.doc_parts.specs.Sections.{printed_sections}
use Rattle.doc_parts.specs.Fields.{printed_fields}
use Rattle.doc_parts.specs.Stories.{printed_refs, printed_texts}
use Rattle.doc_model.specs.declared.item.Item.{Item}
use Rattle.doc_model.specs.declared.item.NoteKind.{NoteKind}
use Rattle.doc_model.specs.Blank.{blank_sheet}
use Rattle.doc_model.specs.Collected.{entry_before, collected, sections_of, field_character, fields_of, is_auto}
use Rattle.doc_model.specs.Collected.{refs_of}
use Rattle.plain_doc.proofs.Public.{length-blank_sheet}
use Rattle.doc_model.proofs.Public.{collected_count}
use Rattle.full_save.specs.declared.table_text.TableText.{TableText}
use Rattle.full_save.specs.Text.{note_story, head_story, text_items}
use Rattle.full_save.specs.Sections.{sepx_bytes, sepxes}
use Rattle.full_save.specs.TableText.{table_entries}
use Rattle.full_save.specs.TableStream.{entries_bytes, entries_pairs}
use Rattle.full_save.specs.WordDocument.{pages_end, full_text, full_fib, table_stream}
use Rattle.full_save.proofs.Public.{AreNumbered, plain as plain_part, entry_stands, clx_short, length-seds, no_starts}
use Rattle.full_save.proofs.Public.{no_ends}
use Rattle.save_laws.proofs.Public.{tables_differ_by_own_parts}
use Rattle.edit_generator.specs.GeneratedDocuments.{IsGeneratedItem, IsGeneratedText}
use Rattle.edit_generator.proofs.GeneratedRightLemmas.{generated_with, sect_empty, one_section}

-- ---- what is not there

collected_none : {A : Type 0} (what : Item → Option A) (cp : ℕ) (items : List Item) →
    All (λ item. what item ≡ None) items → collected what cp items ≡ []
unfolding collected
collected_none what cp [] none = refl
collected_none what cp (item ∷ items) none =
    ap (λ o. entry_before o cp (collected what (cp + 1) items)) (All-head (λ item. what item ≡ None) item items none)
    ∙ collected_none what (cp + 1) items (All-tail (λ item. what item ≡ None) item items none)

no_refs : (main : List Item) → All IsGeneratedItem main → refs_of main ≡ []
no_refs main each =
    ap (map (λ (e : ℕ × NoteKind). record { cp = e.0; auto = is_auto e.1 }))
    (collected_none (λ item. item.note) 0 main (λ k d within. (each k d within).note))

no_field : (item : Item) → IsGeneratedItem item → field_character item ≡ None
no_field item is = ap (option_map (λ (byte : ℕ). (item.unit, byte))) is.fld

no_fields : (main : List Item) → All IsGeneratedItem main → fields_of main ≡ []
no_fields main each =
    ap (map (λ (e : ℕ × (ℕ × ℕ)). record { cp = e.0; unit = e.1.0; byte = e.1.1 }))
    (collected_none field_character 0 main (λ k d within. no_field _ (each k d within)))

-- ---- the sections have no properties

no_sepx : sepx_bytes empty ≡ []
no_sepx = rw entries-empty refl

sepx_before : (o : Option Properties) (cp : ℕ) (rest : List (ℕ × Properties)) → ForSome o (λ sect. sect ≡ empty) →
    sepxes (entry_before o cp rest) ≡ sepxes rest
sepx_before None cp rest none = refl
sepx_before (Some sect) cp rest none =
    let is : sect ≡ empty = none sect refl in
    ap (λ bytes. bytes ++ sepxes rest) (ap sepx_bytes is ∙ no_sepx)

no_sepxes : (cp : ℕ) (items : List Item) → All IsGeneratedItem items →
    sepxes (collected (λ item. item.sect) cp items) ≡ []
unfolding collected
no_sepxes cp [] each = refl
no_sepxes cp (item ∷ items) each =
    sepx_before item.sect cp (collected (λ item. item.sect) (cp + 1) items)
    (sect_empty item (All-head IsGeneratedItem item items each))
    ∙ no_sepxes (cp + 1) items (All-tail IsGeneratedItem item items each)

pub length-sepxes : (main : List Item) → IsGeneratedText main → length (sepxes (sections_of main)) ≡ 0
length-sepxes main text = ap length (no_sepxes 0 main text.each)

-- ---- the text is the main text

pub length-text_items : (main : List Item) → length (text_items (generated_with main)) ≡ length main
unfolding text_items note_story head_story
length-text_items main = let all = length-append main [] in omega (arith, all)

-- ---- the table stream

-- the parts of a document without notes and header texts, by what they list of the main text
abbrev parts_behind : List NoteRef → List Fld → (starts ends : List ℕ) → TableText → List TableEntry
parts_behind refs fields starts ends text =
    let main_count = slice_index text.counts 0 in
    let note_count = slice_index text.counts 1 in
    let head_count = slice_index text.counts 2 in
    entry (pair_number PlcffndRef) (printed_refs refs main_count)
    ∷ entry (pair_number PlcffndTxt) (printed_texts [] note_count)
    ∷ entry (pair_number PlcfSed) (printed_sections text.seds main_count)
    ∷ entry (pair_number PlcfHdd) (printed_texts [] head_count)
    ∷ entry (pair_number PlcfBteChpx) text.characters
    ∷ entry (pair_number PlcfBtePapx) text.paragraphs
    ∷ entry (pair_number SttbfFfn) []
    ∷ entry (pair_number PlcfFldMom) (printed_fields fields main_count)
    ∷ entry (pair_number PlcfFldHdr) (printed_fields [] head_count)
    ∷ entry (pair_number PlcfFldFtn) (printed_fields [] note_count)
    ∷ entry (pair_number SttbfBkmk) []
    ∷ entry (pair_number PlcfBkf) starts
    ∷ entry (pair_number PlcfBkl) ends
    ∷ entry (pair_number Dop) []
    ∷ entry (pair_number SttbfAssoc) []
    ∷ entry (pair_number Clx) text.clx
    ∷ record { number = pair_number PlfLst; bytes = []; behind = [] }
    ∷ entry (pair_number PlfLfo) []
    ∷ []

abbrev parts_of : List NoteRef → List Fld → (starts ends : List ℕ) → TableText → List TableEntry
parts_of refs fields starts ends text =
    entry (pair_number Stshf) (written_sheet blank_sheet) ∷ parts_behind refs fields starts ends text

parts_are : (main : List Item) (text : TableText) → IsGeneratedText main →
    table_entries (generated_with main) text ≡ parts_of [] [] [] [] text
unfolding collected
parts_are main text is =
    let refs = no_refs main is.each in
    let fields = no_fields main is.each in
    let starts = no_starts (slice_index text.counts 0) in
    let ends = no_ends (slice_index text.counts 0) in
    λ i. parts_of (refs i) (fields i) (starts i) (ends i) text

-- what the save may choose left out
abbrev bare_text : TableText
bare_text = record {
  counts = [];
  seds = record { start = 0; sepx = 0 } ∷ [];
  characters = [];
  paragraphs = [];
  clx = [];
}

bare_length : length (entries_bytes (parts_of [] [] [] [] bare_text)) ≡ 208
unfolding number_bytes
bare_length =
    let sheet = written_sheet blank_sheet in
    let rest = entries_bytes (parts_behind [] [] [] [] bare_text) in
    let a = length-append (sheet ++ []) rest in
    let b = length-append sheet [] in
    let c = length-blank_sheet in
    let d : length rest ≡ 20 = refl in
    omega (arith, a, b, c, d)

pub short_table : (main : List Item) → IsGeneratedText main →
    length (table_stream (generated_with main)) ≤ 600 +
    (length (full_text (generated_with main)).characters + length (full_text (generated_with main)).paragraphs)
unfolding table_stream
short_table main is =
    let document = generated_with main in
    let text = full_text document in
    let sections = collected_count (λ (item : Item). item.sect) 0 main in
    let seds = length-seds 0 (pages_end document) (sections_of main) in
    let one = one_section main is in
    let differ = tables_differ_by_own_parts document text bare_text (omega (arith, sections, seds, one)) in
    let bare = ap (λ parts. length (entries_bytes parts)) (parts_are main bare_text is) ∙ bare_length in
    let clx = clx_short (length (text_items document)) in
    omega (arith, differ, bare, clx)

-- ---- the bin tables

numbered : (text : TableText) → AreNumbered 0 (parts_of [] [] [] [] text)
numbered text = (
  plain_part 0 1 _ (omega arith) (omega arith),
  (
    plain_part 2 2 _ (omega arith) (omega arith),
    (
      plain_part 3 3 _ (omega arith) (omega arith),
      (
        plain_part 4 6 _ (omega arith) (omega arith),
        (
          plain_part 7 11 _ (omega arith) (omega arith),
          (
            plain_part 12 12 _ (omega arith) (omega arith),
            (
              plain_part 13 13 _ (omega arith) (omega arith),
              (
                plain_part 14 15 _ (omega arith) (omega arith),
                (
                  plain_part 16 16 _ (omega arith) (omega arith),
                  (
                    plain_part 17 17 _ (omega arith) (omega arith),
                    (
                      plain_part 18 18 _ (omega arith) (omega arith),
                      (
                        plain_part 19 21 _ (omega arith) (omega arith),
                        (
                          plain_part 22 22 _ (omega arith) (omega arith),
                          (
                            plain_part 23 23 _ (omega arith) (omega arith),
                            (
                              plain_part 24 31 _ (omega arith) (omega arith),
                              (
                                plain_part 32 32 _ (omega arith) (omega arith),
                                (
                                  plain_part 33 33 _ (omega arith) (omega arith),
                                  (
                                    plain_part 34 73 _ (omega arith) (omega arith),
                                    (
                                      plain_part 74 74 _ (omega arith) (omega arith),
                                      tt,
                                    ),
                                  ),
                                ),
                              ),
                            ),
                          ),
                        ),
                      ),
                    ),
                  ),
                ),
              ),
            ),
          ),
        ),
      ),
    ),
  ),
)

abbrev bin_lengths : List TableEntry → ℕ
bin_lengths parts = (listed_pair (entries_pairs parts) 12).1 + (listed_pair (entries_pairs parts) 13).1

pub length-bins : (main : List Item) → IsGeneratedText main →
    (listed_pair (full_fib (generated_with main)).pairs 12).1 +
    (listed_pair (full_fib (generated_with main)).pairs 13).1 ≡ length (full_text (generated_with main)).characters +
    length (full_text (generated_with main)).paragraphs
unfolding full_fib
length-bins main is =
    let text = full_text (generated_with main) in
    let parts = parts_of [] [] [] [] text in
    let characters = (entry_stands parts 5 (entry 12 text.characters) (numbered text) refl).there.len in
    let paragraphs = (entry_stands parts 6 (entry 13 text.paragraphs) (numbered text) refl).there.len in
    ap bin_lengths (parts_are main text is) ∙ omega (arith, characters, paragraphs)
