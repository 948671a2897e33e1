-- How long the two streams of a full save can be, whether or not its file fits.
use Rattle.std.specs.Prelude.{slice_get, slice_index, slice_index_or, ⊤, All, replicate, nat_lt}
use Rattle.std.specs.Prelude.{if◌then◌else◌, ◌==◌}
use Rattle.std.specs.List.{flat_map, list_all}
use Rattle.std.proofs.Common.{◌≡◌, ℕ, suc, ◌+◌, ◌*◌, ◌%◌, ◌^◌, ◌<◌, ◌≤◌, Bool, true}
use Rattle.std.proofs.Common.{ltb-true}
use Rattle.std.proofs.Common.{List, [], ◌∷◌, ◌++◌, length, map, Some, None, Option, refl, ap, subst}
use Rattle.std.proofs.Common.{arith}
use Rattle.std.proofs.Common.{length-append}
use Rattle.std.proofs.lemmas.Bool.{and_parts, cond_both}
use Rattle.std.proofs.lemmas.List.{length-map, length-replicate}
use Rattle.std.proofs.lemmas.List.Elements.{All-head, All-tail}
use Rattle.doc_bits.specs.Number.{number_bytes, u32_list_bytes}
use Rattle.doc_bits.proofs.Public.{length-number_bytes, length-numbers}
use Rattle.prop_map.specs.Settings.{Properties}
use Rattle.prop_map.specs.Printing.{printed_list}
use Rattle.fib_form.specs.TableEntries.{TableEntry, entry}
use Rattle.fkp_pages.specs.declared.kind.PageKind.{PageKind}
use Rattle.fkp_pages.specs.declared.kind.PageKind.TheVariants.{Chpx, Papx}
use Rattle.fkp_pages.specs.declared.lists.Bin.{Bin}
use Rattle.fkp_pages.specs.Bin.{printed_bin}
use Rattle.fkp_pages.specs.PageBytes.{last_fc}
use Rattle.fkp_pages.specs.InARow.{numbered_bins}
use Rattle.fkp_pages.proofs.Public.{length-numbered_bins}
use Rattle.piece_table.specs.Printing.{pcd_bytes, cps_of, plc_bytes}
use Rattle.cfb_layout.specs.Sectors.{padded_to_unit}
use Rattle.cfb_layout.proofs.Public.{length-table, length-padded}
use Rattle.style_sheet.specs.declared.styles.Style.{Style}
use Rattle.style_sheet.specs.Sheet.{Sheet}
use Rattle.style_sheet.specs.Counted.{written_counted}
use Rattle.style_sheet.specs.Formed.{IsFormedSheet}
use Rattle.style_sheet.specs.Written.{word, written_slot, written_slots, written_front, written_sheet, IsWritable}
use Rattle.doc_parts.specs.declared.lists.Sed.{Sed}
use Rattle.doc_parts.specs.declared.lists.Fld.{Fld}
use Rattle.doc_parts.specs.declared.lists.NoteRef.{NoteRef}
use Rattle.doc_parts.specs.Sections.{sed_form, printed_sections}
use Rattle.doc_parts.specs.Fields.{fld_form, printed_fields}
use Rattle.doc_parts.specs.Stories.{ref_form, cut_form, printed_refs, printed_texts}
use Rattle.doc_parts.specs.PrintedBookmarks.{printed_names, printed_starts, printed_ends}
use Rattle.doc_model.specs.declared.item.Item.{Item}
use Rattle.doc_model.specs.declared.item.NoteKind.{NoteKind}
use Rattle.doc_model.specs.declared.carried.Carried.{Carried}
use Rattle.doc_model.specs.declared.document.Document.{Document}
use Rattle.doc_bits.specs.declared.places.Where.TheVariants.{Main}
use Rattle.doc_model.specs.Collected.{joined_texts, entry_before, collected, sections_of, field_character, fields_of}
use Rattle.doc_model.specs.Collected.{refs_of, is_auto}
use Rattle.doc_model.specs.TextLists.{cuts_of}
use Rattle.doc_model.specs.Carried.{ArePartsShort}
use Rattle.doc_model.specs.Formed.{IsFormed, carried_parts}
use Rattle.plain_doc.specs.RightDocument.{IsValidDocument}
use Rattle.doc_model.specs.Stretches.{stretches}
use Rattle.doc_model.proofs.Public.{length-cuts_from, are_stretches, collected_from}
use Rattle.full_save.specs.Text.{text_items, text_counts}
use Rattle.full_save.specs.Runs.{joins_run, runs_from, text_runs}
use Rattle.full_save.specs.Sections.{is_plain_section, sepx_bytes, sepxes, seds_from}
use Rattle.full_save.specs.TableStream.{table_entry_bytes, entries_bytes}
use Rattle.full_save.specs.WordDocument.{text_offset, text_bytes, document_runs, document_pages, pages_end, wd_body}
use Rattle.full_save.specs.WordDocument.{bin_table}
use Rattle.full_save.specs.WordDocument.{one_piece_clx, full_text, full_entries, table_stream}
use Rattle.full_save.specs.WordDocument.{first_character_page, first_paragraph_page}
use Rattle.full_save.proofs.EntryLengths.{length-printed}
use Rattle.full_save.proofs.MarkLengths.{fit_parts, short_names, short_starts, short_ends}
use Rattle.full_save.proofs.TextLaidOut.{few_items, whole_pages, length-pages, length-text}

-- ---- runs and pages

few_parts : (parts : List (List Item)) → All (λ part. 0 < length part) parts →
    length parts ≤ length (joined_texts parts)
few_parts [] some = omega arith
few_parts (part ∷ parts) some =
    let first = All-head (λ (p : List Item). 0 < length p) part parts some in
    let rest = few_parts parts (All-tail (λ (p : List Item). 0 < length p) part parts some) in
    omega (arith, first, rest, length-append part (joined_texts parts))

pub length-runs_from : (kind : PageKind) (at : ℕ) (parts : List (List Item)) →
    length (runs_from kind at parts) ≡ length parts
unfolding runs_from
length-runs_from kind at [] = refl
length-runs_from kind at (part ∷ parts) = ap suc (length-runs_from kind (at + 2 * length part) parts)

-- no more runs than items
pub few_runs : (kind : PageKind) (at : ℕ) (items : List Item) → length (text_runs kind at items) ≤ length items
few_runs kind at items =
    let parts = stretches (joins_run kind) items in
    let cut = are_stretches (joins_run kind) items in
    let few = few_parts parts cut.some in
    omega (arith, few, length-runs_from kind at parts, ap length cut.whole)

-- nor pages
pub few_pages : (kind : PageKind) (document : Document) → IsFormed document → IsValidDocument document →
    length (document_pages kind document).starts ≤ length (text_items document)
few_pages kind document formed right =
    let few = (whole_pages kind document formed right).few in
    omega (arith, few, few_runs kind text_offset (text_items document))

-- ---- sections

few_before : {A : Type 0} (o : Option A) (cp : ℕ) (rest : List (ℕ × A)) →
    length (entry_before o cp rest) ≤ length rest + 1
few_before None cp rest = omega arith
few_before (Some value) cp rest = omega arith

-- no more entries than items
pub few_collected : {A : Type 0} (what : Item → Option A) (from : ℕ) (items : List Item) →
    length (collected what from items) ≤ length items
unfolding collected
few_collected what from [] = omega arith
few_collected what from (item ∷ items) =
    let rest = few_collected what (from + 1) items in
    omega (arith, rest, few_before (what item) from (collected what (from + 1) items))

-- the zero behind bytes that are odd
abbrev pad_of : List ℕ → List ℕ
pad_of bytes = if length bytes % 2 == 0 then [] else 0 ∷ []

length-pad : (bytes : List ℕ) → length (pad_of bytes) ≤ 1
length-pad bytes =
    let none : List ℕ = [] in
    let one : List ℕ = 0 ∷ [] in
    cond_both (length bytes % 2 == 0) none one (λ (pad : List ℕ). length pad ≤ 1) (λ even. omega arith)
    (λ odd. omega arith)

length-counted : (bytes : List ℕ) → length (written_counted bytes) ≤ length bytes + 3
length-counted bytes =
    let pad = pad_of bytes in
    let a = length-append (number_bytes 2 (length bytes)) (bytes ++ pad) in
    let b = length-append bytes pad in
    omega (arith, a, b, length-number_bytes 2 (length bytes), length-pad bytes)

pub length-sepx : (properties : Properties) → length (printed_list properties) ≤ 500 → length (sepx_bytes properties) ≤
    503
length-sepx properties short =
    let none : List ℕ = [] in
    cond_both (is_plain_section properties) none (written_counted (printed_list properties))
    (λ (bytes : List ℕ). length bytes ≤ 503)
    (λ plain. omega arith) (λ listed. omega (arith, short, length-counted (printed_list properties)))

length-sepxes : (sections : List (ℕ × Properties)) →
    ((k : ℕ) (section : ℕ × Properties) → slice_get sections k ≡ Some section → length (printed_list section.1) ≤ 500) →
    length (sepxes sections) ≤ 503 * length sections
length-sepxes [] short = omega arith
length-sepxes (section ∷ sections) short =
    let first = length-sepx section.1 (short 0 section refl) in
    let rest = length-sepxes sections (λ k other here. short (suc k) other here) in
    omega (arith, first, rest, length-append (sepx_bytes section.1) (sepxes sections))

short_sections : (document : Document) → IsValidDocument document →
    length (sepxes (sections_of document.main)) ≤ 503 * length document.main
short_sections document right =
    let short : (k : ℕ) (section : ℕ × Properties) → slice_get (sections_of document.main) k ≡ Some section →
    length (printed_list section.1) ≤ 500 = λ k section here.
    let from = collected_from (λ (item : Item). item.sect) 0 document.main k section here in
    let item_short = (right.texts Main document.main refl).short from.index from.item from.here in
    item_short.sect section.1 from.has in
    let few = few_collected (λ (item : Item). item.sect) 0 document.main in
    omega (arith, few, length-sepxes (sections_of document.main) short)

-- ---- WordDocument

pub short_body : (document : Document) → IsFormed document → IsValidDocument document →
    length (wd_body document) < 2 ^ 30
unfolding wd_body
short_body document formed right =
    let text = text_bytes document in
    let chp = (document_pages Chpx document).bytes in
    let pap = (document_pages Papx document).bytes in
    let sepx = sepxes (sections_of document.main) in
    let few = few_items document right in
    let units = length-text document in
    let whole = length-padded 512 0 text (omega arith) in
    let a = length-append (padded_to_unit 512 0 text) (chp ++ (pap ++ sepx)) in
    let b = length-append chp (pap ++ sepx) in
    let c = length-append pap sepx in
    let chp_size = length-pages Chpx document formed right in
    let pap_size = length-pages Papx document formed right in
    let chp_few = few_pages Chpx document formed right in
    let pap_few = few_pages Papx document formed right in
    let sections = short_sections document right in
    omega (arith, few.all, few.stories, units, whole, a, b, c, chp_size, pap_size, chp_few, pap_few, sections)

-- ---- parts of the table stream

-- a part is shorter than this
pub record IsShortEntry (part : TableEntry) : Type 0 where
  pub short : length (table_entry_bytes part) ≤ 2 ^ 41

abbrev AreShortEntries : List TableEntry → Type 0
AreShortEntries [] = ⊤
AreShortEntries (part ∷ parts) = IsShortEntry part × AreShortEntries parts

short_entries : (parts : List TableEntry) → AreShortEntries parts →
    length (entries_bytes parts) ≤ 2 ^ 41 * length parts
short_entries [] short = omega arith
short_entries (part ∷ parts) short =
    let first = short.0.short in
    let rest = short_entries parts short.1 in
    omega (arith, first, rest, length-append (table_entry_bytes part) (entries_bytes parts))

short_entry : (number : ℕ) (bytes : List ℕ) → length bytes ≤ 2 ^ 41 → IsShortEntry (entry number bytes)
short_entry number bytes short = record { short = omega (arith, short, length-append bytes []) }

fields_short : (items : List Item) (len : ℕ) →
    length (printed_fields (fields_of items) len) ≤ 16 * length items + 4
fields_short items len =
    let make : ℕ × (ℕ × ℕ) → Fld = λ e. record { cp = e.0; unit = e.1.0; byte = e.1.1 } in
    let count = length-map (collected field_character 0 items) make in
    let few = few_collected field_character 0 items in
    omega (arith, count, few, length-printed fld_form 2 (fields_of items) len (λ fld. omega arith) (omega arith))

refs_short : (main : List Item) (len : ℕ) → length (printed_refs (refs_of main) len) ≤ 16 * length main + 4
refs_short main len =
    let note : Item → Option NoteKind = λ item. item.note in
    let make : ℕ × NoteKind → NoteRef = λ e. record { cp = e.0; auto = is_auto e.1 } in
    let count = length-map (collected note 0 main) make in
    let few = few_collected note 0 main in
    let each : (ref : NoteRef) → length (ref_form.bytes_of ref) ≤ 2 = λ ref.
    omega (arith, length-number_bytes 2 (if ref.auto then 1 else 0)) in
    omega (arith, count, few, length-printed ref_form 2 (refs_of main) len each (omega arith))

length-cuts_of : (joined : List Item) (texts : List (List Item)) → length (cuts_of joined texts) ≤ length texts + 1
length-cuts_of [] texts = omega arith
length-cuts_of (item ∷ items) texts = omega (arith, length-cuts_from 0 texts)

texts_short : (joined : List Item) (texts : List (List Item)) (len : ℕ) →
    length (printed_texts (cuts_of joined texts) len) ≤ 16 * length texts + 20
texts_short joined texts len =
    omega (
      arith,
      length-cuts_of joined texts,
      length-printed cut_form 0 (cuts_of joined texts) len
          (λ cp. omega arith) (omega arith),
    )

pub length-seds : (start place : ℕ) (sections : List (ℕ × Properties)) →
    length (seds_from start place sections) ≡ length sections
unfolding seds_from
length-seds start place [] = refl
length-seds start place (section ∷ sections) =
    ap suc (length-seds (section.0 + 1) (place + length (sepx_bytes section.1)) sections)

sections_short : (start place : ℕ) (main : List Item) (len : ℕ) →
    length (printed_sections (seds_from start place (sections_of main)) len) ≤ 16 * length main + 4
sections_short start place main len =
    let seds = seds_from start place (sections_of main) in
    let count = length-seds start place (sections_of main) in
    let few = few_collected (λ (item : Item). item.sect) 0 main in
    let each : (sed : Sed) → length (sed_form.bytes_of sed) ≤ 12 = λ sed.
    let front : List ℕ = replicate 2 0 in
    let back : List ℕ = replicate 6 0 in
    let a = length-append front (number_bytes 4 sed.sepx ++ back) in
    let b = length-append (number_bytes 4 sed.sepx) back in
    omega (arith, a, b, length-number_bytes 4 sed.sepx, length-replicate {A = ℕ} 2 0, length-replicate {A = ℕ} 6 0) in
    omega (arith, count, few, length-printed sed_form 12 seds len each (omega arith))

bins_short : (bins : List Bin) (end : ℕ) → length (printed_bin bins end) ≤ 8 * length bins + 4
bins_short bins end =
    let firsts : List ℕ = map (λ (bin : Bin). bin.first) bins in
    let pages : List ℕ = map (λ (bin : Bin). bin.page) bins in
    let a = length-append (u32_list_bytes (firsts ++ end ∷ [])) (u32_list_bytes pages) in
    let b = length-append firsts (end ∷ []) in
    let c = length-map bins (λ (bin : Bin). bin.first) in
    let d = length-map bins (λ (bin : Bin). bin.page) in
    omega (arith, a, b, c, d, length-numbers (firsts ++ end ∷ []), length-numbers pages)

table_short : (kind : PageKind) (document : Document) (number : ℕ) → IsFormed document → IsValidDocument document →
    length (bin_table kind (document_runs kind document) number) ≤ 8 * length (text_items document) + 4
table_short kind document number formed right =
    let starts = (document_pages kind document).starts in
    let bins = bins_short (numbered_bins number starts) (last_fc (document_runs kind document)) in
    omega (arith, bins, length-numbered_bins number starts, few_pages kind document formed right)

pub clx_short : (len : ℕ) → length (one_piece_clx len) ≤ 64
clx_short len =
    let pcd = pcd_bytes (record { at = text_offset; wide = true; len = len }) 0 in
    let cps = cps_of (len ∷ []) in
    let plc = plc_bytes (len ∷ []) (pcd ∷ []) in
    let a = length-append (number_bytes 4 (length plc)) plc in
    let b = length-append (u32_list_bytes cps) (flat_map (λ bytes. bytes) (pcd ∷ [])) in
    let c = length-append pcd [] in
    let number : List ℕ = number_bytes 4 text_offset in
    let d = length-append (number_bytes 2 0) (number ++ number_bytes 2 0) in
    let e = length-append number (number_bytes 2 0) in
    let two : length cps ≡ 2 = refl in
    omega (
      arith,
      a,
      b,
      c,
      d,
      e,
      two,
      length-numbers cps,
      length-number_bytes 4 (length plc),
      length-number_bytes 2 0,
      length-number_bytes 4 text_offset,
    )

-- ---- the sheet

slots_short : (istd : ℕ) (slots : List (Option Style)) →
    ((k : ℕ) → length (written_slot (istd + k) (slice_index_or slots k None)) ≤ 32767) →
    length (flat_map written_counted (written_slots istd slots)) ≤ 32770 * length slots
slots_short istd [] short = omega arith
slots_short istd (slot ∷ slots) short =
    let at : istd + 0 ≡ istd = omega arith in
    let first : length (written_slot istd slot) ≤ 32767 =
    subst (λ n. length (written_slot n slot) ≤ 32767) at (short 0) in
    let rest = slots_short (suc istd) slots (λ k.
    let next : istd + suc k ≡ suc istd + k = omega arith in
    subst (λ n. length (written_slot n (slice_index_or slots k None)) ≤ 32767) next (short (suc k))) in
    omega (
      arith,
      first,
      rest,
      length-counted (written_slot istd slot),
      length-append
          (written_counted (written_slot istd slot)) (flat_map written_counted (written_slots (suc istd) slots)),
    )

sheet_short : (sheet : Sheet) → IsFormedSheet sheet → IsWritable sheet → length (written_sheet sheet) ≤ 2 ^ 28
sheet_short sheet formed writable =
    let slots = flat_map written_counted (written_slots 0 sheet.styles) in
    let all = length-append (written_front sheet) slots in
    let head = length-table 2 sheet.head in
    let a = length-append (word 18) (word (length sheet.styles) ++ (word 10 ++ flat_map word sheet.head)) in
    let b = length-append (word (length sheet.styles)) (word 10 ++ flat_map word sheet.head) in
    let c = length-append (word 10) (flat_map word sheet.head) in
    let short = slots_short 0 sheet.styles (λ k.
    let at : k ≡ 0 + k = omega arith in
    subst (λ n. length (written_slot n (slice_index_or sheet.styles k None)) ≤ 32767) at (writable k)) in
    omega (
      arith,
      all,
      head,
      a,
      b,
      c,
      short,
      formed.head,
      formed.few,
      length-number_bytes 2 18,
      length-number_bytes 2
          (length sheet.styles),
      length-number_bytes 2 10,
    )

-- ---- what is carried

record AreShortParts (carried : Carried) : Type 0 where
  fonts : length carried.fonts < 2 ^ 40
  dop : length carried.dop < 2 ^ 40
  assoc : length carried.assoc < 2 ^ 40
  lst : length carried.lst < 2 ^ 40
  levels : length carried.levels < 2 ^ 40
  lfo : length carried.lfo < 2 ^ 40

carried_short : (carried : Carried) → ArePartsShort (carried_parts carried) → AreShortParts carried
carried_short carried short =
    let test : List ℕ → Bool = λ part. nat_lt (length part) (2 ^ 40) in
    let one =
    and_parts (test carried.fonts)
    (list_all test (carried.dop ∷ carried.assoc ∷ carried.lst ∷ carried.levels ∷ carried.lfo ∷ [])) short in
    let two =
    and_parts (test carried.dop) (list_all test (carried.assoc ∷ carried.lst ∷ carried.levels ∷ carried.lfo ∷ []))
    one.1 in
    let three =
    and_parts (test carried.assoc) (list_all test (carried.lst ∷ carried.levels ∷ carried.lfo ∷ [])) two.1 in
    let four = and_parts (test carried.lst) (list_all test (carried.levels ∷ carried.lfo ∷ [])) three.1 in
    let five = and_parts (test carried.levels) (list_all test (carried.lfo ∷ [])) four.1 in
    let six = and_parts (test carried.lfo) (list_all test []) five.1 in
    record {
      fonts = ltb-true (length carried.fonts) (2 ^ 40) one.0;
      dop = ltb-true (length carried.dop) (2 ^ 40) two.0;
      assoc = ltb-true (length carried.assoc) (2 ^ 40) three.0;
      lst = ltb-true (length carried.lst) (2 ^ 40) four.0;
      levels = ltb-true (length carried.levels) (2 ^ 40) five.0;
      lfo = ltb-true (length carried.lfo) (2 ^ 40) six.0;
    }

-- ---- the table stream

-- the parts behind those of bookmarks
abbrev last_entries : Document → List TableEntry
last_entries d =
    entry 31 d.carried.dop
    ∷ entry 32 d.carried.assoc
    ∷ entry 33 (full_text d).clx
    ∷ record { number = 73; bytes = d.carried.lst; behind = d.carried.levels }
    ∷ entry 74 d.carried.lfo
    ∷ []

pub short_table : (document : Document) → IsFormed document → IsValidDocument document →
    length (table_stream document) < 2 ^ 46
unfolding table_stream
short_table d formed right =
    let few = few_items d right in
    let part = carried_short d.carried formed.carried.parts in
    let fit = fit_parts d right in
    let notes = joined_texts d.notes in
    let heads = joined_texts d.heads in
    let main_few : length d.main ≤ 500000 = omega (arith, few.stories) in
    let main_len = slice_index (text_counts d) 0 in
    let note_len = slice_index (text_counts d) 1 in
    let head_len = slice_index (text_counts d) 2 in
    let back : AreShortEntries (last_entries d) = (
      short_entry 31 d.carried.dop (omega (arith, part.dop)),
      (
        short_entry 32 d.carried.assoc (omega (arith, part.assoc)),
        (
          short_entry 33 (full_text d).clx (omega (arith, clx_short (length (text_items d)))),
          (
            record {
              short = omega (arith, part.lst, part.levels, length-append d.carried.lst d.carried.levels);
            },
            (short_entry 74 d.carried.lfo (omega (arith, part.lfo)), tt),
          ),
        ),
      ),
    ) in
    let parts : AreShortEntries (full_entries d) = (
      short_entry 1 (written_sheet d.sheet) (omega (arith, sheet_short d.sheet formed.sheet right.writable)),
      (
        short_entry 2 (printed_refs (refs_of d.main) main_len) (omega (arith, main_few, refs_short d.main main_len)),
        (
          short_entry 3 (printed_texts (cuts_of notes d.notes) note_len)
              (omega (arith, formed.notes.few, texts_short notes d.notes note_len)),
          (
            short_entry 6 (printed_sections (seds_from 0 (pages_end d) (sections_of d.main)) main_len)
                (omega (arith, main_few, sections_short 0 (pages_end d) d.main main_len)),
            (
              short_entry 11 (printed_texts (cuts_of heads d.heads) head_len)
                  (omega (arith, formed.heads.few, texts_short heads d.heads head_len)),
              (
                short_entry 12 (full_text d).characters
                    (omega (arith, few.all, table_short Chpx d (first_character_page d) formed right)),
                (
                  short_entry 13 (full_text d).paragraphs
                      (omega (arith, few.all, table_short Papx d (first_paragraph_page d) formed right)),
                  (
                    short_entry 15 d.carried.fonts (omega (arith, part.fonts)),
                    (
                      short_entry 16 (printed_fields (fields_of d.main) main_len)
                          (omega (arith, main_few, fields_short d.main main_len)),
                      (
                        short_entry 17 (printed_fields (fields_of heads) head_len)
                            (omega (arith, few.heads, fields_short heads head_len)),
                        (
                          short_entry 18 (printed_fields (fields_of notes) note_len)
                              (omega (arith, few.notes, fields_short notes note_len)),
                          (
                            short_entry 21 (printed_names d.bookmarks) (omega (arith, short_names d.bookmarks fit)),
                            (
                              short_entry 22 (printed_starts d.bookmarks main_len)
                                  (omega (arith, short_starts d.bookmarks main_len fit)),
                              (
                                short_entry 23 (printed_ends d.bookmarks main_len)
                                    (omega (arith, short_ends d.bookmarks main_len fit)),
                                back,
                              ),
                            ),
                          ),
                        ),
                      ),
                    ),
                  ),
                ),
              ),
            ),
          ),
        ),
      ),
    ) in
    omega (arith, short_entries (full_entries d) parts)
