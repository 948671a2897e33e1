-- How long the parts of the table stream are, and the stream.
use Rattle.std.specs.Prelude.{slice_index, All, is_some, option_map, sum_by, max, replicate}
use Rattle.std.specs.Prelude.{if◌then◌else◌, ◌==◌}
use Rattle.std.specs.List.{flat_map}
use Rattle.std.proofs.Common.{◌≡◌, ◌≢◌, ◌∙◌, refl, ap, ℕ, ◌+◌, ◌*◌, List, [], ◌∷◌, ◌++◌, length, map}
use Rattle.std.proofs.Common.{sym, true, Option, Some, None, arith, length-append, eqb-true}
use Rattle.std.proofs.lemmas.Bool.{cond_both}
use Rattle.std.proofs.lemmas.List.{length-map, length-replicate}
use Rattle.std.proofs.lemmas.List.Sums.{sum_by-cons}
use Rattle.std.proofs.lemmas.List.Elements.{All-nil, All-cons}
use Rattle.doc_bits.specs.Number.{number_bytes, u32_list_bytes}
use Rattle.doc_bits.specs.Plc.{printed_plc}
use Rattle.doc_bits.proofs.Public.{length-number_bytes, length-numbers, length-joined}
use Rattle.cfb_layout.specs.Sectors.{units_for, padded_to_unit}
use Rattle.cfb_layout.proofs.Public.{length-table, length-padded}
use Rattle.fib_form.specs.TableEntries.{TableEntry}
use Rattle.fkp_pages.specs.declared.kind.PageKind.{PageKind}
use Rattle.fkp_pages.specs.declared.kind.PageKind.TheVariants.{Chpx, Papx}
use Rattle.fkp_pages.specs.declared.lists.Bin.{Bin}
use Rattle.fkp_pages.specs.PageBytes.{last_fc}
use Rattle.fkp_pages.specs.Packed.{pages_of}
use Rattle.fkp_pages.specs.InARow.{numbered_bins}
use Rattle.fkp_pages.proofs.Public.{length-numbered_bins}
use Rattle.piece_table.specs.Printing.{pcd_bytes, cps_of, plc_bytes}
use Rattle.style_sheet.specs.Written.{written_sheet}
use Rattle.doc_parts.specs.Table.{EntryForm, printed_entries}
use Rattle.doc_parts.specs.declared.lists.Sed.{Sed}
use Rattle.doc_parts.specs.declared.lists.Fld.{Fld}
use Rattle.doc_parts.specs.declared.lists.NoteRef.{NoteRef}
use Rattle.document_bookmarks.specs.declared.bookmark_order.Bookmark.{Bookmark}
use Rattle.doc_parts.specs.declared.bookmark_print.Start.{Start}
use Rattle.doc_parts.specs.Sections.{sed_form, printed_sections}
use Rattle.doc_parts.specs.Fields.{fld_form, printed_fields}
use Rattle.doc_parts.specs.Stories.{ref_form, cut_form, printed_refs, printed_texts}
use Rattle.doc_parts.specs.PrintedBookmarks.{names_front, names_bytes, printed_names, bookmark_ends, start_form}
use Rattle.doc_parts.specs.PrintedBookmarks.{starts_of}
use Rattle.doc_parts.specs.PrintedBookmarks.{printed_starts, printed_ends}
use Rattle.doc_parts.proofs.Public.{length-ends, length-front, length-starts}
use Rattle.doc_model.specs.declared.item.Item.{Item}
use Rattle.doc_model.specs.declared.item.NoteKind.{NoteKind}
use Rattle.doc_model.specs.declared.carried.Carried.{Carried}
use Rattle.doc_model.specs.declared.document.Document.{Document}
use Rattle.doc_model.specs.Collected.{joined_texts, collected, field_character, fields_of, refs_of, sections_of}
use Rattle.doc_model.specs.Collected.{is_auto}
use Rattle.doc_model.specs.TextLists.{cuts_of}
use Rattle.doc_model.specs.Formed.{IsFormed}
use Rattle.plain_doc.specs.RightDocument.{IsValidDocument}
use Rattle.doc_model.proofs.Public.{length-cuts_from}
use Rattle.doc_columns.specs.Attached.{attached_of}
use Rattle.full_save.specs.declared.measures.Measure.TheVariants.{Notes, Sections, Fields, SepxBytes}
use Rattle.full_save.specs.declared.lengths.PageCounts.{PageCounts}
use Rattle.full_save.specs.declared.made_parts.MadeParts.{MadeParts}
use Rattle.full_save.specs.declared.table_text.TableText.{TableText}
use Rattle.full_save.specs.declared.text.SavedText.{SavedText}
use Rattle.full_save.specs.RunsSoFar.{IsSavedTextOf}
use Rattle.full_save.specs.Sections.{seds_from, sepxes}
use Rattle.full_save.specs.Text.{text_items}
use Rattle.full_save.specs.TableStream.{table_entry_bytes, entries_bytes}
use Rattle.full_save.specs.WordDocument.{text_offset, text_bytes, document_runs, document_pages, pages_end, wd_body}
use Rattle.full_save.specs.WordDocument.{wd_stream}
use Rattle.full_save.specs.WordDocument.{bin_table, one_piece_clx, full_text, table_stream, least_length}
use Rattle.full_save.specs.WordDocument.{first_character_page, first_paragraph_page}
use Rattle.full_save.specs.Made.{AreMadeOf, made_entries, made_length, carried_length}
use Rattle.full_save.specs.Lengths.{one_if, measured, text_measure, plc_length}
use Rattle.full_save.specs.Lengths.{bookmark_name_length, bookmarks_length, pages_counted, table_length, wd_length}
use Rattle.full_save.proofs.LayoutLemmas.{length-wd_stream}
use Rattle.full_save.proofs.MadeLemmas.{made_are}
use Rattle.full_save.proofs.MeasureLemmas.{length-collected, length-sepxes_from}
use Rattle.full_save.proofs.StreamLengths.{length-seds}
use Rattle.full_save.proofs.TextLaidOut.{few_items, length-pages, length-text}

-- ---- tables of CPs

-- where there are some
zero_else : (n value : ℕ) → n ≢ 0 → (if n == 0 then 0 else value) ≡ value
zero_else n value some =
    cond_both (n == 0) 0 value (λ (k : ℕ). k ≡ value) (λ none. absurd (some (eqb-true n 0 none))) (λ more. refl)

not_none : {A : Type 0} (x : A) (xs : List A) → length (x ∷ xs) ≢ 0
not_none x xs = λ none. absurd (omega (arith, none))

plc_long : (cps : List ℕ) (end : ℕ) (entries : List (List ℕ)) →
    length (printed_plc cps end entries) ≡ plc_length (length cps) (length (flat_map (λ bytes. bytes) entries))
plc_long [] end entries = refl
plc_long (cp ∷ cps) end entries =
    let rest = number_bytes 4 end ++ flat_map (λ bytes. bytes) entries in
    let a = length-append (u32_list_bytes (cp ∷ cps)) rest in
    let b = length-append (number_bytes 4 end) (flat_map (λ bytes. bytes) entries) in
    let count = length (cp ∷ cps) in
    let size = length (flat_map (λ bytes. bytes) entries) in
    omega (
      arith,
      a,
      b,
      length-numbers (cp ∷ cps),
      length-number_bytes 4 end,
      zero_else count (4 * count + 4 + size) (not_none cp cps),
    )

all_sized : {E : Type 0} (bytes_of : E → List ℕ) (size : ℕ) (list : List E) →
    ((e : E) → length (bytes_of e) ≡ size) → All (λ (part : List ℕ). length part ≡ size) (map bytes_of list)
all_sized bytes_of size [] each = All-nil (λ (part : List ℕ). length part ≡ size)
all_sized bytes_of size (e ∷ list) each =
    All-cons (λ (part : List ℕ). length part ≡ size) (bytes_of e) (map bytes_of list) (each e)
    (all_sized bytes_of size list each)

-- a table of entries of one size
pub table_long : {E : Type 0} (form : EntryForm E) (size : ℕ) (list : List E) (end count : ℕ) →
    ((e : E) → length (form.bytes_of e) ≡ size) → length list ≡ count →
    length (printed_entries form list end) ≡ plc_length count (count * size)
table_long form size list end count each long =
    let cps : length (map form.cp_of list) ≡ count = length-map list form.cp_of ∙ long in
    let parts : length (flat_map (λ bytes. bytes) (map form.bytes_of list)) ≡ count * size =
    length-joined size (map form.bytes_of list) (all_sized form.bytes_of size list each)
    ∙ ap (λ (n : ℕ). n * size) (length-map list form.bytes_of ∙ long) in
    plc_long (map form.cp_of list) end (map form.bytes_of list) ∙ (λ i. plc_length (cps i) (parts i))

-- ---- each part

some_field : (item : Item) → one_if (is_some (field_character item)) ≡ measured Fields (attached_of item)
some_field item = by_fld item.unit item.fld
  where
    by_fld : (unit : ℕ) (fld : Option ℕ) →
        one_if (is_some {T = ℕ × ℕ} (option_map (λ byte. (unit, byte)) fld)) ≡ one_if (is_some fld)
    by_fld unit None = refl
    by_fld unit (Some byte) = refl

pub fields_long : (items : List Item) (end : ℕ) →
    length (printed_fields (fields_of items) end)
    ≡ plc_length (text_measure Fields items) (2 * text_measure Fields items)
fields_long items end =
    let make : ℕ × (ℕ × ℕ) → Fld = λ e. record { cp = e.0; unit = e.1.0; byte = e.1.1 } in
    let count = length-map (collected field_character 0 items) make
    ∙ length-collected field_character (λ (item : Item). measured Fields (attached_of item)) 0 items some_field in
    let n = text_measure Fields items in
    table_long fld_form 2 (fields_of items) end n (λ fld. refl) count ∙ ap (plc_length n) (omega arith)

pub refs_long : (main : List Item) (end : ℕ) →
    length (printed_refs (refs_of main) end) ≡ plc_length (text_measure Notes main) (2 * text_measure Notes main)
refs_long main end =
    let note : Item → Option NoteKind = λ item. item.note in
    let make : ℕ × NoteKind → NoteRef = λ e. record { cp = e.0; auto = is_auto e.1 } in
    let count = length-map (collected note 0 main) make
    ∙ length-collected note (λ (item : Item). measured Notes (attached_of item)) 0 main (λ item. refl) in
    let n = text_measure Notes main in
    table_long ref_form 2 (refs_of main) end n
    (λ reference. length-number_bytes 2 (if reference.auto then 1 else 0)) count
    ∙ ap (plc_length n) (omega arith)

pub sections_long : (main : List Item) (place end : ℕ) →
    length (printed_sections (seds_from 0 place (sections_of main)) end)
    ≡ plc_length (text_measure Sections main) (12 * text_measure Sections main)
sections_long main place end =
    let seds = seds_from 0 place (sections_of main) in
    let count = length-seds 0 place (sections_of main)
    ∙ length-collected (λ (item : Item). item.sect) (λ (item : Item). measured Sections (attached_of item)) 0 main
    (λ item. refl) in
    let n = text_measure Sections main in
    let each : (sed : Sed) → length (sed_form.bytes_of sed) ≡ 12 = λ sed.
    let front : List ℕ = replicate 2 0 in
    let back : List ℕ = replicate 6 0 in
    let a = length-append front (number_bytes 4 sed.sepx ++ back) in
    let b = length-append (number_bytes 4 sed.sepx) back in
    omega (arith, a, b, length-number_bytes 4 sed.sepx, length-replicate {A = ℕ} 2 0, length-replicate {A = ℕ} 6 0) in
    table_long sed_form 12 seds end n each count ∙ ap (plc_length n) (omega arith)

cuts_count : (joined : List Item) (texts : List (List Item)) →
    length (cuts_of joined texts) ≡ (if length joined == 0 then 0 else length texts + 1)
cuts_count [] texts = refl
cuts_count (item ∷ items) texts =
    omega (
      arith,
      length-cuts_from 0 texts,
      zero_else (length (item ∷ items)) (length texts + 1) (not_none item items),
    )

pub cuts_long : (texts : List (List Item)) (end : ℕ) →
    let joined = joined_texts texts in
    length (printed_texts (cuts_of joined texts) end)
    ≡ plc_length (if length joined == 0 then 0 else length texts + 1) 0
cuts_long texts end =
    let joined = joined_texts texts in
    let n = if length joined == 0 then 0 else length texts + 1 in
    table_long cut_form 0 (cuts_of joined texts) end n (λ cp. refl) (cuts_count joined texts)
    ∙ ap (plc_length n) (omega arith)

bin_long : (kind : PageKind) (document : Document) (number : ℕ) →
    length (bin_table kind (document_runs kind document) number) ≡ 8 * length (document_pages kind document).starts + 4
bin_long kind document number =
    let starts = (document_pages kind document).starts in
    let bins = numbered_bins number starts in
    let end = last_fc (document_runs kind document) in
    let firsts : List ℕ = map (λ (bin : Bin). bin.first) bins in
    let pages : List ℕ = map (λ (bin : Bin). bin.page) bins in
    let a = length-append (u32_list_bytes (firsts ++ end ∷ [])) (u32_list_bytes pages) in
    let b = length-append firsts (end ∷ []) in
    let c = length-map bins (λ (bin : Bin). bin.first) in
    let d = length-map bins (λ (bin : Bin). bin.page) in
    omega (
      arith,
      a,
      b,
      c,
      d,
      length-numbers (firsts ++ end ∷ []),
      length-numbers pages,
      length-numbered_bins number starts,
    )

names_long : (bookmarks : List Bookmark) → length (names_bytes bookmarks) ≡ sum_by bookmark_name_length bookmarks
names_long [] = refl
names_long (b ∷ bs) =
    let count : List ℕ = number_bytes 2 (length b.name) in
    let units : List ℕ = flat_map (number_bytes 2) b.name in
    omega (
      arith,
      names_long bs,
      sum_by-cons bookmark_name_length b bs,
      length-append (count ++ units) (names_bytes bs),
      length-append count units,
      length-number_bytes 2 (length b.name),
      length-table 2 b.name,
    )

all_names_long : (bookmarks : List Bookmark) →
    length (printed_names bookmarks) ≡ (if length bookmarks == 0 then 0 else 6 + sum_by bookmark_name_length bookmarks)
all_names_long [] = refl
all_names_long (b ∷ bs) =
    let list : List Bookmark = b ∷ bs in
    omega (
      arith,
      length-front (length list),
      names_long list,
      length-append (names_front (length list)) (names_bytes list),
      zero_else (length list) (6 + sum_by bookmark_name_length list) (not_none b bs),
    )

pub bookmarks_long : (bookmarks : List Bookmark) (end : ℕ) →
    length (printed_names bookmarks) + length (printed_starts bookmarks end) + length (printed_ends bookmarks end)
    ≡ bookmarks_length bookmarks
bookmarks_long bookmarks end =
    let n = length bookmarks in
    let each : (start : Start) → length (start_form.bytes_of start) ≡ 4 = λ start.
    let index : List ℕ = number_bytes 2 start.index in
    let flags : List ℕ = number_bytes 2 start.flags in
    omega (arith, length-append index flags, length-number_bytes 2 start.index, length-number_bytes 2 start.flags) in
    let starts =
    table_long start_form 4 (starts_of bookmarks [] bookmarks) end n each (length-starts bookmarks [] bookmarks)
    ∙ ap (plc_length n) (omega arith) in
    let ends =
    table_long cut_form 0 (bookmark_ends bookmarks) end n (λ cp. refl) (length-ends bookmarks)
    ∙ ap (plc_length n) (omega arith) in
    λ i. all_names_long bookmarks i + starts i + ends i

clx_long : (len : ℕ) → length (one_piece_clx len) ≡ 21
clx_long len =
    let pcd = pcd_bytes (record { at = text_offset; wide = true; len = len }) 0 in
    let cps = cps_of (len ∷ []) in
    let plc = plc_bytes (len ∷ []) (pcd ∷ []) in
    let a = length-append (number_bytes 4 (length plc)) plc in
    let b = length-append (u32_list_bytes cps) (flat_map (λ bytes. bytes) (pcd ∷ [])) in
    let c = length-append pcd [] in
    let number : List ℕ = number_bytes 4 text_offset in
    let d = length-append (number_bytes 2 0) (number ++ number_bytes 2 0) in
    let e = length-append number (number_bytes 2 0) in
    let two : length cps ≡ 2 = refl in
    omega (
      arith,
      a,
      b,
      c,
      d,
      e,
      two,
      length-numbers cps,
      length-number_bytes 4 (length plc),
      length-number_bytes 2 0,
      length-number_bytes 4 text_offset,
    )

-- ---- the table stream

-- the parts that are made of a document
abbrev made_of : Document → MadeParts
made_of d =
    let text = full_text d in
    let main = slice_index text.counts 0 in
    let notes = slice_index text.counts 1 in
    let heads = slice_index text.counts 2 in
    record {
      sheet = written_sheet d.sheet;
      refs = printed_refs (refs_of d.main) main;
      note_cuts = printed_texts (cuts_of (joined_texts d.notes) d.notes) notes;
      sections = printed_sections text.seds main;
      head_cuts = printed_texts (cuts_of (joined_texts d.heads) d.heads) heads;
      fields = record {
        main = printed_fields (fields_of d.main) main;
        heads = printed_fields (fields_of (joined_texts d.heads)) heads;
        notes = printed_fields (fields_of (joined_texts d.notes)) notes;
      };
      marks = record {
        names = printed_names d.bookmarks;
        starts = printed_starts d.bookmarks main;
        ends = printed_ends d.bookmarks main;
      };
    }

entries-cons : (part : TableEntry) (parts : List TableEntry) →
    length (entries_bytes (part ∷ parts)) ≡ length part.bytes + length part.behind + length (entries_bytes parts)
entries-cons part parts =
    omega (arith, length-append (table_entry_bytes part) (entries_bytes parts), length-append part.bytes part.behind)

-- all parts one after the other
pub made_long : (carried : Carried) (text : TableText) (made : MadeParts) →
    length (entries_bytes (made_entries carried text made))
    ≡ made_length made + (length text.characters + length text.paragraphs + length text.clx) + carried_length carried
made_long carried text made = rw (
  entries-cons,
  entries-cons,
  entries-cons,
  entries-cons,
  entries-cons,
  entries-cons,
  entries-cons,
  entries-cons,
  entries-cons,
  entries-cons,
  entries-cons,
  entries-cons,
  entries-cons,
  entries-cons,
  entries-cons,
  entries-cons,
  entries-cons,
  entries-cons,
  entries-cons,
) (omega arith)

made_so : (d : Document) → AreMadeOf d (full_text d) (made_of d)
made_so d = record {
  sheet = refl;
  refs = refl;
  note_cuts = refl;
  sections = refl;
  head_cuts = refl;
  fields = record { main = refl; heads = refl; notes = refl };
  marks = record { names = refl; starts = refl; ends = refl };
}

table_stream_long : (d : Document) → length (table_stream d) ≡ table_length d (pages_counted d)
unfolding table_stream
table_stream_long d =
    let text = full_text d in
    let main = slice_index text.counts 0 in
    let notes = slice_index text.counts 1 in
    let heads = slice_index text.counts 2 in
    let same = ap (λ (parts : List TableEntry). length (entries_bytes parts))
    (made_are d text (made_of d) (made_so d)) in
    omega (
      arith,
      same,
      made_long d.carried text (made_of d),
      refs_long d.main main,
      sections_long d.main (pages_end d) main,
      fields_long d.main main,
      cuts_long d.notes notes,
      fields_long (joined_texts d.notes) notes,
      cuts_long d.heads heads,
      fields_long (joined_texts d.heads) heads,
      bin_long Chpx d (first_character_page d),
      bin_long Papx d (first_paragraph_page d),
      bookmarks_long d.bookmarks main,
      clx_long (length (text_items d)),
    )

-- the same, of a document as it is seen
pub seen_long : (d seen : Document) (pages : PageCounts) → seen ≡ d → pages ≡ pages_counted d →
    length (table_stream d) ≡ table_length seen pages
seen_long d seen pages same counted = table_stream_long d ∙ sym (λ i. table_length (same i) (counted i))

-- ---- WordDocument

pub wd_stream_long : (d : Document) → IsFormed d → IsValidDocument d →
    length (wd_stream d) ≡ wd_length (length (text_items d)) (pages_counted d) d.main
unfolding wd_body
wd_stream_long d formed right =
    let text = text_bytes d in
    let chp = (document_pages Chpx d).bytes in
    let pap = (document_pages Papx d).bytes in
    let sepx = sepxes (sections_of d.main) in
    let few = few_items d right in
    let units = length-text d in
    let whole : length (padded_to_unit 512 0 text) ≡ units_for 512 (2 * length (text_items d)) * 512 =
    length-padded 512 0 text (omega arith) ∙ ap (λ (n : ℕ). units_for 512 n * 512) units in
    let all : length (wd_body d)
    ≡ 512 * (units_for 512 (2 * length (text_items d)) + length (document_pages Chpx d).starts
    + length (document_pages Papx d).starts) + text_measure SepxBytes d.main =
    omega (
      arith,
      whole,
      length-append (padded_to_unit 512 0 text) (chp ++ (pap ++ sepx)),
      length-append chp (pap ++ sepx),
      length-append pap sepx,
      length-pages Chpx d formed right,
      length-pages Papx d formed right,
      length-sepxes_from 0 d.main,
    ) in
    length-wd_stream d ∙ ap (λ (n : ℕ). max (text_offset + n) least_length) all

-- the pages of its runs are those of the document
pub runs_counted : (d : Document) (text : SavedText) → IsSavedTextOf d text →
    record {
      characters = length (pages_of Chpx text.characters).starts;
      paragraphs = length (pages_of Papx text.paragraphs).starts;
    }
    ≡ pages_counted d
runs_counted d text is = λ i. record {
  characters = length (pages_of Chpx (is.characters i)).starts;
  paragraphs = length (pages_of Papx (is.paragraphs i)).starts;
}
