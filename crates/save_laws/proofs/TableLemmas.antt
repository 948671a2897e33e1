-- The table streams of a document differ by their bin tables and their Clx alone: every other part has one length.
use Rattle.std.specs.Prelude.{replicate, slice_index}
use Rattle.std.specs.List.{flat_map}
use Rattle.std.proofs.Common.{◌≡◌, ℕ, ◌+◌, ◌*◌, List, [], ◌∷◌, ◌++◌, length, map, refl, arith}
use Rattle.std.proofs.Common.{length-append}
use Rattle.std.proofs.lemmas.List.{length-map, length-replicate}
use Rattle.doc_bits.specs.Number.{number_bytes, u32_list_bytes}
use Rattle.doc_bits.specs.Plc.{printed_plc}
use Rattle.doc_bits.proofs.Public.{length-number_bytes, length-numbers}
use Rattle.fib_form.specs.TableEntries.{TableEntry, entry}
use Rattle.fib_form.specs.TableParts.{pair_number}
use Rattle.fib_form.specs.declared.table_parts.TablePart.TheVariants.{PlcffndRef, PlcffndTxt, PlcfSed, PlcfHdd}
use Rattle.fib_form.specs.declared.table_parts.TablePart.TheVariants.{PlcfBteChpx}
use Rattle.fib_form.specs.declared.table_parts.TablePart.TheVariants.{PlcfBtePapx, PlcfFldMom, PlcfFldHdr, PlcfFldFtn}
use Rattle.fib_form.specs.declared.table_parts.TablePart.TheVariants.{PlcfBkf, PlcfBkl, Clx}
use Rattle.doc_parts.specs.declared.lists.Sed.{Sed}
use Rattle.doc_parts.specs.Table.{EntryForm, printed_entries}
use Rattle.doc_parts.specs.Sections.{sed_form, printed_sections}
use Rattle.doc_parts.specs.Fields.{fld_form, printed_fields}
use Rattle.doc_parts.specs.Stories.{ref_form, cut_form, printed_refs, printed_texts}
use Rattle.doc_parts.specs.PrintedBookmarks.{bookmark_ends, starts_of, start_form, printed_starts, printed_ends}
use Rattle.doc_model.specs.declared.document.Document.{Document}
use Rattle.doc_model.specs.Collected.{joined_texts, sections_of, fields_of, refs_of}
use Rattle.doc_model.specs.TextLists.{cuts_of}
use Rattle.full_save.specs.declared.table_text.TableText.{TableText}
use Rattle.full_save.specs.TableText.{table_entries}
use Rattle.full_save.specs.TableStream.{table_entry_bytes, entries_bytes}
use Rattle.full_save.specs.WordDocument.{full_text, pages_end, table_stream}
use Rattle.full_save.proofs.Public.{length-seds as length-full_seds}
use Rattle.save_laws.specs.TableLengths.{TablesDifferByOwnParts, TablesAreShort}

-- ---- printed tables

-- the last CP does not count
plc_ends : (cps : List ℕ) (one other : ℕ) (parts : List (List ℕ)) →
    length (printed_plc cps one parts) ≡ length (printed_plc cps other parts)
plc_ends [] one other parts = refl
plc_ends (cp ∷ cps) one other parts =
    let rest = flat_map (λ (part : List ℕ). part) parts in
    omega (
      arith,
      length-append (u32_list_bytes (cp ∷ cps)) (number_bytes 4 one ++ rest),
      length-append (number_bytes 4 one) rest,
      length-append (u32_list_bytes (cp ∷ cps)) (number_bytes 4 other ++ rest),
      length-append (number_bytes 4 other) rest,
      length-number_bytes 4 one,
      length-number_bytes 4 other,
    )

entries_end : {E : Type 0} (form : EntryForm E) (list : List E) (one other : ℕ) →
    length (printed_entries form list one) ≡ length (printed_entries form list other)
entries_end form list one other = plc_ends (map form.cp_of list) one other (map form.bytes_of list)

-- the bytes of a Sed
length-sed : (sed : Sed) → length (sed_form.bytes_of sed) ≡ 12
length-sed sed =
    let front : List ℕ = replicate 2 0 in
    let back : List ℕ = replicate 6 0 in
    omega (
      arith,
      length-append front (number_bytes 4 sed.sepx ++ back),
      length-append (number_bytes 4 sed.sepx) back,
      length-number_bytes 4 sed.sepx,
      length-replicate {A = ℕ} 2 0,
      length-replicate {A = ℕ} 6 0,
    )

length-sed_bytes : (seds : List Sed) →
    length (flat_map (λ (part : List ℕ). part) (map sed_form.bytes_of seds)) ≡ 12 * length seds
length-sed_bytes [] = refl
length-sed_bytes (sed ∷ seds) =
    omega (
      arith,
      length-append (sed_form.bytes_of sed) (flat_map (λ (part : List ℕ). part) (map sed_form.bytes_of seds)),
      length-sed sed,
      length-sed_bytes seds,
    )

-- some sections
length-seds : (sed : Sed) (seds : List Sed) (end : ℕ) →
    length (printed_sections (sed ∷ seds) end) ≡ 20 + 16 * length seds
length-seds sed seds end =
    let cps : List ℕ = map sed_form.cp_of (sed ∷ seds) in
    let rest = flat_map (λ (part : List ℕ). part) (map sed_form.bytes_of (sed ∷ seds)) in
    omega (
      arith,
      length-append (u32_list_bytes cps) (number_bytes 4 end ++ rest),
      length-append (number_bytes 4 end) rest,
      length-numbers cps,
      length-map (sed ∷ seds) sed_form.cp_of,
      length-number_bytes 4 end,
      length-sed_bytes (sed ∷ seds),
    )

sections_alike : (one other : List Sed) (end last : ℕ) → length one ≡ length other →
    length (printed_sections one end) ≡ length (printed_sections other last)
sections_alike [] [] end last same = refl
sections_alike [] (sed ∷ seds) end last same = absurd (omega (arith, same))
sections_alike (sed ∷ seds) [] end last same = absurd (omega (arith, same))
sections_alike (sed ∷ seds) (next ∷ others) end last same =
    omega (arith, same, length-seds sed seds end, length-seds next others last)

-- ---- the parts

-- nothing is behind most parts
whole : (bytes : List ℕ) → length (bytes ++ []) ≡ length bytes
whole bytes = omega (arith, length-append bytes [])

-- two lists of parts differ in length as these numbers do
record Differ (one other : List TableEntry) (a b : ℕ) : Type 0 where
  by : length (entries_bytes one) + b ≡ length (entries_bytes other) + a

none : Differ [] [] 0 0
none = record { by = refl }

alike : {one other : List TableEntry} {a b : ℕ} (part next : TableEntry) →
    length (table_entry_bytes part) ≡ length (table_entry_bytes next) → Differ one other a b →
    Differ (part ∷ one) (next ∷ other) a b
alike {one = one} {other = other} part next same rest = record {
  by =
      omega (
        arith,
        same,
        rest.by,
        length-append (table_entry_bytes part) (entries_bytes one),
        length-append (table_entry_bytes next) (entries_bytes other),
      );
}

-- such a part of both counts
own : {one other : List TableEntry} {a b : ℕ} (number : ℕ) (bytes others : List ℕ) → Differ one other a b →
    Differ (entry number bytes ∷ one) (entry number others ∷ other) (length bytes + a) (length others + b)
own {one = one} {other = other} number bytes others rest = record {
  by =
      omega (
        arith,
        rest.by,
        whole bytes,
        whole others,
        length-append (bytes ++ []) (entries_bytes one),
        length-append (others ++ []) (entries_bytes other),
      );
}

-- a part of both has one length
shared : {one other : List TableEntry} {a b : ℕ} (number : ℕ) (bytes others : List ℕ) →
    length bytes ≡ length others → Differ one other a b →
    Differ (entry number bytes ∷ one) (entry number others ∷ other) a b
shared number bytes others same rest =
    alike (entry number bytes) (entry number others) (omega (arith, same, whole bytes, whole others)) rest

parts_differ : (document : Document) (one other : TableText) → length one.seds ≡ length other.seds →
    Differ (table_entries document one) (table_entries document other)
    (length one.characters + (length one.paragraphs + (length one.clx + 0)))
    (length other.characters + (length other.paragraphs + (length other.clx + 0)))
parts_differ document one other same =
    let main = document.main in
    let notes = joined_texts document.notes in
    let heads = joined_texts document.heads in
    let refs = refs_of main in
    let note_cuts = cuts_of notes document.notes in
    let head_cuts = cuts_of heads document.heads in
    let marks = document.bookmarks in
    let c0 = slice_index one.counts 0 in
    let c1 = slice_index one.counts 1 in
    let c2 = slice_index one.counts 2 in
    let d0 = slice_index other.counts 0 in
    let d1 = slice_index other.counts 1 in
    let d2 = slice_index other.counts 2 in
    alike _ _ refl
    (shared (pair_number PlcffndRef) (printed_refs refs c0) (printed_refs refs d0)
    (entries_end ref_form refs c0 d0)
    (shared (pair_number PlcffndTxt) (printed_texts note_cuts c1) (printed_texts note_cuts d1)
    (entries_end cut_form note_cuts c1 d1)
    (shared (pair_number PlcfSed) (printed_sections one.seds c0) (printed_sections other.seds d0)
    (sections_alike one.seds other.seds c0 d0 same)
    (shared (pair_number PlcfHdd) (printed_texts head_cuts c2) (printed_texts head_cuts d2)
    (entries_end cut_form head_cuts c2 d2)
    (own (pair_number PlcfBteChpx) one.characters other.characters
    (own (pair_number PlcfBtePapx) one.paragraphs other.paragraphs
    (alike _ _ refl
    (shared (pair_number PlcfFldMom) (printed_fields (fields_of main) c0) (printed_fields (fields_of main) d0)
    (entries_end fld_form (fields_of main) c0 d0)
    (shared (pair_number PlcfFldHdr) (printed_fields (fields_of heads) c2) (printed_fields (fields_of heads) d2)
    (entries_end fld_form (fields_of heads) c2 d2)
    (shared (pair_number PlcfFldFtn) (printed_fields (fields_of notes) c1) (printed_fields (fields_of notes) d1)
    (entries_end fld_form (fields_of notes) c1 d1)
    (alike _ _ refl
    (shared (pair_number PlcfBkf) (printed_starts marks c0) (printed_starts marks d0)
    (entries_end start_form (starts_of marks [] marks) c0 d0)
    (shared (pair_number PlcfBkl) (printed_ends marks c0) (printed_ends marks d0)
    (entries_end cut_form (bookmark_ends marks) c0 d0)
    (alike _ _ refl
    (alike _ _ refl
    (own (pair_number Clx) one.clx other.clx
    (alike _ _ refl
    (alike _ _ refl none))))))))))))))))))

pub tables_differ_by_own_parts : TablesDifferByOwnParts
tables_differ_by_own_parts document one other same =
    let differ = (parts_differ document one other same).by in
    omega (arith, differ)

pub tables_are_short : TablesAreShort
unfolding table_stream
tables_are_short document text same =
    let sections = sections_of document.main in
    let full = full_text document in
    let differ = tables_differ_by_own_parts document text full
    (omega (arith, same, length-full_seds 0 (pages_end document) sections)) in
    omega (arith, differ)
