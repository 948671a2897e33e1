-- A file that holds a document, as a session begins with it.
use Rattle.std.specs.Prelude.{ℕ, List}
use Rattle.std.proofs.Common.{◌≡◌, ◌+◌, ◌≤◌, refl, subst, length, arith}
use Rattle.std.proofs.lemmas.List.{length-map}
use Rattle.doc_bits.proofs.Public.{there_is}
use Rattle.doc_bits.specs.declared.places.Where.TheVariants.{Wd}
use Rattle.doc_bits.specs.Number.{AreBytes}
use Rattle.doc_bits.specs.Rules.{Hold}
use Rattle.cfb_streams.specs.Names.{wd_name}
use Rattle.cfb_streams.proofs.Public.{contents_unique}
use Rattle.fib_form.specs.declared.table_parts.TablePart.TheVariants.{Clx}
use Rattle.piece_table.specs.Piece.{flat_pieces}
use Rattle.doc_model.specs.declared.document.Document.{Document}
use Rattle.file_rules.specs.Units.{unit_at}
use Rattle.file_rules.specs.SectionRules.{sed_rules}
use Rattle.file_rules.specs.FormatRules.{text_count}
use Rattle.file_rules.specs.PartRules.{part_rules}
use Rattle.file_rules.specs.FileRules.{HasFileText, doc_source_of, table_stream_name, loading_rules, file_rules}
use Rattle.file_rules.proofs.Public.{text_one, sections_one, parts_one}
use Rattle.doc_read.proofs.Public.{AreByteFields, parts_of, items_there, named_bytes, text_held, text_fits}
use Rattle.doc_read.proofs.Public.{part_bytes_are, part_lists_there, section_maps_there, ready, section_maps_one}
use Rattle.doc_read.specs.Items.{IsItemAt}
use Rattle.doc_read.specs.Sections.{HaveProperties, AreSectionMaps}
use Rattle.doc_read.specs.Holds.{FileParts, HasFileParts, HoldsDocument}
use Rattle.save_laws.specs.Laws.{GivenFilesStand, GivenSectionsAreSaved}
use Rattle.save_laws.proofs.GivenTexts.{given_stands}
use Rattle.save_laws.proofs.GivenSections.{given_sections}
use Rattle.save_laws.proofs.GivenLemmas.{ReadText}

-- the rules hold of the text and the streams that the file was read by
pub record AreHeld (file : List ℕ) (parts : FileParts) : Type 0 where
  pub loading : Hold (loading_rules parts.contents)
  pub parts_hold : Hold (part_rules (doc_source_of parts.text))

pub held_rules : (file : List ℕ) (parts : FileParts) → Hold (file_rules file) → HasFileParts file parts →
    AreHeld file parts
held_rules file parts h has =
    let contents : h.1.0 ≡ parts.contents = contents_unique file h.1.0 parts.contents h.1.1.0 has.has_contents in
    let rest = h.1.1.1 in
    let text : HasFileText parts.contents rest.1.0 = subst (λ c. HasFileText c rest.1.0) contents rest.1.1.0 in
    let same : rest.1.0 ≡ parts.text =
    text_one file parts.contents rest.1.0 parts.text has.has_contents text has.has_text in
    record {
      loading = subst (λ c. Hold (loading_rules c)) contents rest.0;
      parts_hold = subst (λ t. Hold (part_rules (doc_source_of t))) same rest.1.1.1;
    }

-- the text of the file with what was read of it
record IsRead : Type 0 where
  read : ReadText
  bytes : AreBytes read.text.wd
  have : HaveProperties read.text.wd read.lists.sections read.maps

read_text : (file : List ℕ) (document : Document) → AreBytes file → HoldsDocument file document → IsRead
read_text file document bytes held =
    let parts = held.parts in
    let contents = parts.contents in
    let text = parts.text in
    let has = held.has_parts in
    let source = doc_source_of text in
    let rules = held_rules file parts held.rules has in
    let wd = named_bytes file contents wd_name text.wd bytes has.has_contents has.has_text.has_wd in
    let table =
    named_bytes file contents (table_stream_name text.wd) text.table bytes has.has_contents has.has_text.has_table in
    let table_holds = text_held file contents text rules.loading has.has_contents has.has_text in
    let fits =
    text_fits text.wd text.table text.pieces (part_bytes_are source Clx table) table_holds has.has_text.has_pieces in
    let total = fits.total in
    let units = length-map (flat_pieces text.pieces) (unit_at text.wd) in
    let long : text_count source ≤ length source.text.units = omega (arith, total, units) in
    let there = part_lists_there source table long rules.parts_hold in
    let lists_are : there.lists ≡ parts.lists = parts_one source there.lists parts.lists there.has has.has_lists in
    let fields = subst AreByteFields lists_are there.fields in
    let sepx : Hold (sed_rules source parts.lists.sections) =
    subst (λ list. Hold (sed_rules source list))
    (sections_one source rules.parts_hold.0.0.1.0 parts.lists.sections rules.parts_hold.0.0.1.1.0
    has.has_lists.has_sections)
    rules.parts_hold.0.0.1.1.1 in
    let maps =
    section_maps_there text.wd parts.lists.sections wd (λ place broken. sepx.1.1 (Wd, place) (refl, broken)) in
    let maps_are : maps.0 ≡ parts.sections =
    section_maps_one text.wd parts.lists.sections maps.0 parts.sections maps.1.have has.has_sections in
    let made : AreSectionMaps text.wd parts.lists.sections parts.sections =
    subst (AreSectionMaps text.wd parts.lists.sections) maps_are maps.1 in
    let is_ready =
    ready file contents text parts.lists parts.sections wd table fits has.has_text rules.parts_hold
    has.has_lists fields made in
    let items = items_there text parts.lists parts.sections is_ready in
    record {
      read = record {
        text = text;
        lists = parts.lists;
        maps = parts.sections;
        document = document;
        table = table_holds;
        parts_hold = rules.parts_hold;
        clx = has.has_text.has_pieces;
        fits = fits;
        has = has.has_lists;
        main = held.document_is.main;
        notes = held.document_is.notes;
        heads = held.document_is.heads;
        each = λ cp below.
            let len = items.holds.len in
            let found = there_is items.items cp (omega (arith, below, len)) in
            let at : 0 + cp ≡ cp = omega arith in (
              found.0,
              subst (λ n. IsItemAt (parts_of text parts.lists parts.sections) n found.0) at
                  (items.holds.each cp found.0 found.1),
            );
      };
      bytes = wd;
      have = has.has_sections;
    }

pub given_files_stand : GivenFilesStand
unfolding read_text
given_files_stand file document bytes held = given_stands (read_text file document bytes held).read

pub given_sections_are_saved : GivenSectionsAreSaved
unfolding read_text
given_sections_are_saved file document bytes held =
    let is = read_text file document bytes held in given_sections is.read is.bytes is.have
