-- A file that breaks none of the rules 1 to 57 holds a document, which is well formed.
use Rattle.std.proofs.Common.{◌≡◌, refl, subst, ℕ, ◌-◌, ◌<◌, ◌≤◌, ◌^◌, List, length, take, arith, length-take}
use Rattle.std.proofs.lemmas.List.{length-map}
use Rattle.std.specs.List.{All}
use Rattle.std.proofs.lemmas.List.Elements.{All-take}
use Rattle.doc_bits.specs.declared.places.Where.TheVariants.{File, Wd}
use Rattle.doc_bits.specs.Rules.{Hold}
use Rattle.doc_bits.specs.Number.{AreBytes}
use Rattle.prop_map.specs.Settings.{Properties}
use Rattle.cfb_streams.specs.Contents.{Contents}
use Rattle.cfb_streams.specs.Container.{container_rules, HasContents}
use Rattle.fkp_pages.specs.declared.kind.PageKind.TheVariants.{Chpx, Papx}
use Rattle.direct_props.specs.PageRules.{page_rules}
use Rattle.piece_table.specs.Piece.{flat_pieces}
use Rattle.document_bookmarks.specs.Bookmarks.{HasFileNumbers}
use Rattle.doc_model.specs.declared.document.Document.{Document}
use Rattle.doc_model.specs.Document.{IsFormedItem}
use Rattle.doc_model.specs.Formed.{IsFormed}
use Rattle.fib_form.specs.declared.table_parts.TablePart.TheVariants.{Clx, PlcfBteChpx, PlcfBtePapx}
use Rattle.fib_form.specs.declared.stories.StoryKind.TheVariants.{Main, Notes, Heads}
use Rattle.file_rules.specs.Units.{unit_at}
use Rattle.file_rules.specs.Source.{table_part_bytes, story_length, story_begin}
use Rattle.file_rules.specs.FormatRules.{text_count, judged_places, paragraph_end_places, format_rules}
use Rattle.file_rules.specs.SectionRules.{sed_rules}
use Rattle.file_rules.specs.PartRules.{PartLists, HasPartLists, part_rules}
use Rattle.file_rules.specs.FileRules.{FileText, HasFileText, doc_source_of, table_stream_name, clx_of, loading_rules}
use Rattle.cfb_streams.specs.Names.{wd_name}
use Rattle.file_rules.proofs.Public.{sections_one, hold_out}
use Rattle.style_sheet.specs.Formed.{IsFormedSheet}
use Rattle.doc_read.specs.Sections.{AreSectionMaps}
use Rattle.doc_read.specs.Holds.{head_texts, IsDocumentFrom}
use Rattle.doc_read.specs.Laws.{FilesHoldDocuments}
use Rattle.doc_read.proofs.ContentsBounds.{contents-bounded}
use Rattle.doc_read.proofs.DocumentLemmas.{document-from}
use Rattle.doc_read.proofs.FewLemmas.{table-short, heads-few, notes-few}
use Rattle.doc_read.proofs.LevelLemmas.{lists-with_levels, levels-short}
use Rattle.doc_read.proofs.MarkListLemmas.{some_section, ends_up}
use Rattle.direct_props.proofs.Public.{right_of}
use Rattle.doc_read.proofs.ExistSections.{section_maps_there}
use Rattle.doc_read.proofs.ExistText.{named_bytes, right_modifiers, place_right}
use Rattle.doc_read.proofs.ExistItems.{AreReady, HasItems, items_there}
use Rattle.doc_read.proofs.ExistParts.{part_bytes_are, part_lists_there}
use Rattle.doc_read.proofs.EntryValues.{AreByteFields}
use Rattle.doc_read.proofs.ExistFits.{text_held, TextFits, text_fits}
use Rattle.doc_read.proofs.ExistCuts.{texts_there}
use Rattle.cfb_streams.proofs.Public.{contents_stored}
use Rattle.doc_read.proofs.StreamLemmas.{carried-stored}
use Rattle.doc_read.proofs.ExistCarried.{clsid_long, HasFormedCarried, carried_there, carried_bytes, all_short}

record HasFormedDocument (contents : Contents) (text : FileText) (lists : PartLists) : Type 0 where
  document : Document
  from : IsDocumentFrom contents text lists document
  formed : IsFormed document

-- the parts of a document, put together
document_of : (contents : Contents) (text : FileText) (lists : PartLists) (maps : List Properties) →
    HasPartLists (doc_source_of text) lists → AreSectionMaps text.wd lists.sections maps → IsFormedSheet lists.sheet →
    length text.table ≤ 7143936 → text_count (doc_source_of text) < 2 ^ 32 → HasItems text lists maps →
    HasFormedCarried contents (doc_source_of text) lists.levels → All HasFileNumbers lists.bookmarks →
    HasFormedDocument contents text lists
document_of contents text lists maps has made sheet short few items carried numbers =
    let source = doc_source_of text in
    let main_len = story_length source Main in
    let all = items.formed in
    let len : length items.items ≡ text_count source = omega (arith, items.holds.len) in
    let small : length items.items < 2 ^ 32 = omega arith in
    let notes_small = notes-few source lists.notes short has.has_notes in
    let heads_small = heads-few source lists.sections short has.has_sections in
    let notes = texts_there items.items (story_begin source Notes) lists.notes (length lists.notes - 1) all small
    (omega arith) in
    let heads =
    texts_there items.items (story_begin source Heads) lists.heads (head_texts lists) all small heads_small in
    let document : Document = record {
      main = take main_len items.items;
      notes = notes.texts;
      heads = heads.texts;
      sheet = lists.sheet;
      carried = carried.carried;
      bookmarks = lists.bookmarks;
    } in
    record {
      document = document;
      from = document-from contents text lists maps items.items document has made items.holds refl notes.cut heads.cut
          refl carried.holds refl;
      formed = record {
        main = record {
          few = omega (arith, length-take main_len items.items);
          each = All-take IsFormedItem main_len
              items.items all;
        };
        notes = notes.formed;
        heads = heads.formed;
        sheet = sheet;
        carried = carried.formed;
        bookmarks = numbers;
      };
    }

-- what the items are read from
pub ready : (file : List ℕ) (contents : Contents) (text : FileText) (lists : PartLists) (maps : List Properties) →
    AreBytes text.wd → AreBytes text.table → TextFits text.wd text.pieces → HasFileText contents text →
    Hold (part_rules (doc_source_of text)) → HasPartLists (doc_source_of text) lists → AreByteFields lists →
    AreSectionMaps text.wd lists.sections maps → AreReady text lists maps
ready file contents text lists maps wd table fits has_text hold has fields made =
    let source = doc_source_of text in
    let main_len = story_length source Main in
    let formats = hold.1.0 in
    let held : Hold (format_rules source lists.sections) = subst (λ list. Hold (format_rules source list))
    (sections_one source formats.0 lists.sections formats.1.0 has.has_sections) formats.1.1 in
    let chars = hold_out Wd (page_rules Chpx text.wd (table_part_bytes source PlcfBteChpx) (judged_places source))
    held.0 in
    let paras = hold_out Wd (page_rules Papx text.wd (table_part_bytes source PlcfBtePapx) (paragraph_end_places source
    lists.sections)) held.1 in
    let total = fits.total in
    record {
      bytes = wd;
      long = omega arith;
      modifiers = place_right text.pieces (right_modifiers (clx_of text.wd text.table) text.pieces (part_bytes_are
          (doc_source_of text) Clx table) has_text.has_pieces);
      characters = right_of Chpx text.wd (table_part_bytes source PlcfBteChpx) (judged_places source) chars;
      paragraphs = right_of Papx text.wd (table_part_bytes source PlcfBtePapx) (paragraph_end_places source
          lists.sections) paras;
      ends = ends_up lists.sections main_len (some_section source lists.sections hold.0.0 has.has_sections)
          has.has_sections.leading.in_order;
      maps_formed = made.formed;
      fields = fields;
    }

-- the document of the text that a file has
document_there : (file : List ℕ) (contents : Contents) (text : FileText) → AreBytes file → Hold (container_rules file) →
    HasContents file contents → Hold (loading_rules contents) → HasFileText contents text →
    Hold (part_rules (doc_source_of text)) →
    (lists : PartLists) × (HasPartLists (doc_source_of text) lists × HasFormedDocument contents text lists)
document_there file contents text bytes container has texts has_text hold =
    let source = doc_source_of text in
    let wd = named_bytes file contents wd_name text.wd bytes has has_text.has_wd in
    let table = named_bytes file contents (table_stream_name text.wd) text.table bytes has has_text.has_table in
    let fits = text_fits text.wd text.table text.pieces (part_bytes_are (doc_source_of text) Clx table) (text_held file
    contents text texts has has_text) has_text.has_pieces in
    let bounds = contents-bounded file contents container has in
    let short = table-short contents text bounds has_text in
    let total = fits.total in
    let same = length-map (flat_pieces text.pieces) (unit_at text.wd) in
    let long : text_count source ≤ length source.text.units = omega arith in
    let parts = part_lists_there source table long hold in
    let lists = parts.lists in
    let sepx = subst (λ list. Hold (sed_rules source list)) (sections_one source hold.0.0.1.0 lists.sections
    hold.0.0.1.1.0 parts.has.has_sections) hold.0.0.1.1.1 in
    let maps = section_maps_there text.wd lists.sections wd (λ place broken. sepx.1.1 (Wd, place) (refl, broken)) in
    let is_ready = ready file contents text lists maps.0 wd table fits has_text hold parts.has parts.fields maps.1 in
    let few = fits.few in
    let levels = levels-short source lists.levels parts.has.has_levels in
    let carried = carried_there contents text lists.levels bounds has_text wd (clsid_long file contents container has)
    (carried_bytes file contents source lists.levels bytes has table parts.has.has_levels)
    (all_short source lists.levels short levels) (lists-with_levels source lists.levels hold.1.1.1.1.1.1.1.0
    parts.has.has_levels)
    (carried-stored contents (contents_stored file contents bytes has)) in (
      lists,
      (
        parts.has,
        document_of contents text lists maps.0 parts.has maps.1 parts.sheet short (omega arith)
            (items_there text lists maps.0 is_ready) carried parts.numbers,
      ),
    )

pub files_hold : FilesHoldDocuments
files_hold file bytes hold =
    let contents = hold.1.0 in
    let has = hold.1.1.0 in
    let rest = hold.1.1.1 in
    let text = rest.1.0 in
    let has_text = rest.1.1.0 in
    let there = document_there file contents text bytes (hold_out File (container_rules file) hold.0) has rest.0
    has_text rest.1.1.1 in
    let lists = there.0 in
    let document = there.1.1 in
    record {
      document = document.document;
      holds = record {
        rules = hold;
        parts = record { contents = contents; text = text; lists = lists; sections = document.from.sections };
        has_parts = record {
          has_contents = has;
          has_text = has_text;
          has_lists = there.1.0;
          has_sections = document.from.has_sections;
        };
        document_is = document.from.document_is;
      };
      formed = document.formed;
    }
