-- The page of a document.
use Rattle.std.specs.Prelude.{◌≡◌, ◌≢◌, ℕ, false, List, [], ◌++◌, drop, None, encode_utf8_all, if◌then◌else◌}
use Rattle.prop_map.specs.Settings.{Properties}
use Rattle.style_sheet.specs.Sheet.{Sheet}
use Rattle.style_sheet.specs.Chain.{style_kind_at}
use Rattle.doc_model.specs.declared.document.Document.{Document}
use Rattle.list_numbers.specs.declared.paragraph_values.ParagraphValues.{ParagraphValues}
use Rattle.list_numbers.specs.ParagraphValues.{AreParagraphValuesOf}
use Rattle.char_formats.specs.Formats.{IsCharFormat, format_in}
use Rattle.symbol_fonts.specs.declared.fonts.SymbolFonts.{SymbolFonts}
use Rattle.symbol_fonts.specs.Fonts.{symbol_fonts}
use Rattle.doc_view.specs.declared.view.Options.{Options}
use Rattle.doc_view.specs.declared.reading.Manner.{Manner}
use Rattle.doc_view.specs.Seen.{Formats, paragraphs_of, references_of, with_values}
use Rattle.doc_view.specs.Layout.{layout_of}
use Rattle.doc_view.specs.Notes.{notes_from}
use Rattle.doc_view.specs.Headers.{headers_from}
use Rattle.doc_view.specs.declared.reading.TextKind.TheVariants as text_kind

-- the format of characters with these properties in each paragraph of a style of paragraphs; others have none
pub record AreFormats (sheet : Sheet) (formats : Formats) : Type 0 where
  pub right :
      (istd : ℕ) (direct : Properties) → style_kind_at sheet istd ≡ 1 → IsCharFormat sheet istd direct (formats istd
      direct)
  pub none : (istd : ℕ) (direct : Properties) → style_kind_at sheet istd ≢ 1 → formats istd direct ≡ format_in None (λ
      code. None)

-- the symbol fonts of a document
abbrev pub fonts_of : Document → SymbolFonts
fonts_of document = symbol_fonts document.carried.fonts

abbrev pub main_manner : Options → Document → Manner
main_manner options document = record { hidden = options.hidden; kind = text_kind.Main; fonts = fonts_of document }

abbrev pub note_manner : Options → Document → Manner
note_manner options document = record { hidden = options.hidden; kind = text_kind.Note; fonts = fonts_of document }

abbrev pub header_manner : Options → Document → Manner
header_manner options document = record { hidden = options.hidden; kind = text_kind.Header; fonts = fonts_of document }

-- the header texts, where the options want them: those behind the separators of notes
abbrev pub headers_text : Formats → Options → Document → List ℕ
headers_text formats options document =
    if options.headers then headers_from formats (header_manner options document) false 6 (drop 6 document.heads) else []

-- the characters of the page: the main text, then the notes that it refers to, and then the header texts
abbrev pub page_text : Formats → List ParagraphValues → Options → Document → List ℕ
page_text formats values options document =
    let paragraphs = with_values values (paragraphs_of formats (main_manner options document) document.main) in
    layout_of [] paragraphs
    ++ (notes_from formats (note_manner options document) false (references_of paragraphs) document.notes
    ++ headers_text formats options document)

-- the bytes are the page
pub record IsPage (options : Options) (document : Document) (bytes : List ℕ) : Type 0 where
  pub formats : Formats
  pub are : AreFormats document.sheet formats
  pub values : List ParagraphValues
  pub are_values : AreParagraphValuesOf document values
  pub text : bytes ≡ encode_utf8_all (page_text formats values options document)
