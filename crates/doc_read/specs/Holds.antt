-- The document that a file holds, and all rules of a file.
use Rattle.std.specs.Prelude.{◌≡◌, ℕ, ◌-◌, List, length}
use Rattle.doc_bits.specs.Rules.{Rules, ◌then◌, given, Hold}
use Rattle.doc_bits.specs.Places.{Place}
use Rattle.prop_map.specs.Settings.{Properties}
use Rattle.cfb_streams.specs.Contents.{Contents}
use Rattle.cfb_streams.specs.Container.{HasContents}
use Rattle.doc_model.specs.declared.document.Document.{Document}
use Rattle.plain_doc.specs.RulesOfSheet.{heads_of_sections}
use Rattle.plain_doc.specs.Sound.{document_rules}
use Rattle.fib_form.specs.declared.stories.StoryKind.TheVariants.{Main, Notes, Heads}
use Rattle.file_rules.specs.Source.{story_length, story_begin}
use Rattle.file_rules.specs.PartRules.{PartLists, HasPartLists}
use Rattle.file_rules.specs.FileRules.{FileText, HasFileText, doc_source_of, file_rules}
use Rattle.doc_read.specs.Sections.{HaveProperties}
use Rattle.doc_read.specs.Items.{TextParts, HoldsItems, HoldsTexts}
use Rattle.doc_read.specs.CarriedParts.{HoldsCarried}

-- what a file has
pub record FileParts : Type 0 where
  pub contents : Contents
  pub text : FileText
  pub lists : PartLists
  pub sections : List Properties

pub record HasFileParts (file : List ℕ) (parts : FileParts) : Type 0 where
  pub has_contents : HasContents file parts.contents
  pub has_text : HasFileText parts.contents parts.text
  pub has_lists : HasPartLists (doc_source_of parts.text) parts.lists
  pub has_sections : HaveProperties parts.text.wd parts.lists.sections parts.sections

abbrev pub text_parts : FileParts → TextParts
text_parts parts = record {
  source = doc_source_of parts.text;
  pieces = parts.text.pieces;
  lists = parts.lists;
  sections = parts.sections;
}

-- the number of header texts of a document with these sections
abbrev pub head_texts : PartLists → ℕ
head_texts lists = heads_of_sections (length lists.sections)

-- the document has the texts by CP, the styles, what is carried, and the bookmarks
pub record IsDocumentOf (parts : FileParts) (document : Document) : Type 0 where
  pub main : HoldsItems (text_parts parts) 0 (story_length (doc_source_of parts.text) Main) document.main
  pub notes :
      HoldsTexts (text_parts parts) (story_begin (doc_source_of parts.text) Notes) parts.lists.notes
      (length parts.lists.notes - 1) document.notes
  pub heads :
      HoldsTexts (text_parts parts) (story_begin (doc_source_of parts.text) Heads) parts.lists.heads
      (head_texts parts.lists) document.heads
  pub sheet : document.sheet ≡ parts.lists.sheet
  pub carried : HoldsCarried parts.contents (doc_source_of parts.text) parts.lists.levels document.carried
  pub bookmarks : document.bookmarks ≡ parts.lists.bookmarks

-- the document of these streams, this text and these lists, with the properties of the sections
pub record IsDocumentFrom (contents : Contents) (text : FileText) (lists : PartLists) (document : Document) :
    Type 0 where
  pub sections : List Properties
  pub has_sections : HaveProperties text.wd lists.sections sections
  pub document_is :
      IsDocumentOf (record { contents = contents; text = text; lists = lists; sections = sections }) document

-- the document that a file holds, which breaks none of the rules 1 to 57
pub record HoldsDocument (file : List ℕ) (document : Document) : Type 0 where
  pub rules : Hold (file_rules file)
  pub parts : FileParts
  pub has_parts : HasFileParts file parts
  pub document_is : IsDocumentOf parts document

-- all rules of a file: those on its bytes, and then those on its document
abbrev pub all_rules : List ℕ → Rules Place
all_rules file = file_rules file then given (HoldsDocument file) document_rules

-- no rule is broken
abbrev pub IsAccepted : List ℕ → Type 0
IsAccepted file = Hold (all_rules file)
