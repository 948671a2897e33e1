-- The document that a file means, whatever rules it breaks: what its streams, its pieces and its parts say, by the
-- words of doc_read, of which none asks for a rule, and with the items of gaps.
use Rattle.std.specs.Prelude.{◌≡◌, ◌-◌, ℕ, List, length}
use Rattle.doc_bits.specs.Rules.{Hold}
use Rattle.cfb_streams.specs.Contents.{Contents}
use Rattle.prop_map.specs.Settings.{Properties}
use Rattle.doc_model.specs.declared.document.Document.{Document}
use Rattle.fib_form.specs.declared.stories.StoryKind.TheVariants.{Main, Notes, Heads}
use Rattle.file_rules.specs.Source.{story_length, story_begin}
use Rattle.file_rules.specs.BinRules.{rules_of_bins}
use Rattle.file_rules.specs.PartRules.{PartLists, HasPartLists}
use Rattle.file_rules.specs.FileRules.{FileText, HasFileText, doc_source_of}
use Rattle.doc_read.specs.Sections.{HaveProperties}
use Rattle.doc_read.specs.CarriedParts.{HoldsCarried}
use Rattle.doc_read.specs.Holds.{FileParts, HasFileParts, HoldsDocument, text_parts, head_texts}
use Rattle.doc_meaning.specs.Items.{MeansItems, MeansTexts}

-- the document has the texts by CP, the styles, what is carried, and the bookmarks: `IsDocumentOf`, with gaps
pub record IsMeantOf (parts : FileParts) (document : Document) : Type 0 where
  pub main : MeansItems (text_parts parts) 0 (story_length (doc_source_of parts.text) Main) document.main
  pub notes :
      MeansTexts (text_parts parts) (story_begin (doc_source_of parts.text) Notes) parts.lists.notes
      (length parts.lists.notes - 1) document.notes
  pub heads :
      MeansTexts (text_parts parts) (story_begin (doc_source_of parts.text) Heads) parts.lists.heads
      (head_texts parts.lists) document.heads
  pub sheet : document.sheet ≡ parts.lists.sheet
  pub carried : HoldsCarried parts.contents (doc_source_of parts.text) parts.lists.levels document.carried
  pub bookmarks : document.bookmarks ≡ parts.lists.bookmarks

-- the same of these streams, this text and these lists, with the properties of the sections
pub record IsMeantFrom (contents : Contents) (text : FileText) (lists : PartLists) (document : Document) :
    Type 0 where
  pub sections : List Properties
  pub has_sections : HaveProperties text.wd lists.sections sections
  pub document_is :
      IsMeantOf (record { contents = contents; text = text; lists = lists; sections = sections }) document

-- streams mean it
pub record MeansFrom (contents : Contents) (document : Document) : Type 0 where
  pub text : FileText
  pub has_text : HasFileText contents text
  pub lists : PartLists
  pub has_lists : HasPartLists (doc_source_of text) lists
  pub document_is : IsMeantFrom contents text lists document

-- a file means it
pub record MeansDocument (file : List ℕ) (document : Document) : Type 0 where
  pub parts : FileParts
  pub has_parts : HasFileParts file parts
  pub document_is : IsMeantOf parts document

-- what a file holds it means
abbrev pub HeldIsMeant : Type 0
HeldIsMeant = (file : List ℕ) (document : Document) → HoldsDocument file document → MeansDocument file document

-- a file means one document at most where its bin tables are tables: rules 37 and 38
abbrev pub MeaningIsOne : Type 0
MeaningIsOne =
    (file : List ℕ) (one other : Document) (means : MeansDocument file one) →
    Hold (rules_of_bins (doc_source_of means.parts.text)) → MeansDocument file other → one ≡ other

-- where a file holds a document it means no other one
abbrev pub MeantIsHeld : Type 0
MeantIsHeld =
    (file : List ℕ) (document other : Document) → HoldsDocument file document → MeansDocument file other →
    document ≡ other
