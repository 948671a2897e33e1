-- What was read of a document and the units of its text make the document.
use Rattle.std.proofs.Common.{◌≡◌, ◌∙◌, sym, ap, subst, ℕ, ◌-◌, length, take, arith}
use Rattle.cfb_streams.specs.Contents.{Contents}
use Rattle.doc_model.specs.declared.document.Document.{Document}
use Rattle.fib_form.specs.declared.stories.StoryKind.TheVariants.{Main, Notes, Heads}
use Rattle.fib_form.specs.FibFields.{fib_fields}
use Rattle.file_rules.specs.FormatRules.{judged_units, text_count}
use Rattle.file_rules.specs.PartRules.{PartLists, HasPartLists}
use Rattle.file_rules.specs.FileRules.{FileText, doc_source_of}
use Rattle.file_rules.proofs.Public.{story_count, story_front}
use Rattle.doc_columns.specs.Columns.{items_of}
use Rattle.doc_read.specs.Texts.{AreCutsWithin, AreCutFrom}
use Rattle.doc_read.specs.CarriedParts.{LeavesRoom}
use Rattle.doc_read.specs.Items.{TextParts}
use Rattle.doc_read.specs.Holds.{IsDocumentFrom, head_texts}
use Rattle.doc_read.proofs.FewLemmas.{notes-few, heads-few}
use Rattle.doc_read.proofs.DocumentLemmas.{notes_within, heads_within, document-from}
use Rattle.doc_read.specs.declared.columns.ReadColumns.{ReadColumns}
use Rattle.doc_read.specs.declared.document.StoryCuts.{StoryCuts}
use Rattle.doc_read.specs.declared.document.DocumentParts.{DocumentParts}
use Rattle.doc_read.specs.ReadParts.{AreColumnsOf, AreDocumentParts}
use Rattle.doc_read.specs.ReadTexts.{AreCutsOf, AreCutTexts, IsDocumentOfUnits}
use Rattle.doc_read.proofs.MeetLemmas.{length-read}

-- there are as many units as CPs of the three stories
units_long : (parts : TextParts) (read : ReadColumns) → AreColumnsOf parts read →
    length (judged_units parts.source) ≡ text_count parts.source
units_long parts read are =
    let units = judged_units parts.source in
    let long = length-read units read.chps read.attachments (length units) are.fit.chps are.fit.attachments (omega
    arith) in
    omega (arith, long, are.holds.len)

-- the cuts of a file are within its text
pub cuts_fit : (contents : Contents) (text : FileText) (lists : PartLists) (parts : DocumentParts) →
    LeavesRoom contents text.table → HasPartLists (doc_source_of text) lists →
    AreDocumentParts contents text lists parts →
    AreCutsOf (fib_fields text.wd) parts.cuts (length (judged_units (doc_source_of text)))
cuts_fit contents text lists parts room has are =
    let source = doc_source_of text in
    let len = length (judged_units source) in
    let long : len ≡ text_count source = units_long _ parts.columns are.columns_are in
    let short = room.short in
    let main = story_count source Main in
    subst (λ (cuts : StoryCuts). AreCutsOf (fib_fields text.wd) cuts len) (sym are.cuts_are)
    (record {
      main_within = omega (arith, long, main);
      notes_within =
          subst (λ (cp : ℕ). AreCutsWithin cp lists.notes len) (sym (story_front source Notes))
          (notes_within source lists len has long);
      heads_within =
          subst (λ (cp : ℕ). AreCutsWithin cp lists.heads len) (sym (story_front source Heads))
          (heads_within source lists len has long);
      few_notes = notes-few source lists.notes short has.has_notes;
      few_heads = heads-few source lists.sections short has.has_sections;
    })

-- the document of the parts is that of the file
pub made_from : (contents : Contents) (text : FileText) (lists : PartLists) (parts : DocumentParts)
    (document : Document) → HasPartLists (doc_source_of text) lists → AreDocumentParts contents text lists parts →
    IsDocumentOfUnits (fib_fields text.wd) (judged_units (doc_source_of text)) parts document →
    IsDocumentFrom contents text lists document
made_from contents text lists parts document has are made =
    let source = doc_source_of text in
    let items = items_of (judged_units source) parts.columns.chps parts.columns.attachments in
    let texts = made.texts in
    let cut = subst (λ (cuts : StoryCuts). AreCutTexts (fib_fields text.wd) cuts items texts) are.cuts_are
    made.texts_are in
    subst (IsDocumentFrom contents text lists) (sym made.document_is)
    (document-from contents text lists are.sections items
    (record {
      main = texts.main;
      notes = texts.notes;
      heads = texts.heads;
      sheet = parts.sheet;
      carried = parts.carried;
      bookmarks = parts.bookmarks;
    })
    has are.has_sections are.columns_are.holds (cut.main_is ∙ ap (λ (n : ℕ). take n items) (story_count source Main))
    (subst (λ (cp : ℕ). AreCutFrom items cp lists.notes (length lists.notes - 1) texts.notes)
    (story_front source Notes) cut.notes_are)
    (subst (λ (cp : ℕ). AreCutFrom items cp lists.heads (head_texts lists) texts.heads)
    (story_front source Heads) cut.heads_are)
    are.sheet_is are.carried_is are.bookmarks_are)
