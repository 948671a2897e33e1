-- The bookmarks of a document that a file holds are in order, and within its main text.
use Rattle.std.proofs.Common.{◌≡◌, sym, subst, ℕ, length, arith}
use Rattle.doc_bits.specs.Rules.{Hold}
use Rattle.fib_form.specs.declared.stories.StoryKind.TheVariants.{Main}
use Rattle.document_bookmarks.specs.Bookmarks.{AreFormedBookmarks}
use Rattle.doc_model.specs.declared.document.Document.{Document}
use Rattle.doc_model.specs.Marks.{HasFormedBookmarks}
use Rattle.file_rules.specs.Source.{DocSource, story_length}
use Rattle.file_rules.specs.PartRules.{HasPartLists, part_rules}
use Rattle.file_rules.specs.FileRules.{doc_source_of}
use Rattle.file_rules.proofs.Public.{bookmarks-formed}
use Rattle.doc_read.specs.Holds.{FileParts, IsDocumentOf}
use Rattle.doc_read.specs.Laws.{HeldBookmarksAreFormed}
use Rattle.doc_read.proofs.OneDocument.{held_parts}

-- those of the document of parts that break no rule
pub parts-formed : (parts : FileParts) (document : Document) → Hold (part_rules (doc_source_of parts.text)) →
    HasPartLists (doc_source_of parts.text) parts.lists → IsDocumentOf parts document → HasFormedBookmarks document
parts-formed parts document hold has is =
    let source : DocSource = doc_source_of parts.text in
    let len : story_length source Main ≡ length document.main = omega (arith, is.main.len) in
    let formed : AreFormedBookmarks (story_length source Main) parts.lists.bookmarks =
    bookmarks-formed source parts.lists.bookmarks hold.1.1.1.1.1.1.1.1 has.has_bookmarks in
    subst (λ (n : ℕ). AreFormedBookmarks n document.bookmarks) len
    (subst (AreFormedBookmarks (story_length source Main)) (sym is.bookmarks) formed)

pub held_formed : HeldBookmarksAreFormed
held_formed file document holds =
    parts-formed holds.parts document (held_parts file holds.parts holds.rules holds.has_parts)
    holds.has_parts.has_lists holds.document_is
