-- All mends of a document, in their order: those that keep each item where it is come first.
use Rattle.std.specs.Prelude.{◌≡◌, List, [], ◌++◌, map}
use Rattle.doc_model.specs.declared.document.Document.{Document}
use Rattle.doc_model.specs.Marks.{HasFormedBookmarks}
use Rattle.plain_doc.specs.Sound.{IsSound}
use Rattle.doc_losses.specs.References.{Names, references}
use Rattle.doc_mends.specs.declared.mends.Mend.{Mend}
use Rattle.doc_mends.specs.declared.mends.Mend.TheVariants.{NormalMark, PlainRow, CutReference, EndText}
use Rattle.doc_mends.specs.Bases.{DropsBases}
use Rattle.doc_mends.specs.NormalMarks.{with_normal_marks, wrong_marks}
use Rattle.doc_mends.specs.BrokenRows.{broken_rows}
use Rattle.doc_mends.specs.PlainRows.{with_plain_rows}
use Rattle.doc_mends.specs.Cuts.{references_cut}
use Rattle.doc_mends.specs.Ends.{with_ends, open_stories}

-- the mends of items that stay where they are: marks get style 0, and then rows that break rule 63 become paragraphs
abbrev pub mended_in_place : Document → Document
mended_in_place based = with_plain_rows (with_normal_marks based)

abbrev pub mends_in_place : Document → List Mend
mends_in_place based =
    map NormalMark (wrong_marks based) ++ map PlainRow (broken_rows (with_normal_marks based))

-- then the marks of stories that are left out are cut, and texts get an end
abbrev pub mends_of_texts : Names → Document → List Mend
mends_of_texts names placed =
    map CutReference (references names placed) ++ map EndText (open_stories (references_cut names placed))

-- bases of styles are dropped, and what is left is mended by these; and which the mends are
pub record IsMended (names : Names) (meant mended : Document) (mends : List Mend) : Type 0 where
  pub based : Document
  pub bases : List Mend
  pub drops : DropsBases meant based bases
  pub document_is : mended ≡ with_ends (references_cut names (mended_in_place based))
  pub mends_are : mends ≡ bases ++ (mends_in_place based ++ mends_of_texts names (mended_in_place based))

-- a document is mended in one way
abbrev pub MendsAreOne : Type 0
MendsAreOne =
    (names : Names) (meant one other : Document) (mends others : List Mend) → IsMended names meant one mends →
    IsMended names meant other others → (one ≡ other) × (mends ≡ others)

-- a document that breaks no rule, and has no marks of stories that are left out, has no mends
abbrev pub SoundHasNoMends : Type 0
SoundHasNoMends =
    (names : Names) (meant mended : Document) (mends : List Mend) → IsSound meant → references names meant ≡ [] →
    IsMended names meant mended mends → (mended ≡ meant) × (mends ≡ [])

-- bookmarks stay formed
abbrev pub MendsKeepBookmarks : Type 0
MendsKeepBookmarks =
    (names : Names) (meant mended : Document) (mends : List Mend) → HasFormedBookmarks meant →
    IsMended names meant mended mends → HasFormedBookmarks mended
