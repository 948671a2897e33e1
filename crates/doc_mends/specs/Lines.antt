-- The line of each mend.
use Rattle.std.specs.Prelude.{ℕ, List, [], ◌∷◌, ◌++◌, codes}
use Rattle.std.specs.Fmt.{decimal}
use Rattle.doc_bits.specs.declared.places.Story.{Story}
use Rattle.text_losses.specs.declared.features.Reference.{Reference}
use Rattle.text_losses.specs.Lines.{place_text, reference_text}
use Rattle.doc_mends.specs.declared.mends.DeletedRange.{DeletedRange}
use Rattle.doc_mends.specs.declared.mends.MadeNote.{MadeNote}
use Rattle.doc_mends.specs.declared.mends.NoteStory.{NoteStory}
use Rattle.doc_mends.specs.declared.mends.NoteStory.TheVariants.{Endnotes, Comments}
use Rattle.doc_mends.specs.declared.mends.WrongMark.{WrongMark}
use Rattle.doc_mends.specs.declared.mends.RowMark.{RowMark}
use Rattle.doc_mends.specs.declared.mends.BrokenRow.{BrokenRow}
use Rattle.doc_mends.specs.declared.mends.Mend.{Mend}
use Rattle.doc_mends.specs.declared.mends.Mend.TheVariants as mends

abbrev pub note_story_word : NoteStory → List ℕ
note_story_word Endnotes = codes "endnote"
note_story_word Comments = codes "comment"

-- the endnote or the comment, and which note it became
abbrev pub made_line : MadeNote → List ℕ
made_line made =
    note_story_word made.story
    ++ (32 ∷ [] ++ (decimal made.number ++ (codes ": note " ++ (decimal made.note ++ 10 ∷ []))))

-- the range, and that it is struck
abbrev pub strike_line : DeletedRange → List ℕ
strike_line range =
    codes "deleted "
    ++ (place_text range.story
    ++ (32 ∷ [] ++ (decimal range.from ++ (32 ∷ [] ++ (decimal range.to ++ (codes ": struck" ++ 10 ∷ []))))))

-- the range alone, where it stays as it is
abbrev pub keep_line : DeletedRange → List ℕ
keep_line range =
    codes "deleted "
    ++ (place_text range.story ++ (32 ∷ [] ++ (decimal range.from ++ (32 ∷ [] ++ (decimal range.to ++ 10 ∷ [])))))

-- the mark of a row, and that it has the cells of Data
abbrev pub cells_line : RowMark → List ℕ
cells_line mark =
    codes "mark "
    ++ (place_text mark.story ++ (32 ∷ [] ++ (decimal mark.at ++ (codes ": cells of Data" ++ 10 ∷ []))))

-- the number of the style
abbrev pub base_line : ℕ → List ℕ
base_line istd = codes "base " ++ (decimal istd ++ 10 ∷ [])

-- the mark, and the style that it had
abbrev pub wrong_mark_line : WrongMark → List ℕ
wrong_mark_line mark =
    codes "mark "
    ++ (place_text mark.story
    ++ (32 ∷ [] ++ (decimal mark.at ++ (codes ": style " ++ (decimal mark.istd ++ 10 ∷ [])))))

-- the row by its first item, and how many cells it has
abbrev pub row_line : BrokenRow → List ℕ
row_line row =
    codes "row "
    ++ (place_text row.story
    ++ (32 ∷ [] ++ (decimal row.from ++ (codes ": " ++ (decimal row.cells ++ (codes " cells" ++ 10 ∷ []))))))

-- the mark of a story, and that it is cut
abbrev pub cut_line : Reference → List ℕ
cut_line reference = reference_text reference ++ (codes ": cut" ++ 10 ∷ [])

-- the text
abbrev pub end_line : Story → List ℕ
end_line story = codes "end " ++ (place_text story ++ 10 ∷ [])

abbrev pub mend_line : Mend → List ℕ
mend_line (mends.MakeNote made) = made_line made
mend_line (mends.StrikeDeleted range) = strike_line range
mend_line (mends.KeepDeleted range) = keep_line range
mend_line (mends.DefineRow mark) = cells_line mark
mend_line (mends.DropBase istd) = base_line istd
mend_line (mends.NormalMark mark) = wrong_mark_line mark
mend_line (mends.PlainRow row) = row_line row
mend_line (mends.CutReference reference) = cut_line reference
mend_line (mends.EndText story) = end_line story
