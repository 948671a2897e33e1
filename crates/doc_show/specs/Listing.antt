-- The lines that show a document: its styles, its texts, and then its bookmarks.
use Rattle.std.specs.Prelude.{ℕ, false, List, [], ◌∷◌, ◌++◌, Option, Some, None, codes}
use Rattle.std.specs.List.{flat_map, enumerate_from}
use Rattle.std.specs.Fmt.{decimal}
use Rattle.text_codes.specs.Shown.{shown_text}
use Rattle.document_bookmarks.specs.declared.bookmark_order.Bookmark.{Bookmark}
use Rattle.style_sheet.specs.declared.styles.Style.{Style}
use Rattle.style_sheet.specs.declared.styles.Kind.{Kind}
use Rattle.style_sheet.specs.declared.styles.Kind.TheVariants.{Para, Char, Other}
use Rattle.style_sheet.specs.Sheet.{Sheet}
use Rattle.doc_model.specs.declared.item.Item.{Item}
use Rattle.doc_model.specs.declared.document.Document.{Document}
use Rattle.doc_show.specs.Settings.{properties_text}
use Rattle.text_codes.specs.Shown.{line}
use Rattle.doc_show.specs.Story.{story_lines}

abbrev pub kind_word : Kind → List ℕ
kind_word (Para pap chp) = codes " para "
kind_word (Char chp) = codes " char "
kind_word (Other stk upxes) = codes " other "

abbrev pub base_word : Option ℕ → List ℕ
base_word None = codes "none"
base_word (Some base) = decimal base

-- the properties that a kind has
abbrev pub kind_lines : Kind → List ℕ
kind_lines (Para pap chp) =
    line (codes "par" ++ properties_text pap) ++ line (codes "char" ++ properties_text chp)
kind_lines (Char chp) = line (codes "char" ++ properties_text chp)
kind_lines (Other stk upxes) = []

-- a style by its number: the kind, the base, the next style, the name, and its properties
abbrev pub style_lines : ℕ → Style → List ℕ
style_lines istd style =
    line (codes "style " ++ (decimal istd ++ (kind_word style.kind ++ (base_word style.base
    ++ (32 ∷ [] ++ (decimal style.next ++ (32 ∷ [] ++ shown_text false style.name)))))))
    ++ kind_lines style.kind

-- a slot that is empty has no lines
abbrev pub slot_lines : ℕ × Option Style → List ℕ
slot_lines (istd, None) = []
slot_lines (istd, Some style) = style_lines istd style

abbrev pub sheet_lines : Sheet → List ℕ
sheet_lines sheet = flat_map slot_lines (enumerate_from 0 sheet.styles)

-- a text of no items has no lines
abbrev pub text_lines : List ℕ → List Item → List ℕ
text_lines heading [] = []
text_lines heading (item ∷ more) = line heading ++ story_lines (item ∷ more)

-- texts by their numbers
abbrev pub numbered_lines : List ℕ → List (List Item) → List ℕ
numbered_lines word texts =
    flat_map (λ numbered. text_lines (word ++ decimal numbered.0) numbered.1) (enumerate_from 0 texts)

-- a bookmark: where it begins, where it ends, and its name
abbrev pub bookmark_line : Bookmark → List ℕ
bookmark_line bookmark =
    line (codes "bookmark " ++ (decimal bookmark.from ++ (32 ∷ [] ++ (decimal bookmark.to
    ++ (32 ∷ [] ++ shown_text false bookmark.name)))))

abbrev pub bookmark_lines : List Bookmark → List ℕ
bookmark_lines list = flat_map bookmark_line list

-- the styles, the main text, the notes, the header texts, the bookmarks
abbrev pub listing_of : Document → List ℕ
listing_of document =
    sheet_lines document.sheet
    ++ (text_lines (codes "story main") document.main
    ++ (numbered_lines (codes "story note ") document.notes
    ++ (numbered_lines (codes "story head ") document.heads ++ bookmark_lines document.bookmarks)))
