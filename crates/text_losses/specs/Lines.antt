-- The line of each such feature.
use Rattle.std.specs.Prelude.{ℕ, false, List, [], ◌∷◌, ◌++◌, codes}
use Rattle.std.specs.Fmt.{decimal}
use Rattle.doc_bits.specs.declared.places.Story.{Story}
use Rattle.doc_bits.specs.declared.places.Story.TheVariants.{Main, Note, Head}
use Rattle.text_codes.specs.Shown.{shown_text}
use Rattle.text_codes.specs.Digits.{word_text}
use Rattle.loss_report.specs.Lines.{story_word}
use Rattle.text_losses.specs.declared.features.ListKind.{ListKind}
use Rattle.text_losses.specs.declared.features.ListKind.TheVariants as lists
use Rattle.text_losses.specs.declared.features.Reference.{Reference}
use Rattle.text_losses.specs.declared.features.TextFeature.{TextFeature}
use Rattle.text_losses.specs.declared.features.TextFeature.TheVariants as has

abbrev pub list_word : ListKind → List ℕ
list_word lists.Chpx = codes "char"
list_word lists.Papx = codes "par"
list_word lists.StyleChpx = codes "style-char"
list_word lists.StylePapx = codes "style-par"
list_word lists.Prc = codes "modifier"
list_word lists.Sepx = codes "sect"

-- a text by its name
abbrev pub place_text : Story → List ℕ
place_text Main = codes "main"
place_text (Note number) = codes "note " ++ decimal number
place_text (Head number) = codes "head " ++ decimal number

-- a space, and a number
abbrev pub spaced : ℕ → List ℕ
spaced number = 32 ∷ [] ++ decimal number

-- a list, a code and a count
abbrev pub code_text : ListKind → ℕ → ℕ → List ℕ
code_text kind code count = list_word kind ++ (32 ∷ [] ++ (word_text code ++ spaced count))

-- the story that is left out, and where its mark is
abbrev pub reference_text : Reference → List ℕ
reference_text reference =
    codes "reference "
    ++ (story_word reference.to ++ (32 ∷ [] ++ (place_text reference.story ++ spaced reference.at)))

abbrev pub feature_text : TextFeature → List ℕ
feature_text (has.Skipped kind code count) = codes "code " ++ code_text kind code count
feature_text (has.Repeated kind code count) = codes "repeat " ++ code_text kind code count
feature_text (has.Deleted story from to) = codes "deleted " ++ (place_text story ++ (spaced from ++ spaced to))
feature_text (has.Bookmark name from to) = codes "bookmark " ++ (shown_text false name ++ (spaced from ++ spaced to))
feature_text (has.SheetBeyond len) = codes "sheet" ++ spaced len

abbrev pub feature_line : TextFeature → List ℕ
feature_line feature = feature_text feature ++ 10 ∷ []
