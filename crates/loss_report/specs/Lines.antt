-- The lines that say what is left out, one a feature.
use Rattle.std.specs.Prelude.{ℕ, false, List, [], ◌∷◌, ◌++◌, length, map, codes}
use Rattle.std.specs.Fmt.{decimal}
use Rattle.text_codes.specs.Shown.{shown_text}
use Rattle.fib_versions.specs.declared.further.Further.{Further}
use Rattle.fib_versions.specs.declared.further.Further.TheVariants.{Comments, Endnotes, TextBoxes, HeaderTextBoxes}
use Rattle.fib_versions.specs.PartNames.{name_of_part}
use Rattle.loss_report.specs.Features.{Feature, StreamOf, StorageOf, PartOf, StoryOf, AutoText}
use Rattle.loss_report.specs.Losses.{left_out}

-- how a story is named
abbrev pub story_word : Further → List ℕ
story_word Comments = codes "comments"
story_word Endnotes = codes "endnotes"
story_word TextBoxes = codes "textboxes"
story_word HeaderTextBoxes = codes "header-textboxes"

-- a part by its number, its name and its length in bytes; a story by its length in units and its whole text
abbrev pub feature_text : Feature → List ℕ
feature_text (StreamOf name) = codes "stream " ++ shown_text false name
feature_text (StorageOf name) = codes "storage " ++ shown_text false name
feature_text (PartOf pair len) =
    codes "part " ++ (decimal pair ++ (32 ∷ [] ++ (name_of_part pair ++ (32 ∷ [] ++ decimal len))))
feature_text (StoryOf story units) =
    codes "story "
    ++ (story_word story ++ (32 ∷ [] ++ (decimal (length units) ++ (codes " | " ++ shown_text false units))))
feature_text (AutoText page) = codes "autotext page " ++ decimal page

abbrev pub feature_line : Feature → List ℕ
feature_line feature = feature_text feature ++ (10 ∷ [])

-- the lines of those that are left out
abbrev pub loss_lines : List ℕ → List Feature → List (List ℕ)
loss_lines wd all = map feature_line (left_out wd all)
