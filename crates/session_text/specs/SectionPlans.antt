-- Where the properties of sections are after a change of the main text. No place: they are still to be written.
use Rattle.std.specs.Prelude.{◌≡◌, ℕ, ◌<◌, List, ◌++◌, length, replicate, take, drop, Option, Some, None, slice_get}
use Rattle.std.specs.Prelude.{slice_set, ⊤}
use Rattle.std.specs.Option.{option_and_then}
use Rattle.doc_bits.specs.declared.places.Story.TheVariants.{Main, Note, Head}
use Rattle.prop_map.specs.Settings.{Properties}
use Rattle.doc_model.specs.declared.item.Item.{Item}
use Rattle.plain_doc.specs.RulesOfSheet.{section_count}
use Rattle.doc_patch.specs.declared.changes.Change.{Change}
use Rattle.doc_patch.specs.declared.changes.Change.TheVariants.{SpliceText, ModifyItems, SetSection, SpliceNotes}
use Rattle.doc_patch.specs.declared.changes.Change.TheVariants.{SpliceHeads, SetStyleCharacters, SetStyleParagraphs}
use Rattle.doc_patch.specs.declared.changes.Change.TheVariants.{SetBookmarks}
use Rattle.session_text.specs.TextSteps.{IsRangeOf}

-- the properties of the sections that come are still to be written
abbrev pub spliced_plan : List Item → List (Option ℕ) → ℕ → ℕ → List Item → List (Option ℕ)
spliced_plan main places from to fresh =
    take (section_count (take from main)) places
    ++ (replicate (section_count fresh) None ++ drop (section_count (take to main)) places)

-- and so are those of the section of this number, where an item ends one
abbrev pub set_plan : List (Option ℕ) → ℕ → Option Properties → List (Option ℕ)
set_plan places number None = places
set_plan places number (Some properties) = slice_set places number None

abbrev pub plan_after : List Item → List (Option ℕ) → Change → List (Option ℕ)
plan_after main places (SpliceText Main from to fresh) = spliced_plan main places from to fresh
plan_after main places (SpliceText (Note number) from to fresh) = places
plan_after main places (SpliceText (Head number) from to fresh) = places
plan_after main places (ModifyItems story from to by) = places
plan_after main places (SetSection at set) =
    set_plan places (section_count (take at main)) (option_and_then (λ item. item.sect) (slice_get main at))
plan_after main places (SpliceNotes from to fresh) = places
plan_after main places (SpliceHeads from to fresh) = places
plan_after main places (SetStyleCharacters istd set) = places
plan_after main places (SetStyleParagraphs istd set) = places
plan_after main places (SetBookmarks list) = places

-- a change of the main text names places of it, and the sections are as many as the places of properties
abbrev pub FitsPlan : List Item → List (Option ℕ) → Change → Type 0
FitsPlan main places (SpliceText Main from to fresh) = IsRangeOf from to main × (length places ≡ section_count main)
FitsPlan main places (SpliceText (Note number) from to fresh) = ⊤
FitsPlan main places (SpliceText (Head number) from to fresh) = ⊤
FitsPlan main places (ModifyItems story from to by) = ⊤
FitsPlan main places (SetSection at set) = (at < length main) × (length places ≡ section_count main)
FitsPlan main places (SpliceNotes from to fresh) = ⊤
FitsPlan main places (SpliceHeads from to fresh) = ⊤
FitsPlan main places (SetStyleCharacters istd set) = ⊤
FitsPlan main places (SetStyleParagraphs istd set) = ⊤
FitsPlan main places (SetBookmarks list) = ⊤
