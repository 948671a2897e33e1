-- What a file has by the entries of its root, by the pairs and the counts of its FIB, and by the text behind the header
-- texts. Numbers and flags of the FIB, what is in a storage, and bytes that nothing names are no features.
use Rattle.std.specs.Prelude.{ℕ, ◌+◌, ◌==◌, List, [], ◌∷◌, ◌++◌, map, slice_range, if◌then◌else◌}
use Rattle.std.specs.List.{flat_map, range_with_len}
use Rattle.cfb_streams.specs.Contents.{Stream, OuterContents}
use Rattle.fib_form.specs.Fib.{fib_pair}
use Rattle.fib_versions.specs.declared.further.Further.{Further}
use Rattle.fib_versions.specs.declared.further.Further.TheVariants.{Comments, Endnotes, TextBoxes, HeaderTextBoxes}
use Rattle.fib_versions.specs.Versions.{fib_pair_count, further_count, further_start, pn_next}

-- the streams and storages of the root, the bytes of WordDocument, and the units of the text by CP
pub record Inventory : Type 0 where
  pub outer : OuterContents
  pub wd : List ℕ
  pub units : List ℕ

pub data Feature : Type 0 where
  StreamOf : (name : List ℕ) → Feature
  -- a storage that has something
  StorageOf : (name : List ℕ) → Feature
  -- what a pair of the FIB names in the table stream
  PartOf : (pair len : ℕ) → Feature
  -- a story behind the header texts
  StoryOf : (story : Further) → (units : List ℕ) → Feature
  -- [MS-DOC] pnNext: a FIB of AutoText is at this page
  AutoText : (page : ℕ) → Feature

abbrev pub stream_features : List Stream → List Feature
stream_features streams = map (λ stream. StreamOf stream.name) streams

abbrev pub storage_features : List (List ℕ) → List Feature
storage_features names = map StorageOf names

-- the part of pair n, where it has bytes
abbrev pub part_feature : List ℕ → ℕ → List Feature
part_feature wd n = if (fib_pair wd n).1 == 0 then [] else PartOf n (fib_pair wd n).1 ∷ []

abbrev pub part_features : List ℕ → List Feature
part_features wd = flat_map (part_feature wd) (range_with_len 0 (fib_pair_count wd))

-- the units of a story
abbrev pub further_units : List ℕ → List ℕ → Further → List ℕ
further_units wd units story =
    slice_range units (further_start wd story) (further_start wd story + further_count wd story)

-- a story, where it has units
abbrev pub story_feature : List ℕ → List ℕ → Further → List Feature
story_feature wd units story =
    if further_count wd story == 0 then [] else StoryOf story (further_units wd units story) ∷ []

abbrev pub story_features : List ℕ → List ℕ → List Feature
story_features wd units =
    story_feature wd units Comments
    ++ (story_feature wd units Endnotes
    ++ (story_feature wd units TextBoxes ++ story_feature wd units HeaderTextBoxes))

abbrev pub auto_text_feature : List ℕ → List Feature
auto_text_feature wd = if pn_next wd == 0 then [] else AutoText (pn_next wd) ∷ []

-- all that the file has
abbrev pub file_features : Inventory → List Feature
file_features inventory =
    stream_features inventory.outer.container.streams
    ++ (storage_features inventory.outer.storages
    ++ (part_features inventory.wd
    ++ (story_features inventory.wd inventory.units ++ auto_text_feature inventory.wd)))
