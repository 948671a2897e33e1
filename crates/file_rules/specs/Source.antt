-- What the rules on the parts of a document read: WordDocument, its table stream, and the text by CP.
use Rattle.std.specs.Prelude.{◌≡◌, ℕ, ◌+◌, ◌^◌, ◌<◌, List, length, slice_range}
use Rattle.fib_form.specs.Fib.{fib_pair, fib_ccp_text, fib_ccp_ftn, fib_ccp_hdd, table_part}
use Rattle.fib_form.specs.FibFields.{FibFields, fib_fields, text_length}
use Rattle.fib_form.specs.declared.table_parts.TablePart.{TablePart}
use Rattle.fib_form.specs.declared.stories.StoryKind.{StoryKind}
use Rattle.fib_form.specs.declared.stories.StoryKind.TheVariants.{Main, Notes, Heads}
use Rattle.file_rules.specs.Units.{UnitText}
use Rattle.fib_form.specs.TableParts.{pair_number}

pub record DocSource : Type 0 where
  pub wd : List ℕ
  pub table : List ℕ
  pub text : UnitText

-- where a part begins in the table stream, and its bytes
abbrev pub part_place : DocSource → TablePart → ℕ
part_place source part = (fib_pair source.wd (pair_number part)).0

abbrev pub table_part_bytes : DocSource → TablePart → List ℕ
table_part_bytes source part = table_part source.wd source.table (pair_number part)

-- the number of units of a story
abbrev pub story_length : DocSource → StoryKind → ℕ
story_length source Main = fib_ccp_text source.wd
story_length source Notes = fib_ccp_ftn source.wd
story_length source Heads = fib_ccp_hdd source.wd

-- the CP where it begins: the stories are one after the other
abbrev pub story_begin : DocSource → StoryKind → ℕ
story_begin source Main = 0
story_begin source Notes = fib_ccp_text source.wd
story_begin source Heads = fib_ccp_text source.wd + fib_ccp_ftn source.wd

-- its units, and their places in WordDocument
abbrev pub story_units : DocSource → StoryKind → List ℕ
story_units source story =
    let begin = story_begin source story in slice_range source.text.units begin (begin + story_length source story)

abbrev pub story_places : DocSource → StoryKind → List ℕ
story_places source story =
    let begin = story_begin source story in slice_range source.text.places begin (begin + story_length source story)

-- the streams have 32-bit places, and the text has a unit for each CP
pub record IsSource (source : DocSource) (fib : FibFields) : Type 0 where
  pub fields : fib ≡ fib_fields source.wd
  pub wd_small : length source.wd < 2 ^ 32
  pub table_small : length source.table < 2 ^ 32
  pub units : length source.text.units ≡ text_length (fib_fields source.wd).ccps
  pub places : length source.text.places ≡ text_length (fib_fields source.wd).ccps
