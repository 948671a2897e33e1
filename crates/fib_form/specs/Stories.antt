-- [MS-DOC] The three stories of a file: the texts of one kind, one after the other.
use Rattle.std.specs.Prelude.{ℕ, List, slice_index}
use Rattle.fib_form.specs.declared.stories.StoryKind.{StoryKind}
use Rattle.fib_form.specs.declared.stories.StoryKind.TheVariants.{Main, Notes, Heads}

-- the place of a story's count among those of the FIB
abbrev pub story_number : StoryKind → ℕ
story_number Main = 0
story_number Notes = 1
story_number Heads = 2

-- the number of characters of a story
abbrev pub story_ccp : List ℕ → StoryKind → ℕ
story_ccp ccps kind = slice_index ccps (story_number kind)
