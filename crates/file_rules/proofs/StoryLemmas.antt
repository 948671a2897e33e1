-- The stories of a document, by the counts of its FIB.
use Rattle.std.proofs.Common.{◌≡◌, refl, arith}
use Rattle.fib_form.specs.declared.stories.StoryKind.{StoryKind}
use Rattle.fib_form.specs.declared.stories.StoryKind.TheVariants.{Main, Notes, Heads}
use Rattle.fib_form.specs.FibFields.{fib_fields, story_start}
use Rattle.fib_form.specs.Stories.{story_number, story_ccp}
use Rattle.file_rules.specs.Source.{DocSource, story_length, story_begin}

-- how long a story is
pub story_count : (source : DocSource) (story : StoryKind) → story_ccp (fib_fields source.wd).ccps story ≡
    story_length source story
story_count source Main = refl
story_count source Notes = refl
story_count source Heads = refl

-- and where it begins
pub story_front : (source : DocSource) (story : StoryKind) → story_start (fib_fields source.wd).ccps (story_number
    story) ≡ story_begin source story
story_front source Main = refl
story_front source Notes = omega arith
story_front source Heads = omega arith
