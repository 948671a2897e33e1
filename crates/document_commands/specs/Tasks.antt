-- What is asked of the document of one file, or of the documents of two.
use Rattle.std.specs.Prelude.{ℕ, List, Option, Some, None}
use Rattle.document_commands.specs.declared.task.Task as asked
use Rattle.document_commands.specs.declared.task.Task.TheVariants as asked_for
use Rattle.document_commands.specs.declared.task.Pair as asked_pair
use Rattle.document_commands.specs.declared.task.Pair.TheVariants as asked_for_pair

-- what is asked of the document of one file
pub data FileTask : Type 0 where
  -- its main text
  text_task : FileTask
  -- how much it has
  check_task : FileTask
  -- its styles and texts
  show_task : FileTask
  -- the item at a position of its main text
  props_task : (pos : ℕ) → FileTask
  -- its paragraphs that have a number, or a level in the outline
  outline_task : FileTask
  -- its full save, for a name
  full_task : (out : List ℕ) → FileTask
  -- its title, subject and author
  title_task : FileTask
  -- its full save with this title, for a name
  retitle_task : (title out : List ℕ) → FileTask
  -- its text as JSON, for a name
  export_task : (out : List ℕ) → FileTask

-- what the program keeps of it
abbrev pub task_of : asked.Task → FileTask
task_of asked_for.Text = text_task
task_of asked_for.Check = check_task
task_of asked_for.Show = show_task
task_of (asked_for.Props pos) = props_task pos
task_of asked_for.Outline = outline_task
task_of (asked_for.Full out) = full_task out.now
task_of asked_for.Title = title_task
task_of (asked_for.Retitle title out) = retitle_task title out.now
task_of (asked_for.Export out) = export_task out.now

-- the name that its bytes are made for
abbrev pub out_of : FileTask → Option (List ℕ)
out_of text_task = None
out_of check_task = None
out_of show_task = None
out_of (props_task pos) = None
out_of outline_task = None
out_of (full_task out) = Some out
out_of title_task = None
out_of (retitle_task title out) = Some out
out_of (export_task out) = Some out

-- what is asked of the documents of two files
pub data PairTask : Type 0 where
  -- whether they are equal
  compare_task : PairTask
  -- the full save of the second behind the first, for a name
  join_task : (out : List ℕ) → PairTask

abbrev pub pair_task_of : asked_pair.Pair → PairTask
pair_task_of asked_for_pair.Compare = compare_task
pair_task_of (asked_for_pair.Join out) = join_task out.now

abbrev pub out_of_two : PairTask → Option (List ℕ)
out_of_two compare_task = None
out_of_two (join_task out) = Some out
