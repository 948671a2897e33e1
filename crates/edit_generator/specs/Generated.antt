-- The commands of the generator: edits by a linear congruential generator on the main text, and a save after each
-- fiftieth of them and after the last.
use Rattle.std.specs.Prelude.{ℕ, zero, suc, ◌+◌, ◌-◌, ◌*◌, ◌/◌, ◌%◌, ◌^◌, ◌==◌, ◌||◌, min, if◌then◌else◌}
use Rattle.std.specs.Prelude.{Bool, List, ◌++◌, codes}
use Rattle.std.specs.Fmt.{decimal}
use Rattle.doc_bits.specs.declared.places.Story.TheVariants.{Main}
use Rattle.doc_model.specs.Blank.{one_property}
use Rattle.edit_script.specs.declared.commands.Command.{Command}
use Rattle.edit_script.specs.declared.commands.Command.TheVariants.{Insert, Char, Style, Split, Save}

-- the number behind another one
abbrev pub next_number : ℕ → ℕ
next_number number = (1103515245 * number + 12345) % 2 ^ 31

-- the number of an edit, where edits are counted from 1: the seed is that of none
unfoldable pub edit_number : (seed edit : ℕ) → ℕ
edit_number seed zero = seed
edit_number seed (suc edit) = next_number (edit_number seed edit)

-- the text that an insertion puts
abbrev pub line_text : ℕ → List ℕ
line_text edit = codes "line " ++ (decimal edit ++ codes " of the text ")

-- an edit by the rest of its count by 5: of five in a row two insert, one splits, one sets bold, one names a style
abbrev pub edit_of_rest : (rest edit number main : ℕ) → Command
edit_of_rest zero edit number main = Style Main (number % main) (number / 65536 % 2)
edit_of_rest (suc zero) edit number main = Insert Main (number % main) (line_text edit)
edit_of_rest (suc (suc zero)) edit number main = Insert Main (number % main) (line_text edit)
edit_of_rest (suc (suc (suc zero))) edit number main = Split Main (number % main)
edit_of_rest (suc (suc (suc (suc more)))) edit number main =
    Char Main (number % main) (min (number % main + 20) main) (one_property 0x0835 1)

-- the edit of this count, on a main text of so many items
abbrev pub generated_edit : (seed edit main : ℕ) → Command
generated_edit seed edit main = edit_of_rest (edit % 5) edit (edit_number seed edit) main

-- as many edits as the seed says, and the saves
abbrev pub generated_count : ℕ → ℕ
generated_count seed = seed + (seed + 49) / 50

-- each fifty-first command is a save, and the last one
abbrev pub is_generated_save : (seed i : ℕ) → Bool
is_generated_save seed i = (i % 51 == 50) || (i + 1 == generated_count seed)

-- the command of this number, from 0, on a main text of so many items: a save is full where the file counts seven fast
-- ones, and else fast; an edit is counted
-- without the saves before it
abbrev pub generated_command : (seed i main quick_saves : ℕ) → Command
generated_command seed i main quick_saves =
    if is_generated_save seed i then Save (quick_saves == 7) else generated_edit seed (i - i / 51 + 1) main
