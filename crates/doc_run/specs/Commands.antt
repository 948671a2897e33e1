-- What the words of a run ask for.
use Rattle.std.specs.Prelude.{◌≡◌, ◌≤◌, List, [], ◌∷◌, ℕ, length, codes, Option, Some, None}
use Rattle.std.specs.Str.Parse.{IsNumeral, digits_value}
use Rattle.script_run.specs.GeneratedRuns.{most_seed}
use Rattle.document_commands.specs.Tasks.{FileTask, text_task, check_task, show_task, props_task, outline_task}
use Rattle.document_commands.specs.Tasks.{full_task}
use Rattle.document_commands.specs.Tasks.{title_task, retitle_task, export_task, task_of, out_of}
use Rattle.summary_set.specs.Written.{IsTitle}
use Rattle.document_commands.specs.Tasks.{PairTask, compare_task, join_task, pair_task_of, out_of_two}
use Rattle.doc_run.specs.declared.command.Command as asked
use Rattle.doc_run.specs.declared.command.Command.TheVariants as asked_for

-- a command, with the names that it is given
pub data Request : Type 0 where
  -- list the streams of a file
  streams : (file : List ℕ) → Request
  -- do a task on the document of a file
  on_document : (task : FileTask) → (file : List ℕ) → Request
  -- do a task on the documents of two files
  on_two : (pair : PairTask) → (first second : List ℕ) → Request
  -- edit the document of a file by a script, and put its last save under a name
  edit : (file script out : List ℕ) → Request
  -- save the document that is the JSON of a file under a name
  from_json : (file out : List ℕ) → Request
  -- put what the generator makes of a seed under a name
  generate : (seed : ℕ) → (out : List ℕ) → Request

-- the command that the program keeps
abbrev pub request_of : asked.Command → Request
request_of (asked_for.Streams file) = streams file.now
request_of (asked_for.OnDocument task file) = on_document (task_of task) file.now
request_of (asked_for.OnTwo pair first second) = on_two (pair_task_of pair) first.now second.now
request_of (asked_for.Edit file script out) = edit file.now script.now out.now
request_of (asked_for.Import file out) = from_json file.now out.now
request_of (asked_for.Gen seed out) = generate seed out.now

-- the number of a word of one to nine decimal digits
pub record IsPosition (word : List ℕ) (pos : ℕ) : Type 0 where
  pub short : length word ≤ 9
  pub digits : IsNumeral 10 word
  pub value : pos ≡ digits_value 10 word

-- such a number that is no greater than a seed may be
pub record IsSeed (word : List ℕ) (seed : ℕ) : Type 0 where
  pub number : IsPosition word seed
  pub few : seed ≤ most_seed

-- the words ask for the properties at a position of the file
pub record AsksAtPosition (words : List (List ℕ)) (pos : ℕ) (file : List ℕ) : Type 0 where
  pub position : List ℕ
  pub number : IsPosition position pos
  pub spelt : words ≡ codes "props" ∷ file ∷ position ∷ []

-- the words ask for what the generator makes of a seed
pub record AsksForGenerated (words : List (List ℕ)) (seed : ℕ) (out : List ℕ) : Type 0 where
  pub word : List ℕ
  pub number : IsSeed word seed
  pub spelt : words ≡ codes "gen" ∷ word ∷ out ∷ []

-- the words ask for another title of the document of a file
pub record AsksToRetitle (words : List (List ℕ)) (title out file : List ℕ) : Type 0 where
  pub plain : IsTitle title
  pub spelt : words ≡ codes "retitle" ∷ file ∷ title ∷ out ∷ []

-- the words ask for a task on the document of a file
abbrev pub AsksFor : List (List ℕ) → FileTask → (file : List ℕ) → Type 0
AsksFor words text_task file = words ≡ codes "text" ∷ file ∷ []
AsksFor words check_task file = words ≡ codes "check" ∷ file ∷ []
AsksFor words show_task file = words ≡ codes "show" ∷ file ∷ []
AsksFor words (props_task pos) file = AsksAtPosition words pos file
AsksFor words outline_task file = words ≡ codes "outline" ∷ file ∷ []
AsksFor words (full_task out) file = words ≡ codes "full" ∷ file ∷ out ∷ []
AsksFor words title_task file = words ≡ codes "title" ∷ file ∷ []
AsksFor words (retitle_task title out) file = AsksToRetitle words title out file
AsksFor words (export_task out) file = words ≡ codes "export" ∷ file ∷ out ∷ []

-- the words ask for a task on the documents of two files
abbrev pub AsksForTwo : List (List ℕ) → PairTask → (first second : List ℕ) → Type 0
AsksForTwo words compare_task first second = words ≡ codes "equal" ∷ first ∷ second ∷ []
AsksForTwo words (join_task out) first second = words ≡ codes "join" ∷ first ∷ second ∷ out ∷ []

-- the words are the command
abbrev pub IsCommand : List (List ℕ) → Request → Type 0
IsCommand words (streams file) = words ≡ codes "streams" ∷ file ∷ []
IsCommand words (on_document task file) = AsksFor words task file
IsCommand words (on_two pair first second) = AsksForTwo words pair first second
IsCommand words (edit file script out) = words ≡ codes "edit" ∷ file ∷ script ∷ out ∷ []
IsCommand words (from_json file out) = words ≡ codes "import" ∷ file ∷ out ∷ []
IsCommand words (generate seed out) = AsksForGenerated words seed out

-- the words are no command
abbrev pub IsNoCommand : List (List ℕ) → Type 0
IsNoCommand words = (command : Request) → ¬ (IsCommand words command)

-- words are one command at most
abbrev pub CommandIsOne : Type 0
CommandIsOne = (words : List (List ℕ)) (a b : Request) → IsCommand words a → IsCommand words b → a ≡ b

-- the name under which the command puts bytes, where it has one
abbrev pub put_under : Request → Option (List ℕ)
put_under (streams file) = None
put_under (on_document task file) = out_of task
put_under (on_two pair first second) = out_of_two pair
put_under (edit file script out) = Some out
put_under (from_json file out) = Some out
put_under (generate seed out) = Some out

-- the command puts bytes under the name
abbrev pub PutsUnder : Request → List ℕ → Type 0
PutsUnder command name = put_under command ≡ Some name
