-- What a call is given: files by their names.
use Rattle.std.specs.Prelude.{ℕ, ◌%◌, ◌/◌, ◌==◌, Bool, true, false, List, [], ◌∷◌, Option, Some, None, codes, refl}
use Rattle.std.specs.Coded.{Coded, code_by, coded×, coded_ℕ, coded_list, coded_option}
use Rattle.std.specs.Fmt.{decimal}
use Rattle.edit_guards.specs.Policies.{Policy}
use Rattle.doc_outer.specs.Held.{Files, no_files, with_file}
use Rattle.doc_run.specs.Quota.{program_policies}

-- the first file, the second one where there are two, and how often another name was asked for
pub record CallFiles : Type 0 where
  pub first : List ℕ
  pub second : Option (List ℕ)
  pub missed : ℕ

-- it is kept as its parts
abbrev pub given_code : Coded CallFiles
given_code =
    code_by (List ℕ × (Option (List ℕ) × ℕ))
    (coded× (coded_list coded_ℕ) (coded× (coded_option (coded_list coded_ℕ)) coded_ℕ))
    (λ g. (g.first, (g.second, g.missed)))
    (λ p. record { first = p.0; second = p.1.0; missed = p.1.1 })
    (λ _. refl)

-- one file under its name
abbrev pub file_alone : List ℕ → Files
file_alone first = with_file no_files (codes "first") first

-- the files under their names
abbrev pub with_second : Option (List ℕ) → Files → Files
with_second None files = files
with_second (Some second) files = with_file files (codes "second") second

abbrev pub given_files : CallFiles → Files
given_files given = with_second given.second (file_alone given.first)

-- two files under their names
abbrev pub two_files : (first second : List ℕ) → Files
two_files first second = with_file (file_alone first) (codes "second") second

-- the policies of a call: those of the program, or none
abbrev pub call_policies : Bool → List Policy
call_policies true = program_policies
call_policies false = []

-- the words of a command on one file, on two, and of one that puts bytes
abbrev pub on_one : (command : List ℕ) → List (List ℕ)
on_one command = command ∷ codes "first" ∷ []

abbrev pub on_two : (command : List ℕ) → List (List ℕ)
on_two command = command ∷ codes "first" ∷ codes "second" ∷ []

abbrev pub one_put : (command : List ℕ) → List (List ℕ)
one_put command = command ∷ codes "first" ∷ codes "out" ∷ []

abbrev pub two_put : (command : List ℕ) → List (List ℕ)
two_put command = command ∷ codes "first" ∷ codes "second" ∷ codes "out" ∷ []

-- the words that ask for the properties at a position
abbrev pub props_words : ℕ → List (List ℕ)
props_words position = codes "props" ∷ codes "first" ∷ decimal position ∷ []

-- the words that ask for another title
abbrev pub retitle_words : List ℕ → List (List ℕ)
retitle_words title = codes "retitle" ∷ codes "first" ∷ title ∷ codes "out" ∷ []

-- the words of docfit, plain or not
abbrev pub fitting_words : (is_plain : Bool) → List (List ℕ)
fitting_words true = codes "--plain" ∷ codes "first" ∷ codes "out" ∷ []
fitting_words false = codes "first" ∷ codes "out" ∷ []

-- the options are bits: 1 for a plain document
abbrev pub fit_words : (options : ℕ) → List (List ℕ)
fit_words options = fitting_words (options % 2 == 1)

-- the words of docview in a form, with options or without them
abbrev pub optional_words : (is_hidden has_headers : Bool) → (form : List ℕ) → List (List ℕ)
optional_words true true form = codes "--hidden" ∷ codes "--headers" ∷ form ∷ codes "first" ∷ []
optional_words true false form = codes "--hidden" ∷ form ∷ codes "first" ∷ []
optional_words false true form = codes "--headers" ∷ form ∷ codes "first" ∷ []
optional_words false false form = form ∷ codes "first" ∷ []

-- the options are bits: 1 for hidden text, 2 for header texts
abbrev pub view_words : (options : ℕ) → (form : List ℕ) → List (List ℕ)
view_words options form = optional_words (options % 2 == 1) (options / 2 % 2 == 1) form
