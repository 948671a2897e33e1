-- What the words of a run ask for.
use Rattle.std.specs.Prelude.{◌≡◌, ℕ, Bool, true, false, List, [], ◌∷◌, Option, Some, None, codes, if◌then◌else◌}
use Rattle.std.specs.Str.{bytes_eq}
use Rattle.docfit_run.specs.declared.words.Asked.{Asked}
use Rattle.docfit_run.specs.declared.words.Asked.TheVariants as asked

-- how the program is called, which it is, or the document of a file under a name, with its endnotes as notes or plain
pub data Request : Type 0 where
  help : Request
  version : Request
  fit : (plain : Bool) → (file out : List ℕ) → Request

abbrev pub request_of : Asked → Request
request_of asked.Help = help
request_of asked.Version = version
request_of (asked.Fit plain file out) = fit plain file.now out.now

-- two words are names, behind `--plain` or alone; of single words two are known
abbrev pub requested : List (List ℕ) → Option Request
requested [] = None
requested (word ∷ []) =
    if bytes_eq word (codes "--help") then Some help else
    if bytes_eq word (codes "--version") then Some version else None
requested (file ∷ out ∷ []) = Some (fit false file out)
requested (word ∷ file ∷ out ∷ []) =
    if bytes_eq word (codes "--plain") then Some (fit true file out) else None
requested (first ∷ second ∷ third ∷ fourth ∷ more) = None

-- the words put something under the name
abbrev pub WordsPutUnder : List (List ℕ) → List ℕ → Type 0
WordsPutUnder words name = (plain : Bool) × ((file : List ℕ) × (requested words ≡ Some (fit plain file name)))
