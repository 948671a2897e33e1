-- What words ask for.
use Rattle.std.specs.Prelude.{ℕ, Bool, true, false, not, ◌&&◌, ◌==◌, List, [], ◌∷◌, drop, Option, Some, None, codes}
use Rattle.std.specs.Prelude.{if◌then◌else◌}
use Rattle.std.specs.Str.{bytes_eq}
use Rattle.property_text.specs.declared.page.PropertyForm.{PropertyForm}
use Rattle.property_text.specs.declared.page.PropertyForm.TheVariants.{Lines, Json}
use Rattle.docview_run.specs.declared.view.Form.TheVariants.{Text, Html, Markdown}
use Rattle.docview_run.specs.declared.view.View.{View}
use Rattle.docview_run.specs.declared.words.Asked.{Asked}
use Rattle.docview_run.specs.declared.words.Asked.TheVariants as variant

-- how the program is called, which it is, the page of a file, the same behind the files of its pictures in a folder, or
-- the properties of a file
pub data Request : Type 0 where
  help : Request
  version : Request
  page : View → List ℕ → Request
  pictured : View → (folder : List ℕ) → (force : Bool) → List ℕ → Request
  properties : PropertyForm → List ℕ → Request

abbrev pub request_of : Asked → Request
request_of variant.Help = help
request_of variant.Version = version
request_of (variant.Page view file) = page view file.now
request_of (variant.Pictured view album file) = pictured view album.folder.now album.force file.now
request_of (variant.Properties form file) = properties form file.now

abbrev pub begins_with_hyphen : List ℕ → Bool
begins_with_hyphen [] = false
begins_with_hyphen (first ∷ more) = first == 45

-- the page of a file; a hyphen names the standard input, and no other word that begins with one names a file
abbrev pub page_request : View → List ℕ → Option Request
page_request view file =
    if bytes_eq file (codes "-") then Some (page view (codes "/dev/stdin")) else
    if begins_with_hyphen file then None else Some (page view file)

-- its page in the form that a word names
abbrev pub in_form : View → List ℕ → List ℕ → Option Request
in_form view form file =
    if bytes_eq form (codes "text") then page_request (record view { form = Text }) file else
    if bytes_eq form (codes "markdown") then page_request (record view { form = Markdown }) file else
    if bytes_eq form (codes "html") then page_request (record view { form = Html }) file else None

-- a page behind the files of its pictures
abbrev pub with_pictures : (folder : List ℕ) → (force : Bool) → Option Request → Option Request
with_pictures folder force None = None
with_pictures folder force (Some help) = None
with_pictures folder force (Some version) = None
with_pictures folder force (Some (page view file)) = Some (pictured view folder force file)
with_pictures folder force (Some (pictured view other again file)) = None
with_pictures folder force (Some (properties form file)) = None

abbrev pub pictured_in : View → (form folder : List ℕ) → (force : Bool) → List ℕ → Option Request
pictured_in view form folder force file = with_pictures folder force (in_form view form file)

-- behind a form: the option for pictures, and that for files that are there
abbrev pub illustrated : View → (form option folder : List ℕ) → List ℕ → Option Request
illustrated view form option folder file =
    if bytes_eq option (codes "--pictures") then pictured_in view form folder false file else None

abbrev pub forced : View → (form option folder force : List ℕ) → List ℕ → Option Request
forced view form option folder force file =
    if bytes_eq option (codes "--pictures") && bytes_eq force (codes "--force") then
    pictured_in view form folder true file else None

-- a file alone, or a form and a file, with pictures or without
abbrev pub viewed : View → List (List ℕ) → Option Request
viewed view [] = None
viewed view (file ∷ []) = page_request view file
viewed view (form ∷ file ∷ []) = in_form view form file
viewed view (form ∷ option ∷ file ∷ []) = None
viewed view (form ∷ option ∷ folder ∷ file ∷ []) = illustrated view form option folder file
viewed view (form ∷ option ∷ folder ∷ force ∷ file ∷ []) = forced view form option folder force file
viewed view (form ∷ option ∷ folder ∷ force ∷ file ∷ next ∷ more) = None

-- what is shown without options: the text of what is seen, of any file that has a document
abbrev pub plain_view : View
plain_view = record { form = Text; options = record { hidden = false; headers = false }; strict = false }

-- what options ask for, and the words behind them
pub record Behind : Type 0 where
  pub view : View
  pub words : List (List ℕ)

abbrev pub is_hidden : View → List ℕ → Bool
is_hidden view word = not view.options.hidden && bytes_eq word (codes "--hidden")

abbrev pub is_headers : View → List ℕ → Bool
is_headers view word = not view.options.headers && bytes_eq word (codes "--headers")

abbrev pub is_strict : View → List ℕ → Bool
is_strict view word = not view.strict && bytes_eq word (codes "--strict")

abbrev pub with_hidden : View → View
with_hidden view = record view { options = record view.options { hidden = true } }

abbrev pub with_headers : View → View
with_headers view = record view { options = record view.options { headers = true } }

-- one option more, where the first word is one that was not there
abbrev pub behind_option : View → List (List ℕ) → Behind
behind_option view [] = record { view = view; words = [] }
behind_option view (word ∷ words) =
    if is_hidden view word then record { view = with_hidden view; words = words } else
    if is_headers view word then record { view = with_headers view; words = words } else
    if is_strict view word then record { view = record view { strict = true }; words = words } else
    record { view = view; words = word ∷ words }

-- options are first, each once
abbrev pub viewed_behind : Behind → Option Request
viewed_behind at = viewed at.view at.words

abbrev pub behind_next_option : Behind → Behind
behind_next_option at = behind_option at.view at.words

abbrev pub viewed_by : List (List ℕ) → Option Request
viewed_by words = viewed_behind (behind_next_option (behind_next_option (behind_option plain_view words)))

-- the properties of a file
abbrev pub properties_named : PropertyForm → List ℕ → Option Request
properties_named form file =
    if bytes_eq file (codes "-") then Some (properties form (codes "/dev/stdin")) else
    if begins_with_hyphen file then None else Some (properties form file)

-- behind the word for them: a file alone, or the option for JSON and a file
abbrev pub properties_by : List (List ℕ) → Option Request
properties_by [] = None
properties_by (file ∷ []) = properties_named Lines file
properties_by (option ∷ file ∷ []) = if bytes_eq option (codes "--json") then properties_named Json file else None
properties_by (option ∷ file ∷ next ∷ more) = None

-- the first word asks for properties
abbrev pub asks_for_properties : List (List ℕ) → Bool
asks_for_properties [] = false
asks_for_properties (word ∷ words) = bytes_eq word (codes "meta")

-- the properties of a file, or its page
abbrev pub requested_many : List (List ℕ) → Option Request
requested_many words = if asks_for_properties words then properties_by (drop 1 words) else viewed_by words

abbrev pub requested_alone : List ℕ → Option Request
requested_alone word =
    if bytes_eq word (codes "--help") then Some help else
    if bytes_eq word (codes "--version") then Some version else page_request plain_view word

-- the view of a page that is asked for
abbrev pub shown_view : Option Request → Option View
shown_view None = None
shown_view (Some help) = None
shown_view (Some version) = None
shown_view (Some (page view file)) = Some view
shown_view (Some (pictured view folder force file)) = Some view
shown_view (Some (properties form file)) = None

-- the folder for the files of its pictures
abbrev pub shown_folder : Option Request → Option (List ℕ)
shown_folder None = None
shown_folder (Some help) = None
shown_folder (Some version) = None
shown_folder (Some (page view file)) = None
shown_folder (Some (pictured view folder force file)) = Some folder
shown_folder (Some (properties form file)) = None

-- what words ask for, where they ask for something
abbrev pub requested : List (List ℕ) → Option Request
requested [] = None
requested (word ∷ []) = requested_alone word
requested (word ∷ next ∷ more) = requested_many (word ∷ next ∷ more)
