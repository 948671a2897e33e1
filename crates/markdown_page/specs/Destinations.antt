-- Where links lead in Markdown: to an address. A bookmark of the page itself has no anchor there.
use Rattle.std.specs.Prelude.{ℕ, ◌==◌, Bool, false, List, [], ◌∷◌, Option, None, Some, if◌then◌else◌}
use Rattle.doc_model.specs.declared.document.Document.{Document}
use Rattle.view_paths.specs.Events.{Open, Close}
use Rattle.view_paths.specs.Events.{Tag as PathTag}
use Rattle.view_places.specs.declared.element.Element.{Element}
use Rattle.view_places.specs.declared.element.Element.TheVariants.{Link as ALink}
use Rattle.view_places.specs.declared.element.Link.{Link}
use Rattle.link_targets.specs.Links.{instruction_of, url_in}
use Rattle.markdown_text.specs.Tokens.{Token, Markup, Destination}

-- a number sign is first
abbrev pub is_local : List ℕ → Bool
is_local [] = false
is_local (code ∷ url) = code == 35

abbrev pub address_in : Option (List ℕ) → Option (List ℕ)
address_in None = None
address_in (Some url) = if is_local url then None else Some url

abbrev pub address_of : Document → Link → Option (List ℕ)
address_of document link = address_in (url_in (instruction_of document link))

-- what is before the text of a link, and behind it
abbrev pub link_front_tokens : Option (List ℕ) → List Token
link_front_tokens None = []
link_front_tokens (Some url) = Markup 91 ∷ []

abbrev pub link_end_tokens : Option (List ℕ) → List Token
link_end_tokens None = []
link_end_tokens (Some url) = Markup 93 ∷ Destination url ∷ []

-- of an element
abbrev pub address_at : Document → Element → Option (List ℕ)
address_at document (ALink link) = address_of document link
address_at document element = None

-- an element is opened or closed
abbrev pub link_tokens : Document → PathTag Element → List Token
link_tokens document (Open path element) = link_front_tokens (address_at document element)
link_tokens document (Close path element) = link_end_tokens (address_at document element)
