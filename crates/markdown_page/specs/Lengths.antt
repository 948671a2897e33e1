-- How many bytes of a page its document says: those of the destinations of links.
use Rattle.std.specs.Prelude.{ℕ, List, length, Option, None, Some, encode_utf8_all}
use Rattle.doc_model.specs.declared.document.Document.{Document}
use Rattle.view_places.specs.declared.element.Element.{Element}
use Rattle.markdown_text.specs.Tokens.{destination_text}
use Rattle.markdown_page.specs.Destinations.{address_at}

-- the bytes of a destination; a link that leads nowhere has none
abbrev pub url_bytes : Option (List ℕ) → ℕ
url_bytes None = 0
url_bytes (Some url) = length (encode_utf8_all (destination_text url))

abbrev pub destination_bytes : Document → Element → ℕ
destination_bytes document element = url_bytes (address_at document element)
