-- How many bytes of a page its document says: those of the addresses of links, and of images.
use Rattle.std.specs.Prelude.{◌≡◌, ℕ, ◌≤◌, List, length, Option, None, Some, encode_utf8_all}
use Rattle.doc_model.specs.declared.document.Document.{Document}
use Rattle.doc_pictures.specs.declared.names.PictureName.{PictureName}
use Rattle.doc_pictures.specs.Files.{ImageFiles, picture_name_at}
use Rattle.view_places.specs.declared.element.Element.{Element}
use Rattle.view_places.specs.declared.element.Element.TheVariants.{Link}
use Rattle.link_targets.specs.Links.{instruction_of, url_in}
use Rattle.html_text.specs.Tokens.{escaped_text}
use Rattle.html_page.specs.Images.{image_url}

-- the bytes of a text as the value of an attribute
abbrev pub value_bytes : List ℕ → ℕ
value_bytes text = length (encode_utf8_all (escaped_text text))

-- those of the address of a link
abbrev pub url_bytes : Option (List ℕ) → ℕ
url_bytes None = 0
url_bytes (Some url) = value_bytes url

abbrev pub address_bytes : Document → Element → ℕ
address_bytes document (Link link) = url_bytes (url_in (instruction_of document link))
address_bytes document element = 0

-- each image of a picture has an address of at most so many bytes
abbrev pub AreShortImages : ImageFiles → ℕ → Type 0
AreShortImages images most =
    (place : Option ℕ) (name : PictureName) →
    picture_name_at images.pictures place ≡ Some name → value_bytes (image_url images.folder name) ≤ most
