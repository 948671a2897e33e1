-- Pictures, as images of their files: the address of a file is its path as a URL.
use Rattle.std.specs.Prelude.{ℕ, ◌/◌, ◌%◌, ◌==◌, Bool, ◌||◌, List, [], ◌∷◌, codes, if◌then◌else◌}
use Rattle.std.specs.List.{flat_map}
use Rattle.html_text.specs.Tokens.{escaped_text}
use Rattle.field_links.specs.Urls.{is_alphanumeric, upper_hex_digit}
use Rattle.doc_pictures.specs.declared.names.PictureName.{PictureName}
use Rattle.doc_pictures.specs.Names.{picture_path}
use Rattle.html_page.specs.Tags.{attribute}

-- [RFC 3986] the bytes of a path that represent themselves: letters, digits, -._~ and /
-- Profile: no colon, so that no folder is a scheme
abbrev pub is_path_byte : ℕ → Bool
is_path_byte byte =
    is_alphanumeric byte || (byte == 45 || (byte == 46 || (byte == 95 || (byte == 126 || byte == 47))))

-- any other one is behind a percent sign, in two digits
abbrev pub coded_byte : ℕ → List ℕ
coded_byte byte = 37 ∷ upper_hex_digit (byte / 16) ∷ upper_hex_digit (byte % 16) ∷ []

abbrev pub path_byte : ℕ → List ℕ
path_byte byte = if is_path_byte byte then byte ∷ [] else coded_byte byte

-- a path as a URL
abbrev pub path_url : List ℕ → List ℕ
path_url path = flat_map path_byte path

-- the address of the file of a picture in a folder
abbrev pub image_url : List ℕ → PictureName → List ℕ
image_url folder name = path_url (picture_path folder name.number name.kind)

-- its attributes
abbrev pub image_attributes : List ℕ → PictureName → List (List ℕ)
image_attributes folder name =
    attribute (codes "src") (escaped_text (image_url folder name)) ∷ attribute (codes "alt") [] ∷ []
