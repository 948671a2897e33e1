-- The tags that a page may have.
use Rattle.std.specs.Prelude.{◌≡◌, ℕ, List, [], ◌∷◌, ◌++◌, codes, slice_get, Option, Some, ⊤, ◌⊎◌}
use Rattle.std.specs.Fmt.{decimal}
use Rattle.std.specs.List.{All}
use Rattle.html_text.specs.Tokens.{Token, Character, Tag, escaped_text}
use Rattle.field_links.specs.Urls.{anchor_name}
use Rattle.field_links.specs.Laws.{IsSchemeUrl, IsLocalUrl}
use Rattle.html_page.specs.Tags.{attribute, start_text}
use Rattle.html_page.specs.Languages.{language_code}
use Rattle.doc_pictures.specs.declared.names.PictureName.{PictureName}
use Rattle.doc_pictures.specs.Files.{ImageFiles, picture_name_at}
use Rattle.html_page.specs.Images.{image_url}

-- the names of elements
abbrev pub known_names : List (List ℕ)
known_names =
    codes "!DOCTYPE" ∷ codes "html" ∷ codes "head" ∷ codes "meta" ∷ codes "title" ∷ codes "style" ∷ codes "body"
    ∷ codes "section" ∷ codes "aside" ∷ codes "table" ∷ codes "thead" ∷ codes "tbody" ∷ codes "tr" ∷ codes "td" ∷
    codes "th"
    ∷ codes "ol" ∷ codes "ul" ∷ codes "li" ∷ codes "p" ∷ codes "h1" ∷ codes "h2" ∷ codes "h3" ∷ codes "h4" ∷ codes "h5"
    ∷ codes "h6" ∷ codes "span" ∷ codes "a" ∷ codes "b" ∷ codes "i" ∷ codes "u" ∷ codes "s" ∷ codes "sup" ∷ codes "sub"
    ∷ codes "br" ∷ codes "img" ∷ []

-- the attributes of elements, some with a number, but those of links, bookmarks and images
abbrev pub known_attributes : ℕ → List (List ℕ)
known_attributes number =
    codes "html"
    ∷ attribute (codes "charset") (codes "utf-8")
    ∷ attribute (codes "name") (codes "viewport")
    ∷ attribute (codes "content") (codes "width=device-width,initial-scale=1")
    ∷ attribute (codes "aria-label") (codes "notes")
    ∷ attribute (codes "id") (codes "fn-" ++ decimal number)
    ∷ attribute (codes "role") (codes "doc-footnote")
    ∷ attribute (codes "scope") (codes "col")
    ∷ attribute (codes "style") (codes "list-style:none")
    ∷ attribute (codes "aria-level") (decimal number)
    ∷ attribute (codes "dir") (codes "rtl")
    ∷ attribute (codes "style") (codes "break-before:page")
    ∷ attribute (codes "class") (codes "n")
    ∷ attribute (codes "id") (codes "fnref-" ++ decimal number)
    ∷ attribute (codes "href") (codes "#fn-" ++ decimal number)
    ∷ attribute (codes "role") (codes "doc-noteref")
    ∷ attribute (codes "href") (codes "#fnref-" ++ decimal number)
    ∷ attribute (codes "role") (codes "doc-backlink")
    ∷ attribute (codes "style") (codes "font-variant:small-caps")
    ∷ attribute (codes "style") (codes "text-transform:uppercase")
    ∷ attribute (codes "role") (codes "img")
    ∷ attribute (codes "aria-label") (codes "picture")
    ∷ attribute (codes "aria-label") (codes "object")
    ∷ attribute (codes "style") (codes "break-after:page")
    ∷ attribute (codes "lang") (language_code number)
    ∷ attribute (codes "colspan") (decimal number)
    ∷ attribute (codes "rowspan") (decimal number)
    ∷ attribute (codes "alt") []
    ∷ []

abbrev pub IsKnownName : List ℕ → Type 0
IsKnownName name = (i : ℕ) × (slice_get known_names i ≡ Some name)

abbrev pub IsListedAttribute : List ℕ → Type 0
IsListedAttribute text = (number : ℕ) × ((i : ℕ) × (slice_get (known_attributes number) i ≡ Some text))

-- the attribute of a link: its URL has one of five schemes, or leads to a bookmark
pub record IsLinkAttribute (text : List ℕ) : Type 0 where
  pub url : List ℕ
  pub allowed : IsSchemeUrl url ⊎ IsLocalUrl url
  pub value : text ≡ attribute (codes "href") (escaped_text url)

-- the attribute of the beginning of a bookmark
pub record IsAnchorAttribute (text : List ℕ) : Type 0 where
  pub name : List ℕ
  pub value : text ≡ attribute (codes "id") (escaped_text (anchor_name name))

-- the attribute of an image: the address of the file of one of the pictures, and nothing of the document
pub record IsSourceAttribute (images : ImageFiles) (text : List ℕ) : Type 0 where
  pub place : Option ℕ
  pub name : PictureName
  pub file : picture_name_at images.pictures place ≡ Some name
  pub value : text ≡ attribute (codes "src") (escaped_text (image_url images.folder name))

abbrev pub IsKnownAttribute : ImageFiles → List ℕ → Type 0
IsKnownAttribute images text =
    IsListedAttribute text ⊎ (IsLinkAttribute text ⊎ (IsAnchorAttribute text ⊎ IsSourceAttribute images text))

-- a start tag of these
pub record IsKnownStart (images : ImageFiles) (inner : List ℕ) : Type 0 where
  pub name : List ℕ
  pub attributes : List (List ℕ)
  pub text : inner ≡ start_text name attributes
  pub known : IsKnownName name
  pub all : All (IsKnownAttribute images) attributes

-- an end tag of these
pub record IsKnownEnd (inner : List ℕ) : Type 0 where
  pub name : List ℕ
  pub text : inner ≡ 47 ∷ name
  pub known : IsKnownName name

-- a character, or a tag of these
abbrev pub IsKnownToken : ImageFiles → Token → Type 0
IsKnownToken images (Character code) = ⊤
IsKnownToken images (Tag inner) = IsKnownStart images inner ⊎ IsKnownEnd inner
