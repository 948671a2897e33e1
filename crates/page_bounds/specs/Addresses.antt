-- What the addresses of the links of a page come to, and the names of the bookmarks.
use Rattle.std.specs.Prelude.{ℕ, [], length}
use Rattle.std.specs.List.{sum_by}
use Rattle.doc_model.specs.declared.document.Document.{Document}
use Rattle.view_paths.specs.Openings.{opened_from}
use Rattle.view_places.specs.Same.{same}
use Rattle.html_page.specs.Lengths.{address_bytes}
use Rattle.markdown_page.specs.Lengths.{destination_bytes}
use Rattle.markdown_page.specs.Shape.{all_shaped}
use Rattle.doc_places.specs.Places.{Places}

-- the units of the names of bookmarks
abbrev pub name_units : Document → ℕ
name_units document = sum_by (λ bookmark. length bookmark.name) document.bookmarks

-- the bytes of the links that are opened at places: of each at its first place, and at each place that is in it behind
-- one that is not
abbrev pub opened_addresses : Document → Places → ℕ
opened_addresses document places = sum_by (address_bytes document) (opened_from same [] places)

-- and in Markdown, where white space is outside of emphasis
abbrev pub opened_destinations : Document → Places → ℕ
opened_destinations document places = sum_by (destination_bytes document) (opened_from same [] (all_shaped places))
