-- What the definitions imply.
use Rattle.std.specs.Prelude.{◌≡◌, ℕ, List, [], ◌∷◌, ◌++◌, if◌then◌else◌}
use Rattle.std.specs.List.{filter_map, flat_map}
use Rattle.view_places.specs.declared.element.Element.{Element}
use Rattle.view_places.specs.declared.glyph.Glyph.{Glyph}
use Rattle.doc_view.specs.Labels.{label_glyphs}
use Rattle.doc_view.specs.Seen.{Paragraph, glyphs_in, is_here}
use Rattle.doc_places.specs.Looks.{units_of_label}
use Rattle.doc_places.specs.Places.{Hypertext, text_places}

-- what is shown of a label: where it has units, they and a space
abbrev pub spoken_label : List ℕ → List Glyph
spoken_label [] = []
spoken_label (unit ∷ units) = label_glyphs (unit ∷ units)

-- what is shown of a paragraph: where it is here its label, and its items
abbrev pub spoken : Paragraph → List Glyph
spoken paragraph =
    (if is_here paragraph then spoken_label (units_of_label paragraph) else []) ++ glyphs_in paragraph.items

-- the places of a text have the glyphs that are shown of it, each once and in order
abbrev pub EachGlyphHasAPlace : Type 0
EachGlyphHasAPlace =
    (hypertext : Hypertext) (outer : List Element) (paragraphs : List Paragraph) →
    filter_map (λ place. place.glyph) (text_places hypertext outer paragraphs) ≡ flat_map spoken paragraphs
