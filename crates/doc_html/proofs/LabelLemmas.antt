-- The units of a label one by one.
use Rattle.std.proofs.Common.{◌≡◌, ◌∙◌, ℕ, ◌+◌, ◌<◌, List, [], ◌∷◌, ◌++◌, length, take, map, ap, sym, refl, arith}
use Rattle.std.specs.Prelude.{slice_index}
use Rattle.std.specs.List.{cons_option, filter_map}
use Rattle.std.proofs.lemmas.List.{map-append, take_more}
use Rattle.std.proofs.lemmas.List.Elements.{filter_map-append}
use Rattle.view_places.specs.declared.element.Element.{Element}
use Rattle.view_places.specs.declared.element.Element.TheVariants.{Label}
use Rattle.view_places.specs.declared.glyph.Glyph.TheVariants.{Unit}
use Rattle.doc_view.specs.Labels.{label_glyph, label_glyphs}
use Rattle.doc_places.specs.Places.{label_places, shown_place}

-- one unit more
pub units_on : (path : List Element) (units : List ℕ) (i : ℕ) → i < length units →
    map (shown_place path) (filter_map label_glyph (take i units))
    ++ map (shown_place path) (cons_option (label_glyph (slice_index units i)) [])
    ≡ map (shown_place path) (filter_map label_glyph (take (i + 1) units))
units_on path units i within =
    sym (ap (λ (us : List ℕ). map (shown_place path) (filter_map label_glyph us)) (take_more units i 0 within)
    ∙ ap (map (shown_place path)) (filter_map-append label_glyph (take i units) (slice_index units i ∷ []))
    ∙ map-append (shown_place path) (filter_map label_glyph (take i units)) (cons_option (label_glyph (slice_index units
    i))
    []))

-- the units, and a space behind them
pub label_whole : (path : List Element) (units : List ℕ) →
    map (shown_place path) (filter_map label_glyph units) ++ shown_place path (Unit 0x20) ∷ [] ≡ map (shown_place path)
    (label_glyphs units)
label_whole path units = sym (map-append (shown_place path) (filter_map label_glyph units) (Unit 0x20 ∷ []))

-- a label without units has no place
pub no_label : (block : List Element) (units : List ℕ) → length units ≡ 0 → label_places block units ≡ []
no_label block [] none = refl
no_label block (unit ∷ units) none = absurd (omega (arith, none))

-- one that has some
pub some_label : (block : List Element) (units : List ℕ) → 0 < length units → label_places block units ≡ map
    (shown_place
    (block ++ Label ∷ [])) (label_glyphs units)
some_label block [] some = absurd (omega (arith, some))
some_label block (unit ∷ units) some = refl
