-- Units on one path, one behind the other.
use Rattle.std.proofs.Common.{◌≡◌, ◌∙◌, ◌+◌, ◌<◌, ℕ, Bool, true, List, [], ◌∷◌, ◌++◌, length, map, take, refl, ap}
use Rattle.std.specs.Prelude.{slice_index}
use Rattle.std.proofs.lemmas.List.{map-append, take_more}
use Rattle.std.specs.Prelude.{if◌then◌else◌}
use Rattle.view_paths.specs.Events.{Event, Leaf, Turn, closes, events_up_to, opens, transition, turns}
use Rattle.view_paths.specs.Paths.{PathPlace, behind_shared, last_path, shared}
use Rattle.view_places.specs.declared.element.Element.{Element}
use Rattle.view_places.specs.declared.glyph.Glyph.{Glyph}
use Rattle.view_places.specs.declared.glyph.Glyph.TheVariants.{Unit}
use Rattle.view_places.specs.Same.{same}
use Rattle.view_places.specs.SameLaws.{same_exact}
use Rattle.glyph_units.specs.Glyphs.{leaves, unit_place, unit_places}

-- nothing is left of a path behind itself
behind-self : (path : List Element) → behind_shared same path path ≡ []
behind-self [] = refl
behind-self (e ∷ path) =
    ap (λ (b : Bool). if b then behind_shared same path path else e ∷ path) ((same_exact e e).1 refl) ∙ behind-self path

-- nothing is opened and closed on the way from a path to itself
turns-self : (path : List Element) → turns {G = Glyph} same path path ≡ []
unfolding transition
turns-self path =
    ap (λ (rest : List Element). map {B = Event Element Glyph} Turn (closes (shared same path path) rest ++ opens (shared
    same path path) rest)) (behind-self path)

pub leaves-on : (path : List Element) (units : List ℕ) → events_up_to same path (unit_places path units) ≡ leaves path units
leaves-on path [] = refl
leaves-on path (unit ∷ units) = λ i. turns-self path i ++ (Leaf path (Unit unit) ∷ leaves-on path units i)

-- the events of units on a path, from another one
pub events-units : (before path : List Element) (unit : ℕ) (units : List ℕ) → events_up_to same before (unit_places path
    (unit ∷ units)) ≡ turns same before path ++ leaves path (unit ∷ units)
events-units before path unit units =
    ap (λ (more : List (Event Element Glyph)). turns same before path ++ (Leaf path (Unit unit) ∷ more)) (leaves-on path
    units)

pub last-on : (path : List Element) (units : List ℕ) → last_path path (unit_places path units) ≡ path
last-on path [] = refl
last-on path (unit ∷ units) = last-on path units

-- the path is open then
pub last-units : (before path : List Element) (unit : ℕ) (units : List ℕ) → last_path before (unit_places path (unit ∷
    units)) ≡ path
last-units before path unit units = last-on path units

-- one unit more
pub unit_places-more : (path : List Element) (units : List ℕ) (i : ℕ) → i < length units → unit_places path (take (i + 1)
    units) ≡ unit_places path (take i units) ++ unit_place path (slice_index units i) ∷ []
unit_places-more path units i within =
    ap (unit_places path) (take_more units i 0 within)
    ∙ map-append {B = PathPlace Element Glyph} (unit_place path) (take i units) (slice_index units i ∷ [])
