-- What the definitions imply.
use Rattle.std.specs.Prelude.{◌≡◌, Bool, List, [], ◌∷◌, ◌++◌}
use Rattle.std.specs.List.{filter_map}
use Rattle.view_paths.specs.Paths.{PathPlace}
use Rattle.view_paths.specs.Events.{Event, Open, Close, Turn, Leaf, events_from, event_glyph}

-- the events nest, from one path that is open to another: an element is opened inside of all that are open, the element
-- that is closed is the innermost one that is open, and what is shown is in exactly those that are open
abbrev pub AreNested : {E G : Type 0} → List E → List (Event E G) → List E → Type 0
AreNested around [] end = around ≡ end
AreNested around (Turn (Open front e) ∷ more) end = (front ≡ around) × AreNested (around ++ e ∷ []) more end
AreNested around (Turn (Close front e) ∷ more) end = (around ≡ front ++ e ∷ []) × AreNested front more end
AreNested around (Leaf path glyph ∷ more) end = (path ≡ around) × AreNested around more end

-- the events of places nest, and at the end nothing is open
abbrev pub PathsNest : (E G : Type 0) → (E → E → Bool) → Type 0
PathsNest E G same = (places : List (PathPlace E G)) → AreNested [] (events_from same [] places) []

-- the events of places show their glyphs, each once and in order
abbrev pub GlyphsStay : (E G : Type 0) → (E → E → Bool) → Type 0
GlyphsStay E G same =
    (places : List (PathPlace E G)) →
    filter_map event_glyph (events_from same [] places) ≡ filter_map (λ place. place.glyph) places
