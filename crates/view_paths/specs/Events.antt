-- What is opened, closed and shown on the way through places.
use Rattle.std.specs.Prelude.{Bool, List, [], ◌∷◌, ◌++◌, map, Option, None, Some}
use Rattle.view_paths.specs.Paths.{shared, behind_shared, PathPlace}

-- an element that is opened or closed, with the path outside of it
pub data Tag (E : Type 0) : Type 0 where
  Open : List E → E → Tag E
  Close : List E → E → Tag E

-- an element is opened or closed, or something is shown on a path
pub data Event (E G : Type 0) : Type 0 where
  Turn : Tag E → Event E G
  Leaf : List E → G → Event E G

-- the elements of a list are opened, inside of the path
abbrev pub opens : {E : Type 0} → List E → List E → List (Tag E)
opens front [] = []
opens front (e ∷ more) = Open front e ∷ opens (front ++ e ∷ []) more

-- the elements of a list, which are inside of the path, are closed, the innermost first
abbrev pub closes : {E : Type 0} → List E → List E → List (Tag E)
closes front [] = []
closes front (e ∷ more) = closes (front ++ e ∷ []) more ++ Close front e ∷ []

-- from a path to the next one: what is behind the front that they share is closed and opened
unfoldable pub transition : {E : Type 0} → (E → E → Bool) → List E → List E → List (Tag E)
transition same from to =
    closes (shared same from to) (behind_shared same from to) ++ opens (shared same from to) (behind_shared same to
    from)

-- a transition as events
abbrev pub turns : {E G : Type 0} → (E → E → Bool) → List E → List E → List (Event E G)
turns same from to = map Turn (transition same from to)

-- what is shown on a path
abbrev pub leaf : {E G : Type 0} → List E → Option G → List (Event E G)
leaf path None = []
leaf path (Some glyph) = Leaf path glyph ∷ []

-- the events up to the last place, which stays open
abbrev pub events_up_to : {E G : Type 0} → (E → E → Bool) → List E → List (PathPlace E G) → List (Event E G)
events_up_to same before [] = []
events_up_to same before (place ∷ more) =
    turns same before place.path ++ (leaf place.path place.glyph ++ events_up_to same place.path more)

-- the events of places where a path is open; at the end all is closed
abbrev pub events_from : {E G : Type 0} → (E → E → Bool) → List E → List (PathPlace E G) → List (Event E G)
events_from same before [] = turns same before []
events_from same before (place ∷ more) =
    turns same before place.path ++ (leaf place.path place.glyph ++ events_from same place.path more)

-- the glyph of an event, if it shows one
abbrev pub event_glyph : {E G : Type 0} → Event E G → Option G
event_glyph (Turn tag) = None
event_glyph (Leaf path glyph) = Some glyph
