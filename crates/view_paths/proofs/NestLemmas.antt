-- Events nest, and show the glyphs of their places.
use Rattle.std.proofs.Common.{◌≡◌, Bool, List, [], ◌∷◌, ◌++◌, map, Option, None, Some, refl, ap, sym, ◌∙◌, subst}
use Rattle.std.proofs.Common.{append_assoc}
use Rattle.std.specs.List.{filter_map}
use Rattle.std.proofs.lemmas.List.{append-nil, map-append}
use Rattle.std.proofs.lemmas.List.Elements.{filter_map-append}
use Rattle.view_paths.specs.Paths.{shared, behind_shared, PathPlace, last_path}
use Rattle.view_paths.specs.Events.{Tag, Event, Open, Close, Turn, Leaf, opens, closes, transition, turns, leaf}
use Rattle.view_paths.specs.Events.{events_up_to, events_from, event_glyph}
use Rattle.view_paths.specs.Laws.{AreNested}
use Rattle.view_paths.proofs.FrontLemmas.{IsExact, shared-behind, shared-behind_other}

-- events that nest, one list after another
pub nested-append : {E G : Type 0} (before between after : List E) (front back : List (Event E G)) → AreNested before
    front between → AreNested between back after → AreNested before (front ++ back) after
nested-append before between after [] back one other = subst (λ path. AreNested path back after) (sym one) other
nested-append before between after (Turn (Open path e) ∷ front) back one other =
    (one.0, nested-append (before ++ e ∷ []) between after front back one.1 other)
nested-append before between after (Turn (Close path e) ∷ front) back one other =
    (one.0, nested-append path between after front back one.1 other)
nested-append before between after (Leaf path glyph ∷ front) back one other =
    (one.0, nested-append before between after front back one.1 other)

pub nested-opens : {E : Type 0} (G : Type 0) (front rest : List E) → AreNested {G = G} front (map Turn (opens front rest)) (front ++
    rest)
nested-opens G front [] = sym (append-nil front)
nested-opens G front (e ∷ more) = (
  refl,
  subst (λ path. AreNested {G = G} (front ++ e ∷ []) (map Turn (opens (front ++ e ∷ []) more)) path)
      (append_assoc front (e ∷ []) more) (nested-opens G (front ++ e ∷ []) more),
)

pub nested-closes : {E : Type 0} (G : Type 0) (front rest : List E) → AreNested {G = G} (front ++ rest) (map Turn (closes front
    rest)) front
nested-closes G front [] = append-nil front
nested-closes {E} G front (e ∷ more) =
    rw (map-append {B = Event E G} Turn (closes (front ++ e ∷ []) more) (Close front e ∷ [])) (nested-append (front ++ e ∷ more) (front
    ++ e ∷ []) front (map Turn (closes (front ++ e ∷ []) more)) (Turn (Close front e) ∷ []) (subst (λ path. AreNested {G
    = G} path (map Turn (closes (front ++ e ∷ []) more)) (front ++ e ∷ [])) (append_assoc front (e ∷ []) more)
    (nested-closes G (front ++ e ∷ []) more)) (refl, refl))

pub nested-turns : {E : Type 0} (G : Type 0) (same : E → E → Bool) → IsExact same → (from to : List E) → AreNested {G = G} from
    (turns same from to) to
unfolding transition
nested-turns {E} G same exact from to =
    let front = shared same from to in
    let old = behind_shared same from to in
    let new = behind_shared same to from in
    rw (map-append {B = Event E G} Turn (closes front old) (opens front new)) (nested-append from front to (map Turn (closes front old))
    (map Turn (opens front new)) (subst (λ path. AreNested {G = G} path (map Turn (closes front old)) front)
    (shared-behind same from to) (nested-closes G front old)) (subst (λ path. AreNested {G = G} front (map Turn (opens
    front new)) path) (shared-behind_other same exact from to) (nested-opens G front new)))

nested-leaf : {E G : Type 0} (path : List E) (glyph : Option G) → AreNested path (leaf path glyph) path
nested-leaf path None = refl
nested-leaf path (Some glyph) = (refl, refl)

-- the events of places nest
pub nested-events_from : {E G : Type 0} (same : E → E → Bool) → IsExact same → (before : List E) (places : List
    (PathPlace E
    G)) → AreNested before (events_from same before places) []
nested-events_from {G} same exact before [] = nested-turns G same exact before []
nested-events_from {G} same exact before (place ∷ more) =
    nested-append before place.path [] (turns same before place.path) (leaf place.path place.glyph ++ events_from same
    place.path more) (nested-turns G same exact before place.path) (nested-append place.path place.path [] (leaf
    place.path place.glyph) (events_from same place.path more) (nested-leaf place.path place.glyph) (nested-events_from
    same exact place.path more))

-- tags show nothing
pub glyphs-tags : {E G : Type 0} (tags : List (Tag E)) → filter_map {X = Event E G} event_glyph (map Turn tags) ≡ []
glyphs-tags [] = refl
glyphs-tags (tag ∷ tags) = glyphs-tags tags

glyphs-leaf : {E G : Type 0} (path : List E) (glyph : Option G) (events : List (Event E G)) → filter_map event_glyph
    (leaf
    path glyph ++ events) ≡ filter_map (λ g. g) (glyph ∷ []) ++ filter_map event_glyph events
glyphs-leaf path None events = refl
glyphs-leaf path (Some glyph) events = refl

first-glyph : {E G : Type 0} (path : List E) (glyph : Option G) (more : List (PathPlace E G)) → filter_map (λ g. g)
    (glyph ∷
    []) ++ filter_map (λ (p : PathPlace E G). p.glyph) more ≡ filter_map (λ (p : PathPlace E G). p.glyph) (record {
      path = path;
      glyph = glyph;
    } ∷ more)
first-glyph path None more = refl
first-glyph path (Some glyph) more = refl

-- the events of places show their glyphs
pub glyphs-events_from : {E G : Type 0} (same : E → E → Bool) (before : List E) (places : List (PathPlace E G)) →
    filter_map
    event_glyph (events_from same before places) ≡ filter_map (λ place. place.glyph) places
glyphs-events_from same before [] = glyphs-tags (transition same before [])
glyphs-events_from {E} {G} same before (place ∷ more) =
    let rest = events_from same place.path more in
    let last = leaf place.path place.glyph ++ rest in
    filter_map-append event_glyph (turns same before place.path) last ∙ (ap (λ front. front ++ filter_map event_glyph
    last)
    (glyphs-tags (transition same before place.path)) ∙ (glyphs-leaf place.path place.glyph rest ∙ (ap (λ back.
    filter_map (λ g. g) (place.glyph ∷ []) ++ back) (glyphs-events_from same place.path more) ∙ first-glyph place.path
    place.glyph more)))

-- the path of the last place, of places one after another
pub last_path-append : {E G : Type 0} (before : List E) (xs ys : List (PathPlace E G)) → last_path before (xs ++ ys) ≡
    last_path (last_path before xs) ys
last_path-append before [] ys = refl
last_path-append before (place ∷ more) ys = last_path-append place.path more ys

-- the events of places one after another
pub events_up_to-append : {E G : Type 0} (same : E → E → Bool) (before : List E) (xs ys : List (PathPlace E G)) →
    events_up_to same before (xs ++ ys) ≡ events_up_to same before xs ++ events_up_to same (last_path before xs) ys
events_up_to-append same before [] ys = refl
events_up_to-append same before (place ∷ more) ys =
    rw (events_up_to-append same place.path more ys) (sym (append_assoc (turns same before place.path) (leaf place.path
    place.glyph ++ events_up_to same place.path more) (events_up_to same (last_path place.path more) ys) ∙ ap (λ back.
    turns same before place.path ++ back) (append_assoc (leaf place.path place.glyph) (events_up_to same place.path
    more) (events_up_to same (last_path place.path more) ys))))

-- and to their end
pub events_from-append : {E G : Type 0} (same : E → E → Bool) (before : List E) (xs ys : List (PathPlace E G)) →
    events_from
    same before (xs ++ ys) ≡ events_up_to same before xs ++ events_from same (last_path before xs) ys
events_from-append same before [] ys = refl
events_from-append same before (place ∷ more) ys =
    rw (events_from-append same place.path more ys) (sym (append_assoc (turns same before place.path) (leaf place.path
    place.glyph ++ events_up_to same place.path more) (events_from same (last_path place.path more) ys) ∙ ap (λ back.
    turns same before place.path ++ back) (append_assoc (leaf place.path place.glyph) (events_up_to same place.path
    more) (events_from same (last_path place.path more) ys))))
