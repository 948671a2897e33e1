-- What is opened on the way through places, and what the events of places cost.
use Rattle.std.proofs.Common.{◌≡◌, ℕ, ◌+◌, ◌≤◌, Bool, true, false, List, [], ◌∷◌, ◌++◌, map, Option, None, Some, refl, ap}
use Rattle.std.proofs.Common.{sym, ◌∙◌, append_assoc, arith, if◌then◌else◌}
use Rattle.view_paths.specs.Paths.{shared, behind_shared, PathPlace, last_path}
use Rattle.view_paths.specs.Events.{Tag, Event, Open, Close, Turn, Leaf, opens, closes, transition, turns, leaf}
use Rattle.view_paths.specs.Events.{events_from}
use Rattle.view_paths.specs.Openings.{opened_from}
use Rattle.view_paths.proofs.FrontLemmas.{IsExact, behind-front, behind-none, shared-behind, shared-turned}

-- ---- costs

-- what all of a list cost
abbrev pub total : {A : Type 0} → (A → ℕ) → List A → ℕ
total cost [] = 0
total cost (x ∷ xs) = cost x + total cost xs

pub total-append : {A : Type 0} (cost : A → ℕ) (xs ys : List A) → total cost (xs ++ ys) ≡ total cost xs + total cost ys
total-append cost [] ys =
    let long : total cost ys ≡ 0 + total cost ys = omega arith in
    long
total-append cost (x ∷ xs) ys =
    let long : cost x + total cost (xs ++ ys) ≡ (cost x + total cost xs) + total cost ys =
    omega (arith, total-append cost xs ys) in
    long

-- two costs of each
pub total-both : {A : Type 0} (one other : A → ℕ) (xs : List A) → total (λ x. one x + other x) xs ≡ total one xs + total
    other xs
total-both one other [] = refl
total-both one other (x ∷ xs) =
    let long : (one x + other x) + total (λ x. one x + other x) xs ≡ (one x + total one xs) + (other x + total other xs) =
    omega (arith, total-both one other xs) in
    long

-- each costs no more
pub total-less : {A : Type 0} (one other : A → ℕ) → ((x : A) → one x ≤ other x) → (xs : List A) → total one xs ≤ total
    other xs
total-less one other less [] = omega arith
total-less one other less (x ∷ xs) =
    let long : one x + total one xs ≤ other x + total other xs = omega (arith, less x, total-less one other less xs) in
    long

-- ---- events

abbrev pub tag_cost : {E : Type 0} → (E → ℕ) → (E → ℕ) → Tag E → ℕ
tag_cost start end (Open path e) = start e
tag_cost start end (Close path e) = end e

abbrev pub event_cost : {E G : Type 0} → (E → ℕ) → (E → ℕ) → (G → ℕ) → Event E G → ℕ
event_cost start end show (Turn tag) = tag_cost start end tag
event_cost start end show (Leaf path glyph) = show glyph

abbrev pub glyph_cost : {G : Type 0} → (G → ℕ) → Option G → ℕ
glyph_cost show None = 0
glyph_cost show (Some glyph) = show glyph

-- what is shown at places
abbrev pub shown_cost : {E G : Type 0} → (G → ℕ) → List (PathPlace E G) → ℕ
shown_cost show places = total (λ place. glyph_cost show place.glyph) places

opens_cost : {E : Type 0} (start end : E → ℕ) (front rest : List E) → total (tag_cost start end) (opens front rest) ≡
    total start rest
opens_cost start end front [] = refl
opens_cost start end front (e ∷ more) = ap (λ n. start e + n) (opens_cost start end (front ++ e ∷ []) more)

closes_cost : {E : Type 0} (start end : E → ℕ) (front rest : List E) → total (tag_cost start end) (closes front rest) ≡
    total end rest
closes_cost start end front [] = refl
closes_cost start end front (e ∷ more) =
    let inner = closes (front ++ e ∷ []) more in
    let last : total (tag_cost start end) (Close front e ∷ []) ≡ end e + 0 = refl in
    let long : total (tag_cost start end) (inner ++ Close front e ∷ []) ≡ end e + total end more =
    omega (
      arith,
      last,
      closes_cost start end (front ++ e ∷ []) more,
      total-append (tag_cost start end) inner (Close front e ∷ []),
    ) in
    long

turned_cost : {E G : Type 0} (start end : E → ℕ) (show : G → ℕ) (tags : List (Tag E)) →
    total (event_cost start end show) (map Turn tags) ≡ total (tag_cost start end) tags
turned_cost start end show [] = refl
turned_cost start end show (tag ∷ tags) =
    ap (λ n. tag_cost start end tag + n) (turned_cost start end show tags)

turns_cost : {E G : Type 0} (same : E → E → Bool) (start end : E → ℕ) (show : G → ℕ) (from to : List E) →
    total (event_cost start end show) (turns same from to) ≡ total end (behind_shared same from to) + total start
    (behind_shared
    same to from)
unfolding transition
turns_cost same start end show from to =
    let old = closes (shared same from to) (behind_shared same from to) in
    let new = opens (shared same from to) (behind_shared same to from) in
    turned_cost start end show (old ++ new) ∙ (total-append (tag_cost start end) old new ∙ (λ i.
    closes_cost start end (shared same from to) (behind_shared same from to) i
    + opens_cost start end (shared same from to) (behind_shared same to from) i))

leaf_cost : {E G : Type 0} (start end : E → ℕ) (show : G → ℕ) (path : List E) (glyph : Option G) →
    total (event_cost start end show) (leaf path glyph) ≡ glyph_cost show glyph
leaf_cost start end show path None = refl
leaf_cost start end show path (Some glyph) =
    let long : show glyph + 0 ≡ show glyph = omega arith in long

-- what is shared, and what is behind it
parts_cost : {E : Type 0} (same : E → E → Bool) (cost : E → ℕ) (from to : List E) → total cost from ≡ total cost (shared
    same from to) + total cost (behind_shared same from to)
parts_cost same cost from to =
    ap (total cost) (sym (shared-behind same from to)) ∙ total-append cost (shared same from to) (behind_shared same
    from to)

pub behind_less : {E : Type 0} (same : E → E → Bool) (cost : E → ℕ) (from to : List E) → total cost (behind_shared same
    from
    to) ≤ total cost from
behind_less same cost from to = omega (arith, parts_cost same cost from to)

-- what is opened is closed once: so the events cost what is opened, both ways, and what is shown
pub events_cost : {E G : Type 0} (same : E → E → Bool) → IsExact same → (start end : E → ℕ) (show : G → ℕ) (before :
    List E) (places : List (PathPlace E G)) → total (event_cost start end show) (events_from same before places) ≡ total
    end before + (total (λ e. start e + end e) (opened_from same before places) + shown_cost show places)
events_cost same exact start end show before [] =
    let all : total end before ≡ total end (shared same before []) + total end (behind_shared same before []) =
    parts_cost same end before [] in
    let none : total end (shared same before []) ≡ 0 = ap (total end) (shared-turned same exact before []) in
    let long : total (event_cost start end show) (turns same before []) ≡ total end before + (0 + 0) =
    omega (arith, turns_cost same start end show before [], all, none) in
    long
events_cost {E = E} same exact start end show before (place ∷ more) =
    let cost = event_cost start end show in
    let first = turns same before place.path in
    let second = leaf place.path place.glyph in
    let rest = events_from same place.path more in
    let new = behind_shared same place.path before in
    let long : total cost (first ++ (second ++ rest)) ≡ total end before + (total (λ (e : E). start e + end e) (new ++ opened_from same
    place.path more) + (glyph_cost show place.glyph + shown_cost show more)) =
    omega (
      arith,
      total-append cost first (second ++ rest),
      total-append cost second rest,
      total-append (λ (e : E). start e + end e) new (opened_from same place.path more),
      total-both start end new,
      turns_cost same start end show before place.path,
      leaf_cost start end show place.path place.glyph,
      events_cost same exact start end show place.path more,
      parts_cost same end before place.path,
      parts_cost same end place.path before,
      ap (total end) (shared-turned same exact before place.path),
    ) in
    long

-- ---- what is opened

behind-itself : {E : Type 0} (same : E → E → Bool) → IsExact same → (path : List E) → behind_shared same path path ≡ []
behind-itself same exact [] = refl
behind-itself same exact (e ∷ path) =
    ap (λ b. if b then behind_shared same path path else e ∷ path) ((exact e e).1 refl) ∙ behind-itself same exact path

-- places one after another
pub opened-append : {E G : Type 0} (same : E → E → Bool) (before : List E) (xs ys : List (PathPlace E G)) → opened_from
    same
    before (xs ++ ys) ≡ opened_from same before xs ++ opened_from same (last_path before xs) ys
opened-append same before [] ys = refl
opened-append same before (place ∷ xs) ys =
    ap (λ more. behind_shared same place.path before ++ more) (opened-append same place.path xs ys)
    ∙ sym (append_assoc (behind_shared same place.path before) (opened_from same place.path xs) (opened_from same
    (last_path
    place.path xs) ys))

-- no more is opened than the paths have
pub opened_less : {E G : Type 0} (same : E → E → Bool) (cost : E → ℕ) (before : List E) (places : List (PathPlace E G))
    →
    total cost (opened_from same before places) ≤ total (λ place. total cost place.path) places
opened_less same cost before [] = omega arith
opened_less same cost before (place ∷ more) =
    let new = behind_shared same place.path before in
    let long : total cost (new ++ opened_from same place.path more) ≤ total cost place.path + total (λ place. total
    cost place.path) more =
    omega (
      arith,
      behind_less same cost place.path before,
      opened_less same cost place.path more,
      total-append cost new (opened_from same place.path more),
    ) in
    long

-- places on one path open it once
pub opened_on : {E G A : Type 0} (same : E → E → Bool) → IsExact same → (path : List E) (show : A → PathPlace E G) → ((x
    :
    A) → (show x).path ≡ path) → (xs : List A) → opened_from same path (map show xs) ≡ []
opened_on same exact path show on [] = refl
opened_on same exact path show on (x ∷ xs) =
    (λ i. behind_shared same (on x i) path ++ opened_from same (on x i) (map show xs))
    ∙ (ap (λ new. new ++ opened_from same path (map show xs)) (behind-itself same exact path)
    ∙ opened_on same exact path show on xs)

-- a place inside of some elements
abbrev pub within : {E G : Type 0} → List E → PathPlace E G → PathPlace E G
within front place = record { path = front ++ place.path; glyph = place.glyph }

-- where they are open, they are opened no more
pub opened_inside : {E G : Type 0} (same : E → E → Bool) → IsExact same → (front path : List E) (places : List
    (PathPlace E
    G)) → opened_from same (front ++ path) (map (within front) places) ≡ opened_from same path places
opened_inside same exact front path [] = refl
opened_inside same exact front path (place ∷ more) =
    λ i. behind-front same exact front place.path path i ++ opened_inside same exact front place.path more i

-- else they are opened once, where there is a place
pub opened_within : {E G : Type 0} (same : E → E → Bool) → IsExact same → (cost : E → ℕ) (before front : List E) (places
    : List (PathPlace E G)) → total cost (opened_from same before (map (within front) places)) ≤ total cost front +
    total
    cost (opened_from same [] places)
opened_within same exact cost before front [] = omega arith
opened_within same exact cost before front (place ∷ more) =
    let path = front ++ place.path in
    let new = behind_shared same path before in
    let inside = opened_from same path (map (within front) more) in
    let rest = opened_from same place.path more in
    let long : total cost (new ++ inside) ≤ total cost front + total cost (behind_shared same place.path [] ++ rest) =
    omega (
      arith,
      behind_less same cost path before,
      total-append cost front place.path,
      total-append cost new inside,
      total-append cost (behind_shared same place.path []) rest,
      ap (total cost) (behind-none same place.path),
      ap (total cost) (opened_inside same exact front place.path more),
    ) in
    long

pub shown_within : {E G : Type 0} (show : G → ℕ) (front : List E) (places : List (PathPlace E G)) → shown_cost show (map
    (within front) places) ≡ shown_cost show places
shown_within show front [] = refl
shown_within show front (place ∷ more) =
    ap (λ n. glyph_cost show place.glyph + n) (shown_within show front more)
