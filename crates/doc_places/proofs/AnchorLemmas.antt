-- Bookmarks at the front of a list.
use Rattle.std.proofs.Common.{◌≡◌, ℕ, zero, suc, ◌+◌, ◌<◌, ◌≤◌, Bool, true, false, ◌&&◌, List, [], ◌∷◌, ◌++◌, Some, refl, inl, inr}
use Rattle.std.proofs.Common.{ap, sym, subst, ◌∙◌, length, arith}
use Rattle.std.specs.Prelude.{if◌then◌else◌, nat_lt, slice_get}
use Rattle.std.proofs.lemmas.Bool.{cases_lt, le-ltb, ltb-true, lt-ltb}
use Rattle.document_bookmarks.specs.declared.bookmark_order.Bookmark.{Bookmark}
use Rattle.std.proofs.lemmas.List.{map-append}
use Rattle.view_places.specs.declared.element.Element.{Element}
use Rattle.view_places.specs.declared.element.Element.TheVariants.{Anchor}
use Rattle.doc_places.specs.Places.{anchor_places, bare_place, lead, consecutive}

-- there are no more than in the list
pub lead_few : (bookmarks : List Bookmark) (place : ℕ) → lead bookmarks place ≤ length bookmarks
lead_few [] place = omega arith
lead_few (bookmark ∷ bookmarks) place =
    let rest = lead_few bookmarks place in
    elim (nat_lt bookmark.from place) as (λ (b : Bool). (if b then suc (lead bookmarks place) else 0) ≤ suc (length
    bookmarks)) [ true ↦ omega (arith, rest) | false ↦ omega arith ]

-- none begins before the first place
pub lead_none : (bookmarks : List Bookmark) → lead bookmarks 0 ≡ 0
lead_none [] = refl
lead_none (bookmark ∷ bookmarks) =
    ap (λ (b : Bool). if b then suc (lead bookmarks 0) else 0) (le-ltb bookmark.from 0 (omega arith))

suc_lt : (a b : ℕ) → nat_lt a b ≡ nat_lt (suc a) (suc b)
suc_lt a b = elim (cases_lt a b) [
  | inl less ↦ lt-ltb a b less ∙ sym (lt-ltb (suc a) (suc b) (omega (arith, less)))
  | inr more ↦ le-ltb a b more ∙ sym (le-ltb (suc a) (suc b) (omega (arith, more)))
]

-- whether one more begins before the place
pub lead_on : (bookmarks : List Bookmark) (place at : ℕ) (bookmark : Bookmark) → at ≤ lead bookmarks place → slice_get
    bookmarks at ≡ Some bookmark → nat_lt bookmark.from place ≡ nat_lt at (lead bookmarks place)
lead_on [] place at bookmark low here = absurd (cc (here))
lead_on (first ∷ bookmarks) place zero bookmark low here =
    let same : first ≡ bookmark = cc (here) in
    let some : nat_lt 0 (suc (lead bookmarks place)) ≡ true = lt-ltb 0 (suc (lead bookmarks place)) (omega arith) in
    ap (λ (b : Bookmark). nat_lt b.from place) (sym same) ∙ elim (nat_lt first.from place) as (λ (b : Bool). b ≡ nat_lt
    0 (if b then suc (lead bookmarks place) else 0)) [ true ↦ sym some | false ↦ refl ]
lead_on (first ∷ bookmarks) place (suc at) bookmark low here =
    elim (nat_lt first.from place) as (λ (b : Bool). suc at ≤ (if b then suc (lead bookmarks place) else 0) → nat_lt
    bookmark.from place ≡ nat_lt (suc at) (if b then suc (lead bookmarks place) else 0)) [
      | true ↦ λ less. lead_on bookmarks place at bookmark (omega (arith, less)) here ∙ suc_lt at (lead bookmarks place)
      | false ↦ λ less. absurd (omega (arith, less))
    ] low

-- behind a later place there are as many or more
pub lead_more : (bookmarks : List Bookmark) (place later : ℕ) → place ≤ later → lead bookmarks place ≤ lead bookmarks
    later
lead_more [] place later low = omega arith
lead_more (bookmark ∷ bookmarks) place later low =
    let rest = lead_more bookmarks place later low in
    elim (nat_lt bookmark.from place) as (λ (b : Bool). nat_lt bookmark.from place ≡ b → (if b then suc (lead bookmarks
    place) else 0) ≤ (if nat_lt bookmark.from later then suc (lead bookmarks later) else 0)) [
      | true ↦ λ is.
          let less = ltb-true bookmark.from place is in
          let also : nat_lt bookmark.from later ≡ true = lt-ltb bookmark.from later (omega (arith, less, low)) in
          subst (λ (b : Bool). suc (lead bookmarks place) ≤ (if b then suc (lead bookmarks later) else 0)) (sym also)
          (omega (arith, rest))
      | false ↦ λ is. omega arith
    ] refl

-- one number more
pub numbers_more : (first count : ℕ) → consecutive first (count + 1) ≡ consecutive first count ++ (first + count) ∷ []
numbers_more first count =
    let is : suc count ≡ count + 1 = omega arith in
    subst (λ (n : ℕ). consecutive first n ≡ consecutive first count ++ (first + count) ∷ []) is (numbers_suc first
    count)
  where
    numbers_suc : (first count : ℕ) → consecutive first (suc count) ≡ consecutive first count ++ (first + count) ∷ []
    numbers_suc first zero = ap (λ (n : ℕ). n ∷ []) (omega arith)
    numbers_suc first (suc count) =
        let is : (first + 1) + count ≡ first + suc count = omega arith in
        ap (λ (more : List ℕ). first ∷ more) (numbers_suc (first + 1) count ∙ ap (λ (n : ℕ). consecutive (first + 1)
        count
        ++ n ∷ []) is)

-- one anchor more
pub anchors_more : (block : List Element) (first count : ℕ) → anchor_places block (consecutive first (count + 1)) ≡
    anchor_places block (consecutive first count) ++ (bare_place (block ++ Anchor (first + count) ∷ []) ∷ [])
anchors_more block first count =
    ap (anchor_places block) (numbers_more first count) ∙ map-append (λ (number : ℕ). bare_place (block ++ Anchor number
    ∷
    [])) (consecutive first count) ((first + count) ∷ [])
