-- The files of pictures, by their places.
use Rattle.std.proofs.Common.{◌≡◌, ◌≢◌, ◌∙◌, ℕ, zero, suc, ◌+◌, ◌<◌, ◌≤◌, Bool, true, false, List, [], ◌∷◌, length}
use Rattle.std.proofs.Common.{slice_index_or, Option, None, Some, refl, sym, ap, inl, inr, arith}
use Rattle.std.specs.Prelude.{◌==◌, if◌then◌else◌}
use Rattle.std.proofs.lemmas.Bool.{cases_lt, eq-eqb}
use Rattle.std.proofs.lemmas.Bool.Decides.{nat_tests}
use Rattle.std.proofs.lemmas.List.{get_or_default}
use Rattle.doc_pictures.specs.declared.names.PictureName.{PictureName}
use Rattle.doc_pictures.specs.declared.pictures.Picture.{Picture}
use Rattle.doc_pictures.specs.Files.{name_from}
use Rattle.doc_pictures.specs.Order.{ArePlacesAscending, IsCountBefore}
use Rattle.doc_pictures.specs.Pictures.{ArePicturesInOrder}
use Rattle.doc_pictures.proofs.RangeLemmas.{picture-lies}

-- ---- pictures in their order

-- each is behind where the one before them ended
all-behind : (stream places : List ℕ) (ended : ℕ) (pictures : List Picture) → ArePicturesInOrder stream places ended
    pictures →
    (k : ℕ) (d : Picture) → k < length pictures → ended ≤ (slice_index_or pictures k d).place
all-behind stream places ended [] are k d within = absurd (omega (arith, within))
all-behind stream places ended (picture ∷ more) are zero d within = are.0.behind
all-behind stream places ended (picture ∷ more) are (suc k) d within =
    let lies = picture-lies stream picture.place picture.file are.0.has.picture in
    let begins = lies.begins in
    let some = lies.some in
    let behind = are.0.behind in
    let rest = all-behind stream places picture.file.to more are.1 k d (omega (arith, within)) in
    omega (arith, begins, some, behind, rest)

pub in_order-ascends : (stream places : List ℕ) (ended : ℕ) (pictures : List Picture) →
    ArePicturesInOrder stream places ended pictures → ArePlacesAscending pictures
in_order-ascends stream places ended [] are i j d less within = absurd (omega (arith, within))
in_order-ascends stream places ended (picture ∷ more) are i zero d less within = absurd (omega (arith, less))
in_order-ascends stream places ended (picture ∷ more) are zero (suc j) d less within =
    let lies = picture-lies stream picture.place picture.file are.0.has.picture in
    let begins = lies.begins in
    let some = lies.some in
    let rest = all-behind stream places picture.file.to more are.1 j d (omega (arith, within)) in
    omega (arith, begins, some, rest)
in_order-ascends stream places ended (picture ∷ more) are (suc i) (suc j) d less within =
    in_order-ascends stream places picture.file.to more are.1 i j d (omega (arith, less)) (omega (arith, within))

pub none-ascend : ArePlacesAscending []
none-ascend i j d less within = absurd (omega (arith, within))

-- ---- halves of them

pub lower-half : (pictures : List Picture) (place middle : ℕ) (here : Picture) → ArePlacesAscending pictures →
    middle < length pictures → (slice_index_or pictures middle here).place < place → (k : ℕ) (d : Picture) →
    k < middle + 1 → (slice_index_or pictures k d).place < place
lower-half pictures place middle here are within less k d below =
    let alike = ap (λ (p : Picture). p.place) (get_or_default pictures middle here d within) in
    elim (cases_lt k middle) [
      | inl lt ↦ let rise = are k middle d lt within in omega arith
      | inr most ↦
          let same : k ≡ middle = omega arith in
          let same_place = ap (λ (n : ℕ). (slice_index_or pictures n d).place) same in
          omega arith
    ]

pub upper-half : (pictures : List Picture) (place middle : ℕ) (here : Picture) → ArePlacesAscending pictures →
    middle < length pictures → place ≤ (slice_index_or pictures middle here).place → (k : ℕ) (d : Picture) →
    middle ≤ k → k < length pictures → place ≤ (slice_index_or pictures k d).place
upper-half pictures place middle here are within least k d above inner =
    let alike = ap (λ (p : Picture). p.place) (get_or_default pictures middle here d within) in
    elim (cases_lt middle k) [
      | inl lt ↦ let rise = are middle k d lt inner in omega arith
      | inr most ↦
          let same : k ≡ middle = omega arith in
          let same_place = ap (λ (n : ℕ). (slice_index_or pictures n d).place) same in
          omega arith
    ]

-- ---- the name at a place

not-same : (a b : ℕ) → a ≢ b → (a == b) ≡ false
not-same a b other = grind (arith, nat_tests)

-- a name, or that of the others
either_name : Bool → PictureName → Option PictureName → Option PictureName
either_name here name others = if here then Some name else others

pub name-none : (pictures : List Picture) (number place : ℕ) →
    ((k : ℕ) (d : Picture) → k < length pictures → (slice_index_or pictures k d).place ≢ place) →
    name_from number pictures place ≡ None
unfolding either_name
name-none [] number place apart = refl
name-none (picture ∷ more) number place apart =
    let name : PictureName = record { number = number; kind = picture.file.kind } in
    ap (λ (here : Bool). either_name here name (name_from (number + 1) more place))
    (not-same picture.place place (apart 0 picture (omega arith)))
    ∙ name-none more (number + 1) place (λ k d within. apart (suc k) d (omega (arith, within)))

pub name-here : (pictures : List Picture) (number place k : ℕ) (d : Picture) → k < length pictures →
    ((j : ℕ) (e : Picture) → j < k → (slice_index_or pictures j e).place < place) →
    (slice_index_or pictures k d).place ≡ place →
    name_from number pictures place ≡ Some (record { number = k + number; kind = (slice_index_or pictures k d).file.kind })
unfolding either_name
name-here [] number place k d within below same = absurd (omega (arith, within))
name-here (first ∷ more) number place zero d within below same =
    let name : PictureName = record { number = number; kind = first.file.kind } in
    let last : number ≡ 0 + number = omega arith in
    ap (λ (b : Bool). either_name b name (name_from (number + 1) more place)) (eq-eqb first.place place same)
    ∙ ap (λ (n : ℕ). Some (record { number = n; kind = first.file.kind })) last
name-here (first ∷ more) number place (suc k) d within below same =
    let name : PictureName = record { number = number; kind = first.file.kind } in
    let low = below 0 first (omega arith) in
    let other : first.place ≢ place = λ e. absurd (omega (arith, low, e)) in
    let next : k + (number + 1) ≡ suc k + number = omega arith in
    ap (λ (b : Bool). either_name b name (name_from (number + 1) more place)) (not-same first.place place other)
    ∙ (name-here more (number + 1) place k d (omega (arith, within))
    (λ j e less. below (suc j) e (omega (arith, less))) same
    ∙ ap (λ (n : ℕ). Some (record { number = n; kind = (slice_index_or more k d).file.kind })) next)

-- none is at the place or behind it
pub none-left : (pictures : List Picture) (place count : ℕ) → IsCountBefore pictures place count →
    count ≡ length pictures → name_from 1 pictures place ≡ None
none-left pictures place count is all =
    name-none pictures 1 place (λ k d within same.
    let low = is.below k d (omega (arith, within, all)) in absurd (omega (arith, low, same)))

-- the first one behind lesser places is at another one
pub none-here : (pictures : List Picture) (place count : ℕ) (d : Picture) → ArePlacesAscending pictures →
    IsCountBefore pictures place count → count < length pictures →
    (slice_index_or pictures count d).place ≢ place → name_from 1 pictures place ≡ None
none-here pictures place count d are is inside other =
    name-none pictures 1 place (λ k e within. elim (cases_lt k count) [
      | inl less ↦ λ same. let low = is.below k e less in absurd (omega (arith, low, same))
      | inr high ↦ elim (cases_lt count k) [
        | inl more ↦ λ same.
            let rise = are count k e more within in
            let least = is.above count e (omega arith) inside in
            absurd (omega (arith, rise, least, same))
        | inr most ↦ λ same.
            let at : k ≡ count = omega (arith, high, most) in
            let alike = ap (λ (p : Picture). p.place) (get_or_default pictures count d e inside) in
            let moved = ap (λ (n : ℕ). (slice_index_or pictures n e).place) at in
            let one : (slice_index_or pictures count d).place ≡ place = omega (arith, alike, moved, same) in
            absurd (other one)
      ]
    ])
