-- The pages of the units of stretches, one behind the other.
use Rattle.std.proofs.Common.{◌≡◌, ◌∙◌, sym, ap, subst, ℕ, ◌<◌, ◌≤◌, ◌+◌, ◌-◌, length, inl, inr, arith}
use Rattle.std.specs.Prelude.{slice_index, slice_range, IsTrue}
use Rattle.std.proofs.lemmas.Bool.{cases_lt}
use Rattle.doc_bits.proofs.Public.{length-range, range_index}
use Rattle.fkp_pages.specs.declared.kind.PageKind.TheVariants.{Chpx, Papx}
use Rattle.direct_props.specs.PageRules.{AreValidPlaces, IsValidPlace}
use Rattle.doc_read.specs.Reading.{TextView, HaveValidMarks, HaveValidPages, ends_paragraph_at}

-- the unit of one CP
pub one_mark : (view : TextView) (cp : ℕ) → (IsTrue (ends_paragraph_at view cp) →
    IsValidPlace Papx view.wd view.paragraphs (slice_index view.places cp)) → HaveValidMarks view cp (cp + 1)
one_mark view cp right = λ at upper lower.
    let same : cp ≡ at = omega (arith, upper, lower) in
    subst (λ n. IsTrue (ends_paragraph_at view n) → IsValidPlace Papx view.wd view.paragraphs (slice_index view.places
    n)) same
    right

-- two stretches
pub marks_join : (view : TextView) (from middle to : ℕ) → HaveValidMarks view from middle →
    HaveValidMarks view middle to → HaveValidMarks view from to
marks_join view from middle to before behind = λ cp upper lower. elim (cases_lt cp middle) [
  | inl early ↦ before cp upper early
  | inr late ↦ behind cp late lower
]

-- a part of a stretch
pub marks_within : (view : TextView) (from to begin end : ℕ) → from ≤ begin → end ≤ to →
    HaveValidMarks view from to → HaveValidMarks view begin end
marks_within view from to begin end low high all = λ cp upper lower.
    all cp (omega (arith, low, upper)) (omega (arith, high, lower))

-- the same of both kinds of pages
pub pages_join : (view : TextView) (from middle to : ℕ) → HaveValidPages view from middle →
    HaveValidPages view middle to → HaveValidPages view from to
pages_join view from middle to before behind = record {
  characters = λ cp upper lower. elim (cases_lt cp middle) [
    | inl early ↦ before.characters cp upper early
    | inr late ↦ behind.characters cp late lower
  ];
  marks = marks_join view from middle to before.marks behind.marks;
}

pub pages_within : (view : TextView) (from to begin end : ℕ) → from ≤ begin → end ≤ to →
    HaveValidPages view from to → HaveValidPages view begin end
pages_within view from to begin end low high all = record {
  characters = λ cp upper lower. all.characters cp (omega (arith, low, upper)) (omega (arith, high, lower));
  marks = marks_within view from to begin end low high all.marks;
}

-- the places of a stretch, and its units
pub places_of_pages : (view : TextView) (from to : ℕ) → to ≤ length view.places →
    ((cp : ℕ) → from ≤ cp → cp < to → IsValidPlace Chpx view.wd view.characters (slice_index view.places cp)) →
    AreValidPlaces Chpx view.wd view.characters (slice_range view.places from to)
places_of_pages view from to within right k below =
    let len = length-range view.places from to within in
    let inside : k < to - from = omega (arith, below, len) in
    subst (λ fc. IsValidPlace Chpx view.wd view.characters fc) (sym (range_index view.places from to k inside))
    (right (from + k) (omega arith) (omega (arith, inside)))

pub pages_of_places : (view : TextView) (from to : ℕ) → to ≤ length view.places →
    AreValidPlaces Chpx view.wd view.characters (slice_range view.places from to) →
    (cp : ℕ) → from ≤ cp → cp < to → IsValidPlace Chpx view.wd view.characters (slice_index view.places cp)
pages_of_places view from to within right cp upper lower =
    let k : ℕ = cp - from in
    let here : from + k ≡ cp = omega (arith, upper) in
    let inside : k < to - from = omega (arith, upper, lower) in
    let len = length-range view.places from to within in
    subst (λ fc. IsValidPlace Chpx view.wd view.characters fc)
    (range_index view.places from to k inside ∙ ap (slice_index view.places) here) (right k (omega (
      arith,
      inside,
      len,
    )))
