-- The pictures at the first places of some that are in order.
use Rattle.std.proofs.Common.{◌≡◌, ◌∙◌, ℕ, ◌+◌, ◌<◌, ◌≤◌, List, [], ◌∷◌, ◌++◌, length, refl, sym, subst, inl, inr, arith}
use Rattle.std.specs.Prelude.{slice_index, ⊤}
use Rattle.std.specs.List.{Contains}
use Rattle.std.specs.List.Sorted.{IsNonDecreasing}
use Rattle.std.proofs.lemmas.Bool.{cases_lt}
use Rattle.std.proofs.lemmas.Grind.{get_or_default_zero}
use Rattle.std.proofs.lemmas.List.Elements.{Contains-get_or}
use Rattle.inline_pictures.specs.declared.picture.PictureFile.{PictureFile}
use Rattle.doc_pictures.specs.declared.pictures.Picture.{Picture}
use Rattle.doc_pictures.specs.Pictures.{ArePicturesInOrder, ArePictures, HasFile, IsCovered, IsPictureOf, IsInPicture}
use Rattle.doc_pictures.specs.Steps.{IsPlacePassed, IsPictureAdded, IsPictureStep}
use Rattle.doc_pictures.proofs.RangeLemmas.{picture-lies}

-- where the last picture ends, behind one that ended there
unfoldable pub end_of : ℕ → List Picture → ℕ
end_of ended [] = ended
end_of ended (picture ∷ more) = end_of picture.file.to more

-- each begins at the place or before it
abbrev pub AllBegun : ℕ → List Picture → Type 0
AllBegun place [] = ⊤
AllBegun place (picture ∷ more) = (picture.place ≤ place) × AllBegun place more

-- the pictures of the first places
pub record AreUpTo (stream places : List ℕ) (k ended : ℕ) (pictures : List Picture) : Type 0 where
  pub in_order : ArePicturesInOrder stream places 0 pictures
  pub ends : end_of 0 pictures ≡ ended
  pub begun : (j : ℕ) → k ≤ j → j < length places → AllBegun (slice_index places j) pictures
  pub all :
      (j : ℕ) (file : PictureFile) → j < k → HasFile stream (slice_index places j) file →
      IsCovered (slice_index places j) pictures

pub none-yet : (stream places : List ℕ) → AreUpTo stream places 0 0 []
unfolding end_of
none-yet stream places = record {
  in_order = tt;
  ends = refl;
  begun = λ j low within. tt;
  all = λ j file none has. absurd (omega (arith, none));
}

-- ---- one picture more

in_order-push : (stream places : List ℕ) (ended : ℕ) (pictures : List Picture) (picture : Picture) →
    ArePicturesInOrder stream places ended pictures → IsPictureOf stream places (end_of ended pictures) picture →
    ArePicturesInOrder stream places ended (pictures ++ picture ∷ [])
unfolding end_of
in_order-push stream places ended [] picture are is = (is, tt)
in_order-push stream places ended (first ∷ more) picture are is =
    (are.0, in_order-push stream places first.file.to more picture are.1 is)

end-push : (ended : ℕ) (pictures : List Picture) (picture : Picture) →
    end_of ended (pictures ++ picture ∷ []) ≡ picture.file.to
unfolding end_of
end-push ended [] picture = refl
end-push ended (first ∷ more) picture = end-push first.file.to more picture

begun-push : (place : ℕ) (pictures : List Picture) (picture : Picture) → AllBegun place pictures →
    picture.place ≤ place → AllBegun place (pictures ++ picture ∷ [])
begun-push place [] picture are is = (is, tt)
begun-push place (first ∷ more) picture are is = (are.0, begun-push place more picture are.1 is)

covered-before : (place : ℕ) (pictures : List Picture) (picture : Picture) → IsCovered place pictures →
    IsCovered place (pictures ++ picture ∷ [])
covered-before place [] picture none = absurd none
covered-before place (first ∷ more) picture (inl here) = inl here
covered-before place (first ∷ more) picture (inr later) = inr (covered-before place more picture later)

covered-push : (place : ℕ) (pictures : List Picture) (picture : Picture) → IsInPicture place picture →
    IsCovered place (pictures ++ picture ∷ [])
covered-push place [] picture is = inl is
covered-push place (first ∷ more) picture is = inr (covered-push place more picture is)

-- ---- a place in front of the end of the last one

covered-by_end : (ended place : ℕ) (pictures : List Picture) → ended ≤ place → place < end_of ended pictures →
    AllBegun place pictures → IsCovered place pictures
unfolding end_of
covered-by_end ended place [] low high are = absurd (omega (arith, low, high))
covered-by_end ended place (picture ∷ more) low high are =
    elim (cases_lt place picture.file.to) [
      | inl before ↦ inl (record { begun = are.0; goes_on = before })
      | inr after ↦ inr (covered-by_end picture.file.to place more after high are.1)
    ]

-- ---- a step

passed : (stream places : List ℕ) (k ended behind : ℕ) (old new : List Picture) → k < length places →
    AreUpTo stream places k ended old → IsPlacePassed stream (slice_index places k) ended behind old new →
    AreUpTo stream places (k + 1) ended old
passed stream places k ended behind old new within are step = record {
  in_order = are.in_order;
  ends = are.ends;
  begun = λ j low inside. are.begun j (omega (arith, low)) inside;
  all = λ j file less has.
      elim (cases_lt j k) [
        | inl before ↦ are.all j file before has
        | inr after ↦
            (let here : k ≡ j = omega (arith, after, less) in
            subst (λ (n : ℕ). IsCovered (slice_index places n) old) here
            (elim step.none [
              | inl low ↦
                  (let ends = are.ends in
                  covered-by_end 0 (slice_index places k) old (omega arith) (omega (arith, ends, low))
                  (are.begun k (omega arith) within))
              | inr none ↦
                  absurd (none file (subst (λ (n : ℕ). HasFile stream (slice_index places n) file) (sym here) has))
            ]))
      ];
}

put : (stream places : List ℕ) (k ended behind : ℕ) (old new : List Picture) → IsNonDecreasing places → k < length places →
    AreUpTo stream places k ended old → (step : IsPictureAdded stream (slice_index places k) ended behind old new) →
    AreUpTo stream places (k + 1) step.file.to (old ++ record { place = slice_index places k; file = step.file } ∷ [])
put stream places k ended behind old new sorted within are step =
    let place = slice_index places k in
    let picture : Picture = record { place = place; file = step.file } in
    let lies = picture-lies stream place step.file step.has.picture in
    let after = step.after in
    let ends = are.ends in
    record {
      in_order =
          in_order-push stream places 0 old picture are.in_order (record {
            named = Contains-get_or places k 0 within;
            has = step.has;
            behind = omega (arith, after, ends);
          });
      ends = end-push 0 old picture;
      begun = λ j low inside.
          begun-push (slice_index places j) old picture (are.begun j (omega (arith, low)) inside)
          (sorted k j 0 (omega (arith, low)) inside);
      all = λ j file less has.
          elim (cases_lt j k) [
            | inl before ↦ covered-before (slice_index places j) old picture (are.all j file before has)
            | inr later ↦
                (let here : k ≡ j = omega (arith, later, less) in
                subst (λ (n : ℕ). IsCovered (slice_index places n) (old ++ picture ∷ [])) here
                (covered-push place old picture
                (let begins = lies.begins in
                let some = lies.some in record { begun = omega arith; goes_on = omega (arith, begins, some) })))
          ];
    }

-- one place more
pub one-more : (stream places : List ℕ) (k ended behind : ℕ) (old new : List Picture) → IsNonDecreasing places →
    k < length places → AreUpTo stream places k ended old → IsPictureStep stream (slice_index places k) ended behind old
    new →
    AreUpTo stream places (k + 1) behind new
one-more stream places k ended behind old new sorted within are (inl step) =
    subst (λ (all : List Picture). AreUpTo stream places (k + 1) behind all) (sym step.same)
    (subst (λ (end : ℕ). AreUpTo stream places (k + 1) end old) (sym step.ends)
    (passed stream places k ended behind old new within are step))
one-more stream places k ended behind old new sorted within are (inr step) =
    subst (λ (all : List Picture). AreUpTo stream places (k + 1) behind all) (sym step.put)
    (subst
    (λ (end : ℕ). AreUpTo stream places (k + 1) end (old ++ record { place = slice_index places k; file = step.file } ∷ []))
    (sym step.ends) (put stream places k ended behind old new sorted within are step))

-- those of all places
pub all-done : (stream places : List ℕ) (k ended : ℕ) (pictures : List Picture) → length places ≤ k →
    AreUpTo stream places k ended pictures → ArePictures stream places pictures
all-done stream places k ended pictures done are = record {
  in_order = are.in_order;
  all = λ place file named has.
      let j = named.0 in
      let inside = named.1 in
      let at : slice_index places j ≡ place = sym (get_or_default_zero places j place inside) ∙ named.2 in
      subst (λ (n : ℕ). IsCovered n pictures) at
      (are.all j file (omega (arith, done, inside)) (subst (λ (n : ℕ). HasFile stream n file) (sym at) has));
}
