-- Pictures one behind the other: there is one such list, and its files are short.
use Rattle.std.proofs.Common.{◌≡◌, ◌∙◌, ℕ, ◌+◌, ◌≤◌, List, [], ◌∷◌, length, refl, sym, ap, subst, inl, inr, arith}
use Rattle.std.specs.List.{Contains}
use Rattle.std.specs.List.Sorted.{IsPermutation}
use Rattle.std.proofs.lemmas.List.Sorted.{Contains-permutation, IsPermutation-sym}
use Rattle.inline_pictures.specs.InlinePictures.{IsInlinePicture}
use Rattle.inline_pictures.specs.declared.picture.PictureFile.{PictureFile}
use Rattle.inline_pictures.proofs.Public.{picture-unique}
use Rattle.doc_pictures.specs.declared.pictures.Picture.{Picture}
use Rattle.doc_pictures.specs.Pictures.{ArePicturesInOrder, ArePictures, HasFile, IsCovered, IsPictureOf}
use Rattle.doc_pictures.specs.Laws.{PicturesAreOne, PicturesAreShort, byte_count}
use Rattle.doc_pictures.proofs.RangeLemmas.{picture-lies}

-- ---- the bytes of all files

short : (stream places : List ℕ) (ended : ℕ) (pictures : List Picture) → ArePicturesInOrder stream places ended pictures
    →
    ended ≤ length stream → byte_count pictures + ended ≤ length stream
unfolding byte_count
short stream places ended [] are low = omega (arith, low)
short stream places ended (picture ∷ more) are low =
    let lies = picture-lies stream picture.place picture.file are.0.has.picture in
    let begins = lies.begins in
    let some = lies.some in
    let behind = are.0.behind in
    let rest = short stream places picture.file.to more are.1 lies.ends in
    omega (arith, begins, some, behind, rest)

pub pictures-short : PicturesAreShort
pictures-short stream places pictures are =
    let all = short stream places 0 pictures are.in_order (omega arith) in omega (arith, all)

-- ---- one list

-- what is covered lies behind where the picture before them ended
covered-behind : (stream places : List ℕ) (ended : ℕ) (pictures : List Picture) (place : ℕ) →
    ArePicturesInOrder stream places ended pictures → IsCovered place pictures → ended ≤ place
covered-behind stream places ended [] place are none = absurd none
covered-behind stream places ended (picture ∷ more) place are (inl here) =
    let behind = are.0.behind in
    let begun = here.begun in
    omega (arith, behind, begun)
covered-behind stream places ended (picture ∷ more) place are (inr later) =
    let lies = picture-lies stream picture.place picture.file are.0.has.picture in
    let begins = lies.begins in
    let some = lies.some in
    let behind = are.0.behind in
    let rest = covered-behind stream places picture.file.to more place are.1 later in
    omega (arith, begins, some, behind, rest)

-- and not in front of the first one
first-begun : (stream places : List ℕ) (ended : ℕ) (picture : Picture) (more : List Picture) (place : ℕ) →
    ArePicturesInOrder stream places ended (picture ∷ more) → IsCovered place (picture ∷ more) → picture.place ≤ place
first-begun stream places ended picture more place are (inl here) = here.begun
first-begun stream places ended picture more place are (inr later) =
    let lies = picture-lies stream picture.place picture.file are.0.has.picture in
    let begins = lies.begins in
    let some = lies.some in
    let rest = covered-behind stream places picture.file.to more place are.1 later in
    omega (arith, begins, some, rest)

-- what lies behind the first one is covered by the others
covered-later : (picture : Picture) (more : List Picture) (place : ℕ) → picture.file.to ≤ place →
    IsCovered place (picture ∷ more) → IsCovered place more
covered-later picture more place after (inl here) = let goes_on = here.goes_on in absurd (omega (arith, after, goes_on))
covered-later picture more place after (inr later) = later

none-covered : (place : ℕ) → IsCovered place [] → ⊥
none-covered place none = none

-- each place with a picture is covered, from where one ended on
abbrev AllFrom : (stream places : List ℕ) → ℕ → List Picture → Type 0
AllFrom stream places ended pictures =
    (place : ℕ) (file : PictureFile) → ended ≤ place → Contains places place → HasFile stream place file →
    IsCovered place pictures

first-is : (stream places : List ℕ) (ended : ℕ) (pictures : List Picture) (picture : Picture) (more : List Picture) →
    pictures ≡ picture ∷ more → ArePicturesInOrder stream places ended pictures → IsPictureOf stream places ended
    picture
first-is stream places ended pictures picture more is are =
    (subst (λ (all : List Picture). ArePicturesInOrder stream places ended all) is are).0

rest-is : (stream places : List ℕ) (ended : ℕ) (picture : Picture) (more : List Picture) →
    ArePicturesInOrder stream places ended (picture ∷ more) → ArePicturesInOrder stream places picture.file.to more
rest-is stream places ended picture more are = are.1

same-picture : (one other : Picture) → one.place ≡ other.place → one.file ≡ other.file → one ≡ other
same-picture one other place file =
    ap (λ (n : ℕ). record { place = n; file = one.file }) place
    ∙ ap (λ (f : PictureFile). record { place = other.place; file = f }) file

-- the first ones are the same
heads-alike : (stream places : List ℕ) (ended : ℕ) (x : Picture) (xs : List Picture) (y : Picture) (ys : List Picture) →
    ArePicturesInOrder stream places ended (x ∷ xs) → ArePicturesInOrder stream places ended (y ∷ ys) →
    AllFrom stream places ended (x ∷ xs) → AllFrom stream places ended (y ∷ ys) → x ≡ y
heads-alike stream places ended x xs y ys one other all_one all_other =
    let a = first-is stream places ended (x ∷ xs) x xs refl one in
    let b = first-is stream places ended (y ∷ ys) y ys refl other in
    let low : x.place ≤ y.place =
    first-begun stream places ended x xs y.place one (all_one y.place y.file b.behind b.named b.has) in
    let high : y.place ≤ x.place =
    first-begun stream places ended y ys x.place other (all_other x.place x.file a.behind a.named a.has) in
    let place : x.place ≡ y.place = omega (arith, low, high) in
    same-picture x y place
    (picture-unique stream y.place x.file y.file (subst (λ (n : ℕ). IsInlinePicture stream n x.file) place a.has.picture)
    b.has.picture)

-- what is covered behind the first one
all-later : (stream places : List ℕ) (ended : ℕ) (x : Picture) (xs : List Picture) →
    ArePicturesInOrder stream places ended (x ∷ xs) → AllFrom stream places ended (x ∷ xs) → AllFrom stream places
    x.file.to xs
all-later stream places ended x xs are all = λ place file after named has.
    let a = first-is stream places ended (x ∷ xs) x xs refl are in
    let lies = picture-lies stream x.place x.file a.has.picture in
    let begins = lies.begins in
    let some = lies.some in
    let behind = a.behind in
    covered-later x xs place after (all place file (omega (arith, begins, some, behind, after)) named has)

alike : (stream places : List ℕ) (ended : ℕ) (one other : List Picture) → ArePicturesInOrder stream places ended one →
    ArePicturesInOrder stream places ended other → AllFrom stream places ended one → AllFrom stream places ended other →
    one ≡ other
alike stream places ended [] [] one other all_one all_other = refl
alike stream places ended [] (y ∷ ys) one other all_one all_other =
    let b = first-is stream places ended (y ∷ ys) y ys refl other in
    absurd (none-covered y.place (all_one y.place y.file b.behind b.named b.has))
alike stream places ended (x ∷ xs) [] one other all_one all_other =
    let a = first-is stream places ended (x ∷ xs) x xs refl one in
    absurd (none-covered x.place (all_other x.place x.file a.behind a.named a.has))
alike stream places ended (x ∷ xs) (y ∷ ys) one other all_one all_other =
    let same = heads-alike stream places ended x xs y ys one other all_one all_other in
    let to : y.file.to ≡ x.file.to = ap (λ (p : Picture). p.file.to) (sym same) in
    ap (λ (p : Picture). p ∷ xs) same
    ∙ ap (λ (more : List Picture). y ∷ more)
    (alike stream places x.file.to xs ys (rest-is stream places ended x xs one)
    (subst (λ (n : ℕ). ArePicturesInOrder stream places n ys) to (rest-is stream places ended y ys other))
    (all-later stream places ended x xs one all_one)
    (subst (λ (n : ℕ). AllFrom stream places n ys) to (all-later stream places ended y ys other all_other)))

pub pictures-one : PicturesAreOne
pictures-one stream places one other a b =
    alike stream places 0 one other a.in_order b.in_order (λ place file low. a.all place file)
    (λ place file low. b.all place file)

-- ---- places in another order

in_order-permuted : (stream places others : List ℕ) → IsPermutation places others → (ended : ℕ) (pictures : List Picture) →
    ArePicturesInOrder stream places ended pictures → ArePicturesInOrder stream others ended pictures
in_order-permuted stream places others moved ended [] are = tt
in_order-permuted stream places others moved ended (picture ∷ more) are = (
  record {
    named = Contains-permutation places others picture.place moved are.0.named;
    has = are.0.has;
    behind = are.0.behind;
  },
  in_order-permuted stream places others moved picture.file.to more are.1,
)

pub pictures-permuted : (stream places others : List ℕ) (pictures : List Picture) → IsPermutation others places →
    ArePictures stream places pictures → ArePictures stream others pictures
pictures-permuted stream places others pictures moved are = record {
  in_order = in_order-permuted stream places others (IsPermutation-sym others places moved) 0 pictures are.in_order;
  all = λ place file named has. are.all place file (Contains-permutation others places place moved named) has;
}
