use Rattle.std.proofs.Common.{ℕ, List, sym, subst}
use Rattle.std.specs.List.Sorted.{IsNonDecreasing}
use Rattle.std.proofs.lemmas.List.Sorted.{IsNonDecreasingBy-from_sort}
use Rattle.doc_pictures.specs.declared.pictures.Picture.{Picture}
use Rattle.doc_pictures.specs.Places.{picture_places}
use Rattle.doc_pictures.specs.Pictures.{ArePictures}
use Rattle.doc_pictures.proofs.FileLemmas.{in_order-ascends}
use Rattle.doc_pictures.proofs.OrderLemmas.{pictures-permuted}
use Rattle.doc_pictures.proofs.pictures.pictures_of.Goals as goal

pub pictures_at-requires : goal.pictures_at-requires
pictures_at-requires c =
    subst (λ (places : List ℕ). IsNonDecreasing places) (sym c.deref.ensures.value)
    (IsNonDecreasingBy-from_sort (λ (x : ℕ). x) c.sort_unstable.new.self.items c.sort_unstable.ensures.sorted)

pub of-requires : goal.of-requires
of-requires c =
    in_order-ascends c.args.stream.now c.deref.result.now 0 c.in_ok-list.list.items c.in_ok-list.ensures.in_order

pub returns : goal.returns
returns c =
    let stream = c.args.stream.now in
    let pictures = c.in_ok-list.list.items in
    subst (λ (all : List Picture). ArePictures stream (picture_places c.args.document.now) all) (sym c.of.ensures)
    (subst (λ (places : List ℕ). ArePictures stream places pictures) c.in_ok-places.ensures
    (pictures-permuted stream c.sort_unstable.new.self.items c.in_ok-places.places.items pictures
    c.sort_unstable.ensures.permutation
    (subst (λ (places : List ℕ). ArePictures stream places pictures) c.deref.ensures.value c.in_ok-list.ensures)))
