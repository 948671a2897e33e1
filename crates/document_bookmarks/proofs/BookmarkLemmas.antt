-- The order of bookmarks is a total one, in which no two different ones tie.
use Rattle.std.proofs.Common.{◌≡◌, refl, Ordering}
use Rattle.std.specs.Ordering.{nat_cmp, ordering_then}
use Rattle.std.specs.declared.cmp.Ordering.TheVariants.{Less, Equal, Greater}
use Rattle.std.specs.Cmp.{IsTotalOrder}
use Rattle.std.specs.Cmp.Lexicographic.{slice_cmp}
use Rattle.std.specs.FinMap.{IsAntisymmetric, nat_cmp-IsAntisymmetric, slice_cmp-IsAntisymmetric}
use Rattle.std.proofs.lemmas.Cmp.{then_total, on_total, nat_cmp_total, nat_list_cmp_total}
use Rattle.document_bookmarks.specs.Bookmarks.{bookmark_cmp}

pub bookmark_total : IsTotalOrder bookmark_cmp
bookmark_total =
    then_total (on_total (λ b. b.from) nat_cmp_total)
    (then_total (on_total (λ b. b.to) nat_cmp_total)
    (then_total (on_total (λ b. b.name) nat_list_cmp_total) (on_total (λ b. b.flags) nat_cmp_total)))

both_tie : (a b : Ordering) → ordering_then a b ≡ Equal → (a ≡ Equal) × (b ≡ Equal)
both_tie Less b h = absurd (cc h)
both_tie Equal b h = (refl, h)
both_tie Greater b h = absurd (cc h)

pub bookmark_alone : IsAntisymmetric bookmark_cmp
bookmark_alone x y h =
    let one = both_tie (nat_cmp x.from y.from)
    (ordering_then (nat_cmp x.to y.to) (ordering_then (slice_cmp nat_cmp x.name y.name) (nat_cmp x.flags y.flags))) h in
    let two = both_tie (nat_cmp x.to y.to)
    (ordering_then (slice_cmp nat_cmp x.name y.name) (nat_cmp x.flags y.flags)) one.1 in
    let three = both_tie (slice_cmp nat_cmp x.name y.name) (nat_cmp x.flags y.flags) two.1 in
    let from = nat_cmp-IsAntisymmetric x.from y.from one.0 in
    let to = nat_cmp-IsAntisymmetric x.to y.to two.0 in
    let name = slice_cmp-IsAntisymmetric nat_cmp-IsAntisymmetric x.name y.name three.0 in
    let flags = nat_cmp-IsAntisymmetric x.flags y.flags three.1 in
    λ i. record { name = name i; from = from i; to = to i; flags = flags i }
