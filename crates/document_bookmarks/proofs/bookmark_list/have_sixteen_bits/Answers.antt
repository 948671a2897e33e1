use Rattle.std.proofs.Common.{arith, ℕ, ◌<◌, ◌^◌}
use Rattle.std.proofs.lemmas.List.Elements.{All-from_get_or}
use Rattle.document_bookmarks.proofs.bookmark_list.have_sixteen_bits.Goals as goal

pub returns : goal.returns
returns c =
    All-from_get_or (λ (unit : ℕ). unit < 2 ^ 16) c.args.units.now 0 (λ i low. omega (arith, c.type_inv.units i))
