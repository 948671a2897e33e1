-- What the iterator over the fresh entries gives is all of them.
use Rattle.std.proofs.Common.{rules, sym, ap, ◌∙◌, ◌≡◌, length, map}
use Rattle.std.specs.List.{splice}
use Rattle.std.specs.Vec.{vec_len}
use Rattle.std.proofs.lemmas.Iterator.{items_from_drains}
use Rattle.std.proofs.lemmas.Iterator.Adapters.{YieldsList-from_vec}
use Rattle.std.proofs.lemmas.List.{map-id}
use Rattle.doc_bits.proofs.lists.splice_list.Goals as goal

pub returns-clause-ok : goal.returns-clause-ok
returns-clause-ok g c =
    let h = c.in_ok-splice.ensures.items in
    let len : vec_len c.args.fresh ≡ length c.args.fresh.items = search rules in
    let drained : map (λ x. x) h.1 ≡ c.args.fresh.items =
    items_from_drains h.1 (h.3.1.0, h.3.1.1, λ _. (h.3.0, h.3.1.2))
    (YieldsList-from_vec c.args.fresh.items h.2.0 (h.2.1 ∙ len)) in
    h.4 ∙ ap (splice c.args.list.now.items c.args.from c.args.to) (sym (map-id h.1) ∙ drained)
