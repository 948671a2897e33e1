-- The first item.
use Rattle.std.proofs.Common.{◌∙◌, ◌∷◌, [], List, length, sym, ap, subst, arith}
use Rattle.chunked_list.specs.Blocks.{joined, MeasuredList, AreSized}
use Rattle.chunked_list.proofs.UnitLemmas.{units-nil}
use Rattle.chunked_list.proofs.JoinLemmas.{joined-one, none_blocks}
use Rattle.chunked_list.proofs.PutLemmas.{in_blocks, one_block}
use Rattle.chunked_list.proofs.list.BlockList.insert_first.Goals as goal

pub put_first-requires-clause-none : goal.put_first-requires-clause-none
put_first-requires-clause-none g c =
    let all = ap (λ (l : MeasuredList g.row.T.Denot). length l.items) c.self.view_is in
    none_blocks c.self.inside.row.blocks c.self.invariant.sized.some (omega (arith, all, c.requires.none))

pub invariant_of-self : goal.invariant_of-self
invariant_of-self g c =
    let units = g.T.Measured.units in
    let blocks = c.put_first.ensures.blocks in
    in_blocks units c.put_first.new.row c.put_first.new.ready.items [] c.args.item 0 1 0
    (subst (λ (t : List (List g.row.T.Denot)). AreSized t 0) (sym blocks) (one_block c.args.item))
    (ap joined blocks ∙ joined-one (c.args.item ∷ [])) (omega arith) (omega arith) c.put_first.ensures.room
    c.put_first.ensures.empty (omega arith) (omega (arith, units-nil units, c.requires.units))

pub returns-clause-items : goal.returns-clause-items
returns-clause-items g c = ap joined c.put_first.ensures.blocks ∙ joined-one (c.args.item ∷ [])
