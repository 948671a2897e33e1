use Rattle.piece_table.proofs.PrcListLemmas.{puts_prm}
use Rattle.piece_table.proofs.prc_lists.PrcLists.put.Goals as goal

pub returns : goal.returns
returns c = puts_prm (λ key. key.items) c.args.self.now.prms.entries c.insert.new.self.entries
    c.in_ok-from_slice.field-0 c.args.list.now c.args.prm c.in_ok-from_slice.ensures.items
    c.in_ok-insert.ensures.entries
