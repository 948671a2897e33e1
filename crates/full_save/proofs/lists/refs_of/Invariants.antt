use Rattle.std.specs.Prelude.{◌≡◌, [], take}
use Rattle.run_lists.specs.Spread.{total_len}
use Rattle.doc_model.specs.declared.item.Item.{Item}
use Rattle.full_save.specs.Lists.{IsListedUpTo, ref_entry}
use Rattle.full_save.proofs.lists.refs_of.Given as goal

abbrev pub invariant-loop-run : goal.invariant-loop-run
invariant-loop-run l =
    (l.place ≡ total_len (take l.run-index l.run-items)) × IsListedUpTo (λ (item : Item). item.note) ref_entry 0
    l.fn.main
    l.place [] l.refs
