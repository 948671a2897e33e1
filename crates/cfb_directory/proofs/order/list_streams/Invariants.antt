use Rattle.std.proofs.Common.{◌≡◌}
use Rattle.cfb_directory.specs.Directory.{entry_type}
use Rattle.cfb_directory.specs.Reach.{entry_place}
use Rattle.cfb_directory.proofs.OrderLemmas.{ListsFront}
use Rattle.cfb_directory.proofs.order.list_streams.Given as goal

abbrev pub invariant-loop-entry : goal.invariant-loop-entry
invariant-loop-entry l = ListsFront l.file l.directory l.order (λ k. entry_type l.file (entry_place l.directory k) ≡ 2)
    l.entry-index l.entries.items
