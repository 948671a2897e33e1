use Rattle.std.proofs.Common.{◌∙◌, ap, arith, ◌++◌}
use Rattle.overlapping_grpprls.proofs.KeepingLemmas.{entry_bytes, entry_left_out}
use Rattle.overlapping_grpprls.proofs.keeping.push_entry.Goals as goal

pub returns-then-entry-from : goal.returns-then-entry-from
returns-then-entry-from c = entry_left_out c.args.lists.now.stream.now c.args.from c.args.entry c.args.bytes.now
    c.if-entry-from.true

pub returns : goal.returns
returns c = c.in_ok-push_all.ensures.ok ∙ ap (λ l. c.args.bytes.now ++ l) (entry_bytes c.args.lists.now.stream.now
    c.args.lists.now.groups c.requires.0 c.args.from c.args.entry c.requires.1 (omega arith))
