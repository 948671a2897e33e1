use Rattle.std.proofs.lemmas.List.Elements.{All-get_or}
use Rattle.overlapping_grpprls.specs.Keeping.{IsKeptEntry}
use Rattle.overlapping_grpprls.proofs.KeepingLemmas.{bytes_more, bytes_all}
use Rattle.overlapping_grpprls.proofs.keeping.bytes_from.Goals as goal

pub push_entry-requires : goal.push_entry-requires
push_entry-requires c = (
  c.requires.0,
  All-get_or (IsKeptEntry c.args.lists.now.stream.now c.args.lists.now.groups c.requires.0) c.args.kept.now
      c.loop-entry.entry-index _ c.loop-entry-test.true c.requires.1,
)

pub loop-entry-preserved : goal.loop-entry-preserved
loop-entry-preserved c = bytes_more c.args.lists.now.stream.now c.args.from c.loop-entry.entry-index c.args.kept.now _
    c.loop-entry.bytes c.push_entry.new.bytes c.loop-entry.invariant c.loop-entry-test.true c.in_ok-push_entry.ensures

pub returns : goal.returns
returns c = bytes_all c.args.lists.now.stream.now c.args.from c.loop-entry.entry-index c.args.kept.now
    c.loop-entry.bytes c.loop-entry.invariant c.loop-entry-test.false
