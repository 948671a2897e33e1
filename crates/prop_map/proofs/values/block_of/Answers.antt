use Rattle.std.proofs.Common.{ap, ◌∙◌}
use Rattle.std.specs.FinMap.{from_sorted}
use Rattle.prop_map.proofs.ValueLemmas.{no_values, one_value, all_values}
use Rattle.prop_map.proofs.values.block_of.Goals as goal

pub loop-set-init : goal.loop-set-init
loop-set-init c = no_values c.args.values.now c.new-bytes.result c.new-bytes.ensures

pub loop-set-preserved : goal.loop-set-preserved
loop-set-preserved c = one_value c.args.values.now c.loop-set.set-index _ c.loop-set.bytes c.push_entry.new.bytes
    c.loop-set.invariant c.loop-set-test.true c.in_ok-push_entry.ensures.bytes c.in_ok-push_entry.ensures.entry

pub of_bytes-requires : goal.of_bytes-requires
of_bytes-requires c = (all_values c.args.values.now c.loop-set.set-index c.loop-set.bytes c.loop-set.invariant
    c.loop-set-test.false c.requires).0

pub returns : goal.returns
returns c = c.of_bytes.ensures ∙ ap from_sorted (all_values c.args.values.now c.loop-set.set-index c.loop-set.bytes
    c.loop-set.invariant c.loop-set-test.false c.requires).1
