use Rattle.std.proofs.Common.{refl, slice_index}
use Rattle.doc_bits.specs.Number.{number_bytes}
use Rattle.cfb_layout.proofs.Public.{flat_step}
use Rattle.cfb_in_place.proofs.sectors.push_entries.Goals as goal

pub loop-entry-preserved : goal.loop-entry-preserved
loop-entry-preserved c =
    flat_step (number_bytes 4) c.args.out.now c.loop-entry.out c.push32.new.self c.args.entries.now
    c.loop-entry.entry-index (slice_index c.args.entries.now c.loop-entry.entry-index) 0 c.loop-entry.invariant
    c.in_ok-push32.ensures.ok c.loop-entry-test.true refl
