-- The half that is left has the place.
use Rattle.std.proofs.lemmas.Bool.{false≢true}
use Rattle.std.proofs.Common.{◌≡◌, sym, ◌<◌, ◌≤◌, ◌+◌, ◌-◌, ◌/◌, ℕ, refl, subst, slice_index, arith}
use Rattle.cfb_directory.specs.Directory.{EntryBefore}
use Rattle.cfb_directory.specs.Reach.{entry_place}
use Rattle.cfb_directory.proofs.OrderLemmas.{before_behind}
use Rattle.cfb_directory.proofs.order.place_for.Goals as goal

pub loop-low-preserved-then-comes_before : goal.loop-low-preserved-then-comes_before
loop-low-preserved-then-comes_before c =
    let so_far = c.loop-low.invariant in
    record {
      ordered = omega arith;
      inside = omega (arith, c.loop-low-test.true, so_far.inside);
      before = so_far.before;
      after = λ _.
          rw (sym c.entry_place-at.ensures.place, sym c.entry_place-other.ensures.place)
          (c.if-comes_before.ensures.0 refl);
    }

pub loop-low-preserved : goal.loop-low-preserved
loop-low-preserved c =
    let low = c.loop-low.low in
    let high = c.loop-low.high in
    let so_far = c.loop-low.invariant in
    record {
      ordered = omega (arith, c.loop-low-test.true);
      inside = so_far.inside;
      before = before_behind c.args.file.now c.args.directory.now c.args.entries.now c.args.entry
          (low + (high - low) / 2) c.requires.order (omega (arith, c.loop-low-test.true, so_far.inside)) (λ h.
          false≢true (c.if-comes_before.ensures.1
          (rw (c.entry_place-at.ensures.place, c.entry_place-other.ensures.place) h)));
      after = so_far.after;
    }
