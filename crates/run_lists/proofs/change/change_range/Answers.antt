-- The range is gone over run by run.
use Rattle.std.proofs.Common.{◌≡◌, ◌+◌, ◌-◌, ◌<◌, [], length, take, get_or, refl, ap, Some, arith}
use Rattle.std.specs.Prelude.{slice_get}
use Rattle.std.proofs.lemmas.Option.{slice_get_read}
use Rattle.run_lists.specs.declared.runs.Run.{Run}
use Rattle.run_lists.specs.Spread.{expanded, total_len}
use Rattle.run_lists.proofs.SpreadLemmas.{extent-nil, extent_more}
use Rattle.run_lists.proofs.RunsLemmas.{left_of, number_inside}
use Rattle.run_lists.proofs.ChangeLemmas.{none_changed, changed_more}
use Rattle.run_lists.proofs.change.change_range.Goals as goal

pub loop-left-init : goal.loop-left-init
loop-left-init g c =
    let nothing : total_len {T = g.row.T.Denot} [] ≡ 0 = extent-nil g.row.T.Denot in
    let spot = c.args.spot in
    let here : total_len (take spot.run c.args.runs.now) + spot.left ≡ total_len {T = g.row.T.Denot} [] + c.args.from =
    c.requires.found.here in
    let end : c.args.to - (c.args.to - c.args.from) ≡ c.args.from = omega (arith, c.requires.ordered) in
    record {
      few = omega arith;
      place = λ some. omega (arith, c.requires.ordered, some);
      part = λ some run is. left_of c.args.runs.now 0 c.args.from spot run c.requires.found is;
      together =
          none_changed (g.C.Change.becomes c.args.by.now) (expanded c.args.runs.now) c.in_ok-fresh.fresh c.args.from
          (c.args.to - (c.args.to - c.args.from)) end c.in_ok-fresh.ensures;
    }

pub overflow_sub-run : goal.overflow_sub-run
overflow_sub-run g c =
    let runs = c.args.runs.now in
    let run = c.index-runs-number.result in
    let some = c.loop-left-test.true in
    let inside : c.loop-left.number < length runs =
    number_inside runs c.loop-left.number c.loop-left.skipped c.loop-left.left c.args.to some
    (c.loop-left.invariant.place some) c.requires.within in
    let is : slice_get runs c.loop-left.number ≡ Some run =
    slice_get_read runs (length runs) c.loop-left.number run refl inside c.index-runs-number.is in
    omega (arith, c.loop-left.invariant.part some run is)

pub loop-left-preserved : goal.loop-left-preserved
loop-left-preserved g c =
    let runs = c.args.runs.now in
    let number = c.loop-left.number in
    let run = c.index-runs-number.result in
    let some = c.loop-left-test.true in
    let place = c.loop-left.invariant.place some in
    let inside : number < length runs =
    number_inside runs number c.loop-left.skipped c.loop-left.left c.args.to some place c.requires.within in
    let is : slice_get runs number ≡ Some run =
    slice_get_read runs (length runs) number run refl inside c.index-runs-number.is in
    let part = c.loop-left.invariant.part some run is in
    let few = c.loop-left.invariant.few in
    let count : run.count ≡ (get_or runs number run).count =
    ap (λ (r : Run g.row.T.Denot). r.count) c.index-runs-number.is in
    record {
      few = omega (arith, few, c.min-count.ensures);
      place = λ more. omega (arith, more, place, part, count, c.min-count.ensures, extent_more runs number run inside);
      part = λ more next there. omega arith;
      together =
          changed_more (g.C.Change.becomes c.args.by.now) runs c.args.from c.args.to c.loop-left.left number
          c.loop-left.skipped c.min-count.result run c.in_ok-value.value c.loop-left.fresh c.add.new.self
          c.loop-left.invariant.together c.in_ok-add.ensures.ok is c.in_ok-value.ensures place
          (omega (arith, c.min-count.ensures)) (omega (arith, part, c.min-count.ensures))
          (omega (arith, few, c.requires.ordered));
    }
