-- Run by run.
use Rattle.std.proofs.Common.{◌≡◌, ◌∙◌, ◌-◌, ◌<◌, ◌≤◌, inl, refl, sym, ap, take, length, List, get_or, Some, arith}
use Rattle.std.specs.Prelude.{slice_get}
use Rattle.std.proofs.lemmas.Option.{slice_get_read}
use Rattle.run_lists.specs.declared.runs.Run.{Run}
use Rattle.run_lists.specs.Spread.{total_len}
use Rattle.run_lists.proofs.Public.{extent-nil, extent_more, extent_all, count_within}
use Rattle.doc_columns.specs.declared.attached.Attached.{Attached}
use Rattle.doc_patch.proofs.PlaceLemmas.{shown_first, none_more, none_first, reached, reached_end}
use Rattle.doc_patch.proofs.places.first_place.Goals as goal

pub find-spot-requires-clause-within : goal.find-spot-requires-clause-within
find-spot-requires-clause-within c =
    let start : total_len (take 0 c.args.runs.now) ≡ 0 = extent-nil Attached in
    omega (arith, start, c.requires.within)

pub overflow_sub-begin : goal.overflow_sub-begin
overflow_sub-begin c =
    let start : total_len (take 0 c.args.runs.now) ≡ 0 = extent-nil Attached in
    omega (arith, c.find-spot.ensures.here, start)

pub loop-number-init : goal.loop-number-init
loop-number-init c =
    let start : total_len (take 0 c.args.runs.now) ≡ 0 = extent-nil Attached in
    let here = c.find-spot.ensures.here in
    let begins : c.args.at - c.find-spot.result.left ≡ total_len (take c.find-spot.result.run c.args.runs.now) =
    omega (arith, here, start) in
    record {
      begins = begins;
      reach =
          λ run is. reached c.args.runs.now c.find-spot.result.run c.args.at (c.args.at - c.find-spot.result.left)
          c.find-spot.result run c.find-spot.ensures is begins (inl refl);
      ended =
          λ all. reached_end c.args.runs.now c.find-spot.result.run c.args.at
          (c.args.at - c.find-spot.result.left) c.find-spot.result c.find-spot.ensures all begins (inl refl);
      none = λ k attached low high there. absurd (omega (arith, here, start, low, high));
    }

pub returns-then-shows : goal.returns-then-shows
returns-then-shows c =
    let runs : List (Run Attached) = c.args.runs.now in
    let run : Run Attached = c.index-runs-number.result in
    let inside : c.loop-number.number < length runs = c.loop-number-test.true in
    let is : slice_get runs c.loop-number.number ≡ Some run =
    slice_get_read runs (length runs) c.loop-number.number run refl inside c.index-runs-number.is in
    let shown = c.shows.ensures.0 c.if-shows.true in
    let behind = c.loop-number.invariant.reach run is in
    let until = behind.before shown.0 in
    let some = shown.0 in
    let place = c.max.ensures in
    shown_first c.args.part runs c.loop-number.number c.args.at c.loop-number.begin c.max.result run is
    c.loop-number.invariant.begins shown.1 (omega (arith, place)) (omega (arith, place, until, some))
    (omega (arith, place)) (λ more. omega (arith, place, more)) c.loop-number.invariant.none

pub overflow_add-begin : goal.overflow_add-begin
overflow_add-begin c =
    let runs : List (Run Attached) = c.args.runs.now in
    let run : Run Attached = c.index-runs-number.result in
    let inside : c.loop-number.number < length runs = c.loop-number-test.true in
    let count : run.count ≡ (get_or runs c.loop-number.number run).count =
    ap (λ (r : Run Attached). r.count) c.index-runs-number.is in
    omega (
      arith,
      count_within runs c.loop-number.number run inside,
      count,
      c.loop-number.invariant.begins,
      c.requires.few,
    )

pub loop-number-preserved : goal.loop-number-preserved
loop-number-preserved c =
    let runs : List (Run Attached) = c.args.runs.now in
    let run : Run Attached = c.index-runs-number.result in
    let inside : c.loop-number.number < length runs = c.loop-number-test.true in
    let is : slice_get runs c.loop-number.number ≡ Some run =
    slice_get_read runs (length runs) c.loop-number.number run refl inside c.index-runs-number.is in
    let count : run.count ≡ (get_or runs c.loop-number.number run).count =
    ap (λ (r : Run Attached). r.count) c.index-runs-number.is in
    let behind = c.loop-number.invariant.reach run is in
    record {
      begins =
          omega (arith, c.loop-number.invariant.begins, extent_more runs c.loop-number.number run inside, count);
      reach = λ next there. record {
        upto = omega (arith, behind.upto);
        before = λ some. omega (arith, behind.upto, some);
      };
      ended = λ all. behind.upto;
      none =
          none_more c.args.part runs c.loop-number.number c.args.at c.loop-number.begin run is
          c.loop-number.invariant.begins
          (λ both. grind (arith, sym c.if-shows.false ∙ c.shows.ensures.1 both)) c.loop-number.invariant.none;
    }

pub returns : goal.returns
returns c =
    let runs : List (Run Attached) = c.args.runs.now in
    let all : length runs ≤ c.loop-number.number = omega (arith, c.loop-number-test.false) in
    none_first c.args.part runs c.args.at c.loop-number.begin
    (c.loop-number.invariant.begins ∙ extent_all runs c.loop-number.number all)
    (c.loop-number.invariant.ended all) c.loop-number.invariant.none
