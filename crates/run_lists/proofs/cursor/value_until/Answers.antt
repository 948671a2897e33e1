-- The run of the cursor.
use Rattle.std.proofs.Common.{◌≡◌, get_or, ap, arith}
use Rattle.std.proofs.lemmas.Option.{slice_get_within, get_or_from_slice_get}
use Rattle.run_lists.specs.declared.runs.Run.{Run}
use Rattle.run_lists.proofs.SpreadLemmas.{count_within}
use Rattle.run_lists.proofs.CutLemmas.{values_at}
use Rattle.run_lists.proofs.cursor.value_until.Goals as goal

pub returns-clause-within : goal.returns-clause-within
returns-clause-within g c =
    let runs = c.args.runs.now in
    let cursor = c.seek-value.new.cursor in
    let stops = c.seek-value.ensures.stops in
    let within = slice_get_within runs cursor.run stops.run stops.there in
    omega (
      arith,
      c.seek-value.ensures.at.begins,
      count_within runs cursor.run c.index-runs-cursor.result within,
    )

pub returns-clause-values : goal.returns-clause-values
returns-clause-values g c = λ k le until.
    let runs = c.args.runs.now in
    let cursor = c.seek-value.new.cursor in
    let stops = c.seek-value.ensures.stops in
    let here = get_or_from_slice_get runs cursor.run stops.run c.index-runs-cursor.result stops.there in
    let count : (get_or runs cursor.run c.index-runs-cursor.result).count ≡ stops.run.count =
    ap (λ (r : Run g.row.T.Denot). r.count) here in
    values_at runs cursor c.args.place k stops.run c.seek-value.result.now c.seek-value.ensures.at
    c.seek-value.ensures.ahead stops.there stops.inside c.seek-value.ensures.value le (omega (arith, until, count))
