use Rattle.std.proofs.Common.{length, ap, arith}
use Rattle.run_lists.specs.Spread.{expanded}
use Rattle.run_lists.proofs.Public.{length-spread}
use Rattle.session_text.proofs.PickLemmas.{length-range}
use Rattle.session_text.proofs.picked.put_range.Goals as goal

pub put_runs-requires : goal.put_runs-requires
put_runs-requires g c =
    let all = expanded c.args.runs.now in
    let long = length-spread c.args.runs.now in
    omega (
      arith,
      length-spread c.as_runs.result.now,
      ap length c.as_runs.ensures.runs,
      ap length c.in_ok-copy.ensures.copy,
      length-range all c.args.range.0 c.args.range.1 c.requires.order (omega (arith, long, c.requires.within)),
      c.requires.room,
    )
