use Rattle.std.proofs.Common.{ap, length, arith}
use Rattle.fast_save_layout.proofs.StreamLemmas.{length-renewed}
use Rattle.fast_save_layout.proofs.writing.saved_anew.Goals as goal

pub whole-requires : goal.whole-requires
whole-requires c =
    let same = ap length c.in_ok-streams.ensures in
    let few = c.requires.few in
    omega (
      arith,
      same,
      few,
      length-renewed c.table_name.result.now c.as_slice-3.result.now c.as_slice-4.result.now
          c.args.old.now.container.now.streams,
    )
