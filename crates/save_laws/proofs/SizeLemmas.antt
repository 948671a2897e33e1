-- What is counted bounds the two streams.
use Rattle.std.proofs.Common.{ℕ, ◌+◌, ◌*◌, arith}
use Rattle.full_save.proofs.Public.{length-sepx}
use Rattle.save_laws.specs.FastSizes.{CountsBoundStreams, SepxIsShort}

pub counts_bound_streams : CountsBoundStreams
counts_bound_streams counts written before after counted appended =
    let text = counted.text in
    let sepxes = counted.sepxes in
    let bins = counted.bins in
    let clx = counted.clx in
    let wd = appended.wd_is in
    let table = appended.table_is in
    let prcs : ℕ = (12 + counts.prc_bytes) * counts.pieces in
    record {
      wd_is = omega (arith, text, sepxes, wd);
      table_is = omega (arith, bins, clx, table);
      bins = bins;
      grown = omega (arith, text, sepxes, bins, clx, wd, table);
    }

pub sepx_is_short : SepxIsShort
sepx_is_short properties short = length-sepx properties short
