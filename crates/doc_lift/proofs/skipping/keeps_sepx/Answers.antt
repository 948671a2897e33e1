use Rattle.std.proofs.Common.{arith}
use Rattle.doc_lift.proofs.SepxLemmas.{sepx_same}
use Rattle.doc_lift.proofs.skipping.keeps_sepx.Goals as goal

pub returns : goal.returns
returns c =
    sepx_same c.args.old.now c.args.new.now c.args.fc c.get16-count.result c.sepx_bytes.result.now
    c.sepx_bytes-2.result.now c.are_same.result (omega (arith, c.get16.ensures, c.if-get16-count.false))
    (omega (arith, c.get16-count.ensures)) c.sepx_bytes.ensures c.sepx_bytes-2.ensures c.are_same.ensures
    (omega (arith, c.if-at-lt-PAGES.false)) (omega (arith, c.if-old-at.false))
