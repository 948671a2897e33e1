use Rattle.std.proofs.lemmas.Result.{err_from_is_err_and}
use Rattle.doc_outer.proofs.BlockLemmas.{AppendsPrefix-past, Sends-flushed}
use Rattle.doc_outer.proofs.out_block.OutBlock.push_past.Goals as goal

pub returns-in_err-write_all-clause-err : goal.returns-in_err-write_all-clause-err
returns-in_err-write_all-clause-err g c =
    let p = err_from_is_err_and c.from_residual-in_err-write_all.result
    c.from_residual-in_err-write_all.ensures.1 in
    let written = g.K.Sink.written in
    rw (p.1) (AppendsPrefix-past (written c.args.out.now) (written c.flush.new.out) (written c.write_all.new.sink)
    c.args.self.now c.args.bytes.now c.in_ok-flush.ensures.ok c.in_err-write_all.ensures.err)

pub returns-else-bytes-gt-BLOCK_LEN-clause-ok : goal.returns-else-bytes-gt-BLOCK_LEN-clause-ok
returns-else-bytes-gt-BLOCK_LEN-clause-ok g c =
    let written = g.K.Sink.written in
    rw (c.append.ensures, c.in_ok-flush.ensures.empty) (Sends-flushed (written c.args.out.now)
    (written c.flush.new.out) c.args.self.now c.args.bytes.now c.in_ok-flush.ensures.ok)
