-- A last block of no items goes.
use Rattle.std.proofs.Common.{◌+◌, ◌<◌, ◌∙◌, length, ap, arith}
use Rattle.chunked_list.specs.Blocks.{joined}
use Rattle.chunked_list.proofs.RemoveLemmas.{empty_out}
use Rattle.chunked_list.proofs.ShortLemmas.{but_out}
use Rattle.chunked_list.proofs.remove.mend.Goals as goal

pub returns-then-len-eq0-clause-same : goal.returns-then-len-eq0-clause-same
returns-then-len-eq0-clause-same g c =
    let old = c.args.row.now.blocks in
    let there : c.args.block < length old = omega (arith, c.count.ensures, c.if-block-count.false) in
    ap joined c.take_out.ensures.blocks
    ∙ empty_out old c.args.block there (omega (arith, c.len-len.ensures.value, c.if-len-eq0.true))

pub returns-then-len-eq0-clause-sized : goal.returns-then-len-eq0-clause-sized
returns-then-len-eq0-clause-sized g c = λ full from low is.
    let old = c.args.row.now.blocks in
    let b = c.args.block in
    let there : b < length old = omega (arith, c.count.ensures, c.if-block-count.false) in
    but_out old c.take_out.new.self.blocks b full from (b + 1) b is c.take_out.ensures.blocks there low (omega arith)
    (λ k high small. absurd (omega arith))
