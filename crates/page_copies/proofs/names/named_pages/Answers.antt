use Rattle.std.proofs.Common.{arith, ◌∙◌}
use Rattle.page_copies.proofs.NameLemmas.{mark_more}
use Rattle.page_copies.proofs.names.named_pages.Goals as goal

pub loop-k-preserved : goal.loop-k-preserved
loop-k-preserved c =
    let inv = c.loop-k.invariant in
    record {
      len = c.set_mark.ensures.len ∙ inv.len;
      marks = λ number below.
          mark_more c.args.bin.now c.loop-k.marks.items c.set_mark.new.marks.items c.loop-k.k c.page_of.result number
          c.page_of.ensures c.set_mark.ensures.here c.set_mark.ensures.others (omega (arith, below, inv.len))
          (inv.marks number below);
    }
