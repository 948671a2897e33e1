use Rattle.std.proofs.Common.{true, sym, ◌∙◌}
use Rattle.fkp_pages.proofs.WrittenLemmas.{length-written, listed_len}
use Rattle.fkp_pages.proofs.written.written_len.Goals as goal

pub returns-then-is_bare : goal.returns-then-is_bare
returns-then-is_bare c = sym (length-written c.args.kind c.args.run.now true (sym c.if-is_bare.true ∙
    c.is_bare.ensures))

pub returns-in-Chpx : goal.returns-in-Chpx
returns-in-Chpx c = (listed_len c.args.kind c.args.run.now c.printed_len-len.result (sym c.if-is_bare.false ∙
    c.is_bare.ensures) c.printed_len-len.ensures.len).0 c.in-Chpx.is

pub returns-in-Papx : goal.returns-in-Papx
returns-in-Papx c = (listed_len c.args.kind c.args.run.now c.printed_len-len.result (sym c.if-is_bare.false ∙
    c.is_bare.ensures) c.printed_len-len.ensures.len).1 c.in-Papx.is
