use Rattle.std.proofs.Common.{arith}
use Rattle.file_mends.proofs.StopsLemmas.{no_codes}
use Rattle.file_mends.proofs.stops.codes_read.Goals as goal

pub returns-then-count-eq0 : goal.returns-then-count-eq0
returns-then-count-eq0 c =
    no_codes c.args.file.now c.args.streams.now c.in_ok-pages.pages.items c.in_ok-parts.parts.items
    c.in_ok-pages.ensures c.in_ok-parts.ensures (omega (arith, c.len.ensures, c.len-2.ensures, c.if-count-eq0.true))
