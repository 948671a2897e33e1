use Rattle.cfb_sectors.proofs.MarkLemmas.{no_mark}
use Rattle.cfb_sectors.proofs.marks.Marks.new.Goals as goal

pub returns-clause-none : goal.returns-clause-none
returns-clause-none c = no_mark c.in_ok-stamps.stamps.items 1 c.in_ok-stamps.ensures.clear
