use Rattle.std.proofs.Common.{◌≡◌, take}
use Rattle.fkp_pages.specs.PageBytes.{first_limit, limit_after, FitsPage}
use Rattle.fkp_pages.proofs.packing.page_len.Given as goal

-- the runs so far fit, and leave this limit
abbrev pub invariant-loop-i : goal.invariant-loop-i
invariant-loop-i l = record {
  limit : l.limit ≡ limit_after l.kind first_limit (take l.i l.runs);
  fits : FitsPage
      l.kind (take l.i l.runs);
}
