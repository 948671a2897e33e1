use Rattle.std.proofs.Common.{◌≡◌, [], replicate}
use Rattle.plain_doc.proofs.blank_parts.empty_heads.Given as goal

-- the header texts so far are empty
abbrev pub invariant-loop-k : goal.invariant-loop-k
invariant-loop-k l = l.heads ≡ replicate l._k []
