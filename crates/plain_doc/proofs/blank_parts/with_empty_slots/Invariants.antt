use Rattle.std.proofs.Common.{◌≡◌, ◌++◌, None, replicate}
use Rattle.plain_doc.proofs.blank_parts.with_empty_slots.Given as goal

-- so many slots are added
abbrev pub invariant-loop-k : goal.invariant-loop-k
invariant-loop-k l = l.more ≡ record { head = l.fn.sheet.head; styles = l.fn.sheet.styles ++ replicate l._k None }
