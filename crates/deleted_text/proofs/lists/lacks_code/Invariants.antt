use Rattle.std.proofs.Common.{◌≢◌, ◌+◌, ◌<◌, ℕ}
use Rattle.doc_bits.specs.Number.{u16_at}
use Rattle.deleted_text.proofs.lists.lacks_code.Given as goal

-- none of the words so far is the code
abbrev pub invariant-loop-k : goal.invariant-loop-k
invariant-loop-k l = (at : ℕ) → at + 1 < l.k → u16_at l.list at ≢ 0x0800
