use Rattle.std.proofs.Common.{◌≡◌, ℕ, ◌<◌, false, [], get_or}
use Rattle.cfb_streams.specs.Names.{is_same_name}
use Rattle.document_commands.specs.Summaries.{summary_name}
use Rattle.document_commands.proofs.summary.summary_place.Given as goal

-- no stream so far has the name
abbrev pub invariant-loop-i : goal.invariant-loop-i
invariant-loop-i l =
    (k : ℕ) → k < l.i →
    is_same_name (get_or l.fn.streams k (record { name = []; bytes = [] })).name summary_name ≡ false
