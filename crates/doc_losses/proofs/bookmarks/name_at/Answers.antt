use Rattle.std.proofs.Common.{rules, ℕ, ◌+◌, ◌*◌}
use Rattle.doc_bits.specs.Number.{u16_at}
use Rattle.doc_parts.specs.Tabulated.{tabulate}
use Rattle.doc_parts.proofs.Public.{tabulate-next}
use Rattle.doc_losses.proofs.bookmarks.name_at.Goals as goal

pub loop-i-init : goal.loop-i-init
unfolding tabulate
loop-i-init c = search rules

pub loop-i-preserved : goal.loop-i-preserved
loop-i-preserved c =
    let next = tabulate-next (λ (i : ℕ). u16_at c.args.names.now (c.args.place + 2 + 2 * i)) c.loop-i.i in
    cc (next, c.in_ok-push_all.ensures.ok, c.word_at.ensures, c.loop-i.invariant)
