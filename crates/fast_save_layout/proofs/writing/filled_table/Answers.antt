use Rattle.std.specs.Prelude.{replicate}
use Rattle.std.proofs.Common.{◌∙◌, ◌-◌, ◌++◌, ℕ, List, length, ap}
use Rattle.cfb_layout.specs.Sectors.{filled}
use Rattle.fast_save_layout.specs.Appended.{least_beside}
use Rattle.fast_save_layout.specs.RenewedStreams.{bytes_named}
use Rattle.fast_save_layout.proofs.writing.filled_table.Goals as goal

pub returns : goal.returns
unfolding filled
returns c =
    let wd = c.bytes_named.ensures ∙ ap (bytes_named c.args.container.now.streams) c.word_document.ensures in
    let least = c.least_table-least.ensures ∙ ap (λ (xs : List ℕ). least_beside (length xs)) wd in
    let len = ap (λ (xs : List ℕ). length xs) c.as_slice-len.ensures in
    let more = c.saturating_sub.ensures ∙ (λ i. least i - len i) in
    c.in_ok-push_zeros.ensures ∙ ap (λ (n : ℕ). c.args.table ++ replicate n 0) more
