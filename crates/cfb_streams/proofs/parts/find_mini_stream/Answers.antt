use Rattle.std.proofs.Common.{ap, ◌∙◌, subst}
use Rattle.cfb_directory.specs.Reach.{entry_place}
use Rattle.cfb_directory.specs.StreamEntries.{stream_head}
use Rattle.cfb_sectors.specs.Judged.{IsFoundChain}
use Rattle.cfb_sectors.specs.Tables.{table_at}
use Rattle.cfb_streams.proofs.FoundLemmas.{found_mini_stream}
use Rattle.cfb_streams.proofs.parts.find_mini_stream.Goals as goal

pub returns-clause-found : goal.returns-clause-found
returns-clause-found c =
    let place = c.entry_place-root.ensures.place in
    let head = c.stream_claim-claim.ensures ∙ ap (λ at. stream_head c.args.file.now 512 at) place in
    let size = ap (λ h. h.size) (c.claim.view_is ∙ head) in
    found_mini_stream c.args.file.now c.args.directory.now c.in_ok-found.found (λ e. c.if-claim-eq0.false (size ∙ e))
    (subst (λ t. IsFoundChain (table_at t) (stream_head c.args.file.now 512 (entry_place c.args.directory.now 0))
    c.in_ok-found.found) c.requires.is_fat
    (subst (λ h. IsFoundChain (table_at c.args.fat.now) h c.in_ok-found.found) head c.in_ok-found.ensures.found))
