use Rattle.std.proofs.Common.{◌≡◌, ℕ, List, ap, ◌∙◌, subst, arith}
use Rattle.cfb_sectors.specs.Chain.{ChainHead, BreaksChain}
use Rattle.cfb_sectors.specs.Judged.{IsFoundChain}
use Rattle.cfb_sectors.specs.Tables.{TablePlace, table_at}
use Rattle.cfb_sectors.specs.declared.chain.Chain.{Chain}
use Rattle.cfb_sectors.proofs.Public.{holds_none}
use Rattle.cfb_directory.specs.Reach.{entry_place}
use Rattle.cfb_directory.specs.Directory.{entry_stream_size}
use Rattle.cfb_directory.specs.StreamEntries.{IsSmallStream, stream_head}
use Rattle.cfb_streams.specs.StreamRules.{mini_table_of}
use Rattle.cfb_in_place.proofs.chains.mini_chain.Goals as goal

pub unreachable-requires : goal.unreachable-requires
unreachable-requires c =
    let file = c.args.file.now in
    let directory = c.args.layout.now.parts.directory in
    let mini_fat = c.args.layout.now.parts.mini_fat in
    let entry = c.args.entry in
    let place : c.entry_place-at.result ≡ entry_place directory entry = c.entry_place-at.ensures.place ∙ ap (λ (xs :
    List ℕ). entry_place xs entry) c.directory.ensures.sectors in
    let size : c.get32-size.result ≡ entry_stream_size file (entry_place directory entry) = c.get32-size.ensures ∙ ap (λ
    k.
    entry_stream_size file k) place in
    let some = c.if-size-eq0.false in
    let low = c.if-size-ge-CUTOFF.false in
    let small : IsSmallStream file directory entry = record {
      is_entry = c.requires.is_entry;
      some = omega arith;
      small = omega arith;
    } in
    let head : c.stream_claim.result ≡ stream_head file 64 (entry_place directory entry) = c.stream_claim.ensures ∙ ap
    (λ k. stream_head file 64 k) place in
    let found = subst (λ (ch : Chain). IsFoundChain (table_at c.in_ok-mini.mini) c.stream_claim.result ch)
    c.in-Breaks.is
    c.in_ok-path.ensures.found in
    let broken = subst (λ (t : TablePlace). BreaksChain (table_at t) c.stream_claim.result c.in-Breaks.field-0)
    c.in_ok-mini.ensures found.broken in
    let breaks = subst (λ (h : ChainHead). BreaksChain (mini_table_of file directory mini_fat) h c.in-Breaks.field-0)
    head
    broken in
    holds_none (mini_table_of file directory mini_fat) (stream_head file 64 (entry_place directory entry))
    c.requires.there.0 (c.requires.there.1.short small) c.in-Breaks.field-0 breaks
