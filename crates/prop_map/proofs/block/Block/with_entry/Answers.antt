use Rattle.std.proofs.Common.{◌++◌, ◌∙◌, ap, subst}
use Rattle.std.specs.FinMap.{from_sorted}
use Rattle.prop_map.specs.Block.{block_entry_bytes, IsPutBetween}
use Rattle.prop_map.proofs.EntriesLemmas.{from_sorted-put}
use Rattle.prop_map.proofs.BlockLemmas.{put_block}
use Rattle.prop_map.proofs.block.Block.with_entry.Goals as goal

pub of_bytes-requires : goal.of_bytes-requires
of_bytes-requires c =
    let start = c.push_below.new.bytes in
    let between = subst (λ old. IsPutBetween c.args.entries c.args.code.0 old start c.in_ok-rest.rest)
    c.new-bytes.ensures c.in_ok-rest.ensures in
    let whole = (c.in_ok-push_all.ensures.ok
    ∙ (ap (λ b. b ++ c.bytes-3.result.now) c.in_ok-push_entry.ensures.bytes ∙ ap (λ b. (start ++ block_entry_bytes
    (c.args.code.0, c.args.value.now)) ++ b) c.bytes-3.ensures.bytes)) in
    (put_block c.args.entries c.in_ok-rest.rest c.args.code.0 c.args.value.now start c.push_all.new.self between
    c.bytes-3.ensures.entries c.in_ok-push_entry.ensures.entry c.requires whole).0

pub returns : goal.returns
returns c =
    let start = c.push_below.new.bytes in
    let between = subst (λ old. IsPutBetween c.args.entries c.args.code.0 old start c.in_ok-rest.rest)
    c.new-bytes.ensures c.in_ok-rest.ensures in
    let whole = (c.in_ok-push_all.ensures.ok
    ∙ (ap (λ b. b ++ c.bytes-3.result.now) c.in_ok-push_entry.ensures.bytes ∙ ap (λ b. (start ++ block_entry_bytes
    (c.args.code.0, c.args.value.now)) ++ b) c.bytes-3.ensures.bytes)) in
    let read = (put_block c.args.entries c.in_ok-rest.rest c.args.code.0 c.args.value.now start c.push_all.new.self
    between c.bytes-3.ensures.entries c.in_ok-push_entry.ensures.entry c.requires whole).1 in
    c.of_bytes.ensures ∙ (ap from_sorted read ∙ from_sorted-put c.args.entries c.args.code.0 c.args.value.now
    c.requires)
