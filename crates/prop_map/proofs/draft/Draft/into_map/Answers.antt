use Rattle.std.proofs.Common.{◌≡◌, ◌++◌, IsTrue, ap, subst, sym, ◌∙◌}
use Rattle.std.specs.Prelude.{IfOk}
use Rattle.std.specs.Ordering.{nat_cmp}
use Rattle.std.specs.FinMap.{from_sorted, is_sorted}
use Rattle.prop_map.specs.Block.{IsBlockEntry, block_entry_bytes}
use Rattle.prop_map.proofs.BlockLemmas.{HasAppended, none_appended, one_appended, all_appended}
use Rattle.prop_map.proofs.draft.Draft.into_map.Goals as goal

pub loop-code-init : goal.loop-code-init
loop-code-init c = none_appended c.into_iter-code-iterator.result c.new-bytes.result c.new-bytes.ensures

pub loop-code-preserved : goal.loop-code-preserved
loop-code-preserved c =
    let appended = subst (λ left. HasAppended c.into_iter-code-iterator.result left c.loop-code.bytes)
    c.in-Some.ensures.steps c.loop-code.invariant in
    one_appended c.into_iter-code-iterator.result c.next.new.self c.in-Some.code c.in-Some.value c.loop-code.bytes
    c.push_entry.new.bytes appended
    (subst (λ v. c.push_entry.new.bytes ≡ c.loop-code.bytes ++ block_entry_bytes (c.in-Some.code, v)) c.as_slice.ensures
    c.in_ok-push_entry.ensures.bytes)
    (subst (λ v. IsBlockEntry (c.in-Some.code, v)) c.as_slice.ensures c.in_ok-push_entry.ensures.entry)

pub of_bytes-requires : goal.of_bytes-requires
of_bytes-requires c =
    let all = c.into_iter-code-iterator.result in
    let appended = subst (λ left. HasAppended all left c.loop-code.bytes) c.in-None.ensures.steps.0
    c.loop-code.invariant in
    let sorted = subst (λ es. IsTrue (is_sorted nat_cmp es)) (sym c.into_iter-code-iterator.ensures.into_iter_gives.0)
    c.self.invariant in
    (all_appended all c.loop-code.bytes appended sorted).0

pub returns : goal.returns
returns c =
    let all = c.into_iter-code-iterator.result in
    let appended = subst (λ left. HasAppended all left c.loop-code.bytes) c.in-None.ensures.steps.0
    c.loop-code.invariant in
    let sorted = subst (λ es. IsTrue (is_sorted nat_cmp es)) (sym c.into_iter-code-iterator.ensures.into_iter_gives.0)
    c.self.invariant in
    let read = (all_appended all c.loop-code.bytes appended sorted).1 in
    subst (λ m. IfOk c.from_block.result (λ made. made ≡ m)) (c.of_bytes.ensures ∙ (ap from_sorted
    (read ∙ c.into_iter-code-iterator.ensures.into_iter_gives.0) ∙ c.self.view_is)) c.from_block.ensures
