use Rattle.std.proofs.Common.{length, sym, ap, subst, ◌∙◌, ◌++◌}
use Rattle.std.proofs.lemmas.Bool.{eqb-true}
use Rattle.std.specs.Ordering.{nat_cmp}
use Rattle.std.specs.FinMap.{get, get-from_sorted, find}
use Rattle.prop_map.proofs.EntriesLemmas.{of_true}
use Rattle.prop_map.proofs.MergeLemmas.{HasMerged, none_merged, one_merged, all_merged, upper_merged}
use Rattle.prop_map.proofs.MergeLemmas.{find-put_over}
use Rattle.prop_map.proofs.block.Block.merge.Goals as goal

pub loop-code-init : goal.loop-code-init
loop-code-init c = none_merged c.args.base c.args.top c.new-bytes.result c.new-bytes.ensures c.requires.base
    c.requires.top

pub loop-code-preserved : goal.loop-code-preserved
loop-code-preserved c =
    let merge = subst (λ left. HasMerged c.args.base c.args.top c.loop-code.lower left c.loop-code.bytes)
    c.in-Some.ensures c.loop-code.invariant in
    one_merged c.args.base c.args.top c.loop-code.lower c.next.new.self c.in_ok-lower.lower c.in-Some.code.0
    c.in-Some.value.now c.loop-code.bytes c.push_below.new.bytes c.push_entry.new.bytes merge c.in_ok-lower.ensures
    c.in_ok-push_entry.ensures.bytes c.in_ok-push_entry.ensures.entry

pub of_bytes-requires : goal.of_bytes-requires
of_bytes-requires c =
    let before = subst (λ left. HasMerged c.args.base c.args.top c.loop-code.lower left c.loop-code.bytes)
    c.in-Some.ensures c.loop-code.invariant in
    let merge = one_merged c.args.base c.args.top c.loop-code.lower c.next.new.self c.in_ok-lower.lower
    c.in-Some.code.0 c.in-Some.value.now c.loop-code.bytes c.push_below.new.bytes c.push_entry.new.bytes before
    c.in_ok-lower.ensures c.in_ok-push_entry.ensures.bytes c.in_ok-push_entry.ensures.entry in
    let none = eqb-true (length c.in_ok-lower.lower) 0 (sym c.if-is_empty.ensures) in
    let all = upper_merged c.args.base c.args.top c.in_ok-lower.lower c.next.new.self c.push_entry.new.bytes
    c.push_all.new.self merge none
    (c.in_ok-push_all.ensures.ok ∙ ap (λ b. c.push_entry.new.bytes ++ b) c.bytes-others.ensures.bytes)
    c.bytes-others.ensures.entries c.requires.base in
    all.0

pub returns-then-is_empty : goal.returns-then-is_empty
returns-then-is_empty c = λ code.
    let before = subst (λ left. HasMerged c.args.base c.args.top c.loop-code.lower left c.loop-code.bytes)
    c.in-Some.ensures c.loop-code.invariant in
    let merge = one_merged c.args.base c.args.top c.loop-code.lower c.next.new.self c.in_ok-lower.lower
    c.in-Some.code.0 c.in-Some.value.now c.loop-code.bytes c.push_below.new.bytes c.push_entry.new.bytes before
    c.in_ok-lower.ensures c.in_ok-push_entry.ensures.bytes c.in_ok-push_entry.ensures.entry in
    let none = eqb-true (length c.in_ok-lower.lower) 0 (sym c.if-is_empty.ensures) in
    let all = upper_merged c.args.base c.args.top c.in_ok-lower.lower c.next.new.self c.push_entry.new.bytes
    c.push_all.new.self merge none
    (c.in_ok-push_all.ensures.ok ∙ ap (λ b. c.push_entry.new.bytes ++ b) c.bytes-others.ensures.bytes)
    c.bytes-others.ensures.entries c.requires.base in
    ap (λ m. get m code) c.of_bytes.ensures
    ∙ (get-from_sorted nat_cmp _ code (of_true _ all.0.sorted)
    ∙ (ap (find nat_cmp code) all.1 ∙ find-put_over c.args.top c.args.base code (of_true _ c.requires.top)))

pub of_bytes-requires-2 : goal.of_bytes-requires-2
of_bytes-requires-2 c =
    let merge = subst (λ left. HasMerged c.args.base c.args.top c.loop-code.lower left c.loop-code.bytes)
    c.in_default.ensures.0 c.loop-code.invariant in
    let all = all_merged c.args.base c.args.top c.loop-code.lower c.loop-code.bytes c.push_all-2.new.self merge
    (c.in_ok-push_all-2.ensures.ok ∙ ap (λ b. c.loop-code.bytes ++ b) c.bytes-rest.ensures.bytes)
    c.bytes-rest.ensures.entries c.requires.base in
    all.0

pub returns : goal.returns
returns c = λ code.
    let merge = subst (λ left. HasMerged c.args.base c.args.top c.loop-code.lower left c.loop-code.bytes)
    c.in_default.ensures.0 c.loop-code.invariant in
    let all = all_merged c.args.base c.args.top c.loop-code.lower c.loop-code.bytes c.push_all-2.new.self merge
    (c.in_ok-push_all-2.ensures.ok ∙ ap (λ b. c.loop-code.bytes ++ b) c.bytes-rest.ensures.bytes)
    c.bytes-rest.ensures.entries c.requires.base in
    ap (λ m. get m code) c.of_bytes-2.ensures
    ∙ (get-from_sorted nat_cmp _ code (of_true _ all.0.sorted)
    ∙ (ap (find nat_cmp code) all.1 ∙ find-put_over c.args.top c.args.base code (of_true _ c.requires.top)))
