use Rattle.std.proofs.Common.{rules, of_calls, ℕ, sym}
use Rattle.std.specs.Prelude.{nat_lt}
use Rattle.std.proofs.lemmas.Fn.{always_returns_same}
use Rattle.std.proofs.lemmas.List.Sorted.{IsNonDecreasingBy-from_sort, IsPartitionedBy-ltb}
use Rattle.doc_parts.proofs.NumberingLemmas.{point_is_count}
use Rattle.doc_parts.proofs.bookmark_print.lesser_count.Goals as goal

pub returns : goal.returns
returns c =
    let order = IsNonDecreasingBy-from_sort (λ (x : ℕ). x) c.args.ends.now c.requires in
    let point = c.partition_point.ensures.partitioned (λ end. nat_lt end c.args.to)
    (always_returns_same _ _ _ (λ a r f k. search (rules, of_calls)))
    (IsPartitionedBy-ltb (λ (x : ℕ). x) c.args.ends.now c.args.to order) in
    sym (point_is_count (λ end. nat_lt end c.args.to) c.args.ends.now c.partition_point.result
    c.partition_point.ensures.bound point.0 point.1)
