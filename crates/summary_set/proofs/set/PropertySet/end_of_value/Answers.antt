use Rattle.std.proofs.Common.{rules, of_calls, ◌≡◌, ◌<◌, ◌≤◌, ◌∙◌, ℕ, true, false, length, vec_len, sym, subst}
use Rattle.std.proofs.Common.{arith}
use Rattle.std.specs.Prelude.{nat_le}
use Rattle.std.specs.List.Sorted.{IsPartitionPoint, IsPartitionedBy}
use Rattle.std.proofs.lemmas.Fn.{always_returns_same}
use Rattle.std.proofs.lemmas.Grind.{get_or_default_zero}
use Rattle.std.proofs.lemmas.List.Sorted.{IsNonDecreasingBy-from_sort, IsPartitionedBy-leb}
use Rattle.summary_set.specs.PropertySet.{offsets_of, first_set_size}
use Rattle.summary_set.proofs.ValueLemmas.{end_found, end_last, offsets_within}
use Rattle.summary_set.proofs.set.PropertySet.end_of_value.Goals as goal

pub returns-then-next-len : goal.returns-then-next-len
returns-then-next-len c =
    let set = c.args.self.now in
    let same : c.as_slice.result.now ≡ set.offsets.items = c.as_slice.ensures.value in
    let len : vec_len set.offsets ≡ length set.offsets.items = search rules in
    let order = IsNonDecreasingBy-from_sort (λ (x : ℕ). x) set.offsets.items c.requires.set.ascending in
    let point = c.partition_point-next.ensures.partitioned (λ other. nat_le other c.args.offset)
    (always_returns_same _ _ _
    (λ a r f k. search (rules, of_calls))) (subst (λ xs. IsPartitionedBy (λ y. nat_le y c.args.offset) xs) (sym same)
    (IsPartitionedBy-leb (λ (x : ℕ). x) set.offsets.items c.args.offset order)) in
    let cut = subst
    (λ xs. IsPartitionPoint (λ y. nat_le y c.args.offset ≡ true) (λ y. nat_le y c.args.offset ≡ false) xs
    c.partition_point-next.result) same point in
    let below : c.partition_point-next.result < length set.offsets.items = omega (
      arith,
      c.if-next-len.true,
      c.len.ensures,
    ) in
    let found = end_found (offsets_of c.args.stream.now) set.offsets.items (first_set_size c.args.stream.now)
    c.args.offset
    c.partition_point-next.result c.requires.set.offsets order cut (offsets_within c.args.stream.now c.requires.formed)
    below in
    let here = get_or_default_zero set.offsets.items c.partition_point-next.result c.index.result.now below in
    c.index.ensures ∙ (here ∙ found)

pub returns-else-next-len : goal.returns-else-next-len
returns-else-next-len c =
    let set = c.args.self.now in
    let same : c.as_slice.result.now ≡ set.offsets.items = c.as_slice.ensures.value in
    let len : vec_len set.offsets ≡ length set.offsets.items = search rules in
    let order = IsNonDecreasingBy-from_sort (λ (x : ℕ). x) set.offsets.items c.requires.set.ascending in
    let point = c.partition_point-next.ensures.partitioned (λ other. nat_le other c.args.offset)
    (always_returns_same _ _ _
    (λ a r f k. search (rules, of_calls))) (subst (λ xs. IsPartitionedBy (λ y. nat_le y c.args.offset) xs) (sym same)
    (IsPartitionedBy-leb (λ (x : ℕ). x) set.offsets.items c.args.offset order)) in
    let cut = subst
    (λ xs. IsPartitionPoint (λ y. nat_le y c.args.offset ≡ true) (λ y. nat_le y c.args.offset ≡ false) xs
    c.partition_point-next.result) same point in
    let past : length set.offsets.items ≤ c.partition_point-next.result = omega (
      arith,
      c.if-next-len.false,
      c.len.ensures,
    ) in
    c.requires.set.size ∙ end_last (offsets_of c.args.stream.now) set.offsets.items (first_set_size c.args.stream.now)
    c.args.offset c.partition_point-next.result c.requires.set.offsets cut past
