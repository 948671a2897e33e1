use Rattle.std.proofs.Common.{◌≡◌, ℕ, ◌<◌, map}
use Rattle.std.specs.List.{range_with_len}
use Rattle.std.specs.Ordering.{nat_cmp}
use Rattle.std.specs.BTreeSet.{contains}
use Rattle.summary_set.specs.PropertySet.{pair_at}
use Rattle.summary_set.specs.Form.{IsValidPair}
use Rattle.summary_set.proofs.FormLemmas.{Knows}
use Rattle.summary_set.proofs.form.read_pairs.Given as goal

-- the pairs so far are read and right, and their ids and offsets are known
abbrev pub invariant-loop-i : goal.invariant-loop-i
invariant-loop-i l = record {
  read : l.pairs.items ≡ map (pair_at l.stream) (range_with_len 0 l.i);
  right : (j : ℕ) → j < l.i → IsValidPair l.stream j;
  ids : Knows (contains nat_cmp l.seen.ids) (λ j. (pair_at l.stream j).id) l.i;
  offsets : Knows (contains nat_cmp l.seen.offsets) (λ j. (pair_at l.stream j).offset) l.i;
}
