-- A list that is skipped in a range of bytes.
use Rattle.std.proofs.Common.{◌≡◌, ℕ, ◌+◌, ◌-◌, ◌≤◌, List, ◌++◌, length, take, drop, slice_range, ap, ◌∙◌, arith}
use Rattle.std.proofs.lemmas.List.{drop-drop}
use borrow.Rule.Slice.PartMut.{put_mid}
use Rattle.doc_bits.proofs.Public.{length-range}
use Rattle.prl_skips.specs.Skips.{SkipsOrStays, PutsSkipped}

pub range_put : (old mid : List ℕ) (from to : ℕ) → from ≤ to → to ≤ length old →
    SkipsOrStays (slice_range old from to) mid → length mid ≡ length (slice_range old from to) →
    PutsSkipped old (put_mid from (to - from) old mid) from to
range_put old mid from to ordered within skips len =
    let width = length-range old from to within in
    let end : from + (to - from) ≡ to = omega arith in
    record {
      mid = mid;
      skips = skips;
      len = len ∙ width;
      put = ap (λ l. take from old ++ (mid ++ l)) (drop-drop (to - from) from old ∙ ap (λ n. drop n old) end);
    }
