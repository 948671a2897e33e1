use Rattle.std.proofs.Common.{sym, ap, ◌∙◌}
use Rattle.std.specs.FinMap.{entries, same_entries_map}
use Rattle.std.proofs.lemmas.Slice.Eq.{bytes_eq-Decides}
use Rattle.prop_map.specs.Block.{block_bytes}
use Rattle.prop_map.proofs.BlockLemmas.{same_blocks}
use Rattle.prop_map.proofs.map.PropMap.equal.Goals as goal

pub returns : goal.returns
returns c =
    let same = bytes_eq-Decides c.bytes.result.now c.bytes-2.result.now in (
      λ t.
          let blocks = sym c.bytes.ensures.bytes ∙ (same.0 (sym c.eq.ensures ∙ t) ∙ c.bytes-2.ensures.bytes) in
          same_entries_map _ _ (sym c.entries.ensures ∙ (same_blocks c.entries.result c.entries-2.result
          c.bytes.ensures.entries c.bytes-2.ensures.entries blocks ∙ c.entries-2.ensures)),
      λ e. c.eq.ensures ∙ same.1 (c.bytes.ensures.bytes ∙ (ap block_bytes (c.entries.ensures ∙ (ap entries e ∙ sym
          c.entries-2.ensures)) ∙ sym c.bytes-2.ensures.bytes)),
    )
