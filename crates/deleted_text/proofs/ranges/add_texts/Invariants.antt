use Rattle.std.proofs.Common.{◌≡◌, ◌++◌, drop}
use Rattle.std.specs.List.{flat_map}
use Rattle.doc_parts.specs.Tabulated.{tabulate}
use Rattle.doc_mends.specs.Sides.{side_name}
use Rattle.deleted_text.specs.Ranges.{text_ranges, text_flags, items_before}
use Rattle.deleted_text.proofs.ranges.add_texts.Given as goal

-- the texts so far, and what is behind them
abbrev pub invariant-loop-number : goal.invariant-loop-number
invariant-loop-number l = record {
  ranges : l.ranges.items ≡ l.fn.ranges.items ++ flat_map (λ ranges. ranges) (tabulate
      (λ number. text_ranges (side_name l.side number) (text_flags l.flags l.texts number)) l.number);
  left : l.left ≡ drop (items_before l.texts l.number) l.flags;
}
