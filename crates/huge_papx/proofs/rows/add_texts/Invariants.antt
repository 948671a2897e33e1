use Rattle.std.proofs.Common.{◌≡◌, ◌++◌, [], drop}
use Rattle.std.specs.Prelude.{slice_get}
use Rattle.std.specs.Option.{unwrap_or}
use Rattle.std.specs.List.{flat_map}
use Rattle.doc_parts.specs.Tabulated.{tabulate}
use Rattle.doc_mends.specs.Sides.{side_name}
use Rattle.deleted_text.specs.Ranges.{items_before}
use Rattle.huge_papx.specs.Rows.{text_rows}
use Rattle.huge_papx.proofs.rows.add_texts.Given as goal

-- the texts so far, and what is behind them
abbrev pub invariant-loop-number : goal.invariant-loop-number
invariant-loop-number l = record {
  rows : l.rows.items ≡ l.fn.rows.items ++ flat_map (λ rows. rows) (tabulate
      (λ number. text_rows (side_name l.side number) (drop (items_before l.texts number) l.definitions)
      (unwrap_or (slice_get l.texts number) [])) l.number);
  left : l.left ≡ drop (items_before l.texts l.number) l.definitions;
}
