use Rattle.std.proofs.Common.{◌≡◌, ◌++◌, [], slice_get}
use Rattle.std.specs.Option.{unwrap_or}
use Rattle.std.specs.List.{flat_map}
use Rattle.doc_parts.specs.Tabulated.{tabulate}
use Rattle.doc_mends.specs.Sides.{side_name}
use Rattle.doc_mends.specs.BrokenRows.{text_broken_rows}
use Rattle.doc_mends.proofs.rows.add_texts.Given as goal

-- the texts so far
abbrev pub invariant-loop-number : goal.invariant-loop-number
invariant-loop-number l =
    l.list.items ≡ l.fn.list.items ++ flat_map (λ rows. rows) (tabulate
    (λ number. text_broken_rows (side_name l.side number) (unwrap_or (slice_get l.texts number) [])) l.number)
