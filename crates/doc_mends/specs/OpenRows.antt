-- The row that is open before a place of a text, as it is found.
use Rattle.std.specs.Prelude.{◌≡◌, ℕ, ◌≤◌, List, ◌++◌, length, take}
use Rattle.std.specs.List.{filter_map}
use Rattle.doc_bits.specs.declared.places.Story.{Story}
use Rattle.doc_parts.specs.Tabulated.{tabulate}
use Rattle.doc_model.specs.declared.item.Item.{Item}
use Rattle.doc_mends.specs.declared.mends.BrokenRow.{BrokenRow}
use Rattle.doc_mends.specs.declared.rows.OpenRow.{OpenRow}
use Rattle.doc_mends.specs.BrokenRows.{open_length, cells_of_row, broken_row_at}

pub record IsOpenBefore (text : List Item) (at : ℕ) (row : OpenRow) : Type 0 where
  pub len : row.len ≡ open_length (take at text)
  pub cells : row.cells ≡ cells_of_row (take at text)
  pub within : row.len ≤ at
  pub few : row.cells ≤ row.len

-- the rows that the items of a text break are added
abbrev pub FindsBefore : Story → List Item → List BrokenRow → List BrokenRow → Type 0
FindsBefore story text old new =
    new ≡ old ++ filter_map (λ row. row) (tabulate (broken_row_at story text) (length text))
