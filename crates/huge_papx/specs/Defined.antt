-- Rows get the cells that the stream Data has for them.
use Rattle.std.specs.Prelude.{◌≡◌, ℕ, ◌+◌, Bool, List, ◌++◌, map, take, Option}
use Rattle.doc_model.specs.declared.document.Document.{Document}
use Rattle.doc_patch.specs.declared.changes.Change.{Change}
use Rattle.doc_patch.specs.declared.changes.Change.TheVariants.{ModifyItems}
use Rattle.doc_patch.specs.Changes.{all_changed}
use Rattle.doc_mends.specs.declared.mends.Mend.{Mend}
use Rattle.doc_mends.specs.declared.mends.Mend.TheVariants.{DefineRow}
use Rattle.deleted_text.specs.declared.ranges.StoryBegins.{StoryBegins}
use Rattle.deleted_text.specs.Ranges.{document_ranges}
use Rattle.deleted_text.specs.Strikes.{IsStruck}
use Rattle.huge_papx.specs.declared.defining.TheConstants.{MAX_DEFINED}
use Rattle.huge_papx.specs.declared.definitions.RowDefinition.{RowDefinition}
use Rattle.huge_papx.specs.declared.rows.DefinedRow.{DefinedRow}
use Rattle.huge_papx.specs.Data.{data_of}
use Rattle.huge_papx.specs.Definitions.{AreDefinitions}
use Rattle.huge_papx.specs.Rows.{defining, document_rows}

-- what is changed of a document, and the mend
abbrev pub definition_change : DefinedRow → Change
definition_change row = ModifyItems row.story row.at (row.at + 1) (defining row.cells)

abbrev pub definition_mend : DefinedRow → Mend
definition_mend row = DefineRow (record { story = row.story; at = row.at })

-- Profile: so many rows get their cells at most, since the runs of a text are made anew for each
abbrev pub most_defined : ℕ
most_defined = MAX_DEFINED

-- the rows of a document whose CPs name these places of its stream Data
pub record AreRowsOf (begins : StoryBegins) (offsets : List (Option ℕ)) (document : Document) (rows : List DefinedRow) :
    Type 0 where
  pub definitions : List (Option RowDefinition)
  pub are : AreDefinitions (data_of document.carried.streams) offsets definitions
  pub rows_are : rows ≡ document_rows begins definitions document

-- the document whose rows got their cells, and the mend of each
pub record IsDefined (begins : StoryBegins) (offsets : List (Option ℕ)) (before after : Document) (mends : List Mend) :
    Type 0 where
  pub rows : List DefinedRow
  pub are : AreRowsOf begins offsets before rows
  pub document_is : after ≡ all_changed (map definition_change (take most_defined rows)) before
  pub mends_are : mends ≡ map definition_mend (take most_defined rows)

-- first it is struck, by flags of its CPs
pub record IsStruckThenDefined (begins : StoryBegins) (said : List Bool × List (Option ℕ)) (before after : Document)
    (mends : List Mend) : Type 0 where
  pub struck : Document
  pub strikes : List Mend
  pub struck_is : IsStruck (document_ranges begins said.0 before) before struck strikes
  pub definitions : List Mend
  pub defined_is : IsDefined begins said.1 struck after definitions
  pub mends_are : mends ≡ strikes ++ definitions
