-- The items of a text whose columns are its own or a window of others.
use Rattle.std.specs.Prelude.{List}
use Rattle.doc_model.specs.declared.item.Item.{Item}
use Rattle.doc_columns.specs.declared.columns.Storage.{Storage}
use Rattle.doc_columns.specs.declared.columns.Storage.TheVariants.{Own, Shared}

-- of either
abbrev pub kept_items : Storage → List Item
kept_items (Own text) = text
kept_items (Shared text) = text
