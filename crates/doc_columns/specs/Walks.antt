-- A walk over the columns of a text.
use Rattle.std.specs.Prelude.{◌≡◌, ℕ, ◌^◌, ◌<◌, ◌≤◌, List, length}
use Rattle.run_lists.specs.Spread.{expanded, total_len}
use Rattle.run_lists.specs.Places.{IsAtRunBegin}
use Rattle.doc_model.specs.declared.item.Item.{Item}
use Rattle.doc_columns.specs.Columns.{items_of}
use Rattle.doc_columns.specs.declared.walk.Parts.{Parts}
use Rattle.doc_columns.specs.declared.walk.Walk.{Walk}

-- the items of the columns
abbrev pub items_in : Parts → List Item
items_in parts = items_of parts.units.now (expanded parts.chps.now) (expanded parts.attachments.now)

-- both lists of runs have a value for each unit
pub record AreFullParts (parts : Parts) : Type 0 where
  pub chps_long : total_len parts.chps.now ≡ length parts.units.now
  pub attachments_long : total_len parts.attachments.now ≡ length parts.units.now
  pub few : length parts.units.now < 2 ^ 32

-- the walk is at runs that begin at the place or before it
pub record IsColumnWalk (parts : Parts) (walk : Walk) (place : ℕ) : Type 0 where
  pub at_chps : IsAtRunBegin parts.chps.now walk.chps
  pub chps_ahead : walk.chps.begin ≤ place
  pub at_attachments : IsAtRunBegin parts.attachments.now walk.attachments
  pub attachments_ahead : walk.attachments.begin ≤ place
