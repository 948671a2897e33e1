-- The items of a text by columns: its units, the properties of each, and what is beside each.
use Rattle.std.specs.Prelude.{◌≡◌, ℕ, List, [], ◌∷◌, length, map}
use Rattle.prop_map.specs.Settings.{Properties}
use Rattle.doc_model.specs.declared.item.Item.{Item}
use Rattle.doc_model.specs.Document.{IsFormedText}
use Rattle.doc_columns.specs.declared.attached.Attached.{Attached}
use Rattle.doc_columns.specs.Attached.{nothing}

-- the item of a unit, its properties and what is beside
abbrev pub item_of : ℕ → Properties → Attached → Item
item_of unit chp attached = record {
  unit = unit;
  fld = attached.fld;
  note = attached.note;
  chp = chp;
  mark = attached.mark;
  sect = attached.sect;
}

-- units with the same properties and nothing beside them
abbrev pub bare_items : Properties → List ℕ → List Item
bare_items chp units = map (λ unit. item_of unit chp nothing) units

-- the items of three columns, place by place
abbrev pub items_of : List ℕ → List Properties → List Attached → List Item
items_of (unit ∷ units) (chp ∷ chps) (attached ∷ attachments) = item_of unit chp attached ∷ items_of units chps
    attachments
items_of units chps attachments = []

-- three columns of one length, whose items are well formed
pub record AreColumns (units : List ℕ) (chps : List Properties) (attachments : List Attached) : Type 0 where
  pub chps_long : length chps ≡ length units
  pub attachments_long : length attachments ≡ length units
  pub formed : IsFormedText (items_of units chps attachments)
