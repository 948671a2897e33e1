-- What is attached to the unit of an item.
use Rattle.std.specs.Prelude.{◌^◌, ◌<◌, ◌||◌, Bool, is_some, None}
use Rattle.std.specs.Option.{ForSome}
use Rattle.doc_model.specs.declared.item.Item.{Item}
use Rattle.doc_columns.specs.declared.attached.Attached.{Attached}

-- of an item
abbrev pub attached_of : Item → Attached
attached_of item = record { fld = item.fld; note = item.note; mark = item.mark; sect = item.sect }

-- nothing
abbrev pub nothing : Attached
nothing = record { fld = None; note = None; mark = None; sect = None }

-- there is something
abbrev pub has_something : Attached → Bool
has_something attached = is_some attached.mark || (is_some attached.sect || (is_some attached.fld || is_some
    attached.note))

-- the numbers in it have their sizes
pub record IsRanged (attached : Attached) : Type 0 where
  pub style : ForSome attached.mark (λ mark. mark.istd < 2 ^ 16)
  pub field : ForSome attached.fld (λ byte. byte < 2 ^ 8)
