-- What commands ask of what is beside a unit.
use Rattle.std.specs.Prelude.{◌≡◌, ℕ, ◌<◌, ◌≤◌, Bool, true, false, List, Some, length, slice_get, is_some}
use Rattle.doc_columns.specs.declared.attached.Attached.{Attached}
use Rattle.doc_patch.specs.declared.places.Part.{Part}
use Rattle.doc_patch.specs.declared.places.Part.TheVariants.{Note, Mark, Section}

-- the part is there
abbrev pub has_part : Part → Attached → Bool
has_part Note attached = is_some attached.note
has_part Mark attached = is_some attached.mark
has_part Section attached = is_some attached.sect

-- the first place from a place on beside which the part is there, or the end
pub record IsFirstWithPart (part : Part) (attachments : List Attached) (at place : ℕ) : Type 0 where
  pub after : at ≤ place
  pub within : place ≤ length attachments
  pub before : (k : ℕ) (attached : Attached) → at ≤ k → k < place → slice_get attachments k ≡ Some attached →
      has_part part attached ≡ false
  pub here : (attached : Attached) → slice_get attachments place ≡ Some attached → has_part part attached ≡ true
