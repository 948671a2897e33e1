-- [MS-DOC] sprmPChgTabs (C615): tab stops that are deleted, and tab stops that are added. Where none is deleted its
-- operand is that of sprmPChgTabsPapx (C60D).
use Rattle.std.specs.Prelude.{◌≡◌, ◌⊎◌, ℕ, ◌+◌, Bool, ◌==◌, ◌&&◌, nat_lt, List, [], ◌∷◌, ◌++◌, length}
use Rattle.std.specs.Prelude.{slice_index, if◌then◌else◌, zero, suc}
use Rattle.sprm_table.specs.Sprm.{Prl, spelling, SpellsSprmList, IsAcceptedList}

-- [MS-DOC] PChgTabsOperand: the code, and an operand whose cTabs of the stops that are deleted is 0. A cb of 255 is
-- not the number of its bytes
abbrev pub deletes_no_stop : Prl → Bool
deletes_no_stop prl =
    prl.0 == 0xC615 && (nat_lt 0 (length prl.1) && (nat_lt (length prl.1) 255 && slice_index prl.1 0 == 0))

-- the place of such a code
abbrev pub stop_of : ℕ → Prl → List ℕ
stop_of place prl = if deletes_no_stop prl then place ∷ [] else []

-- where they are in a list that begins at a place
abbrev pub stop_places : ℕ → List Prl → List ℕ
stop_places from [] = []
stop_places from (prl ∷ prls) = stop_of from prl ++ stop_places (from + length (spelling prl)) prls

-- the same of the bytes that spell a list
pub record AreSpeltStops (bytes : List ℕ) (from : ℕ) (places : List ℕ) : Type 0 where
  pub prls : List Prl
  pub spelt : SpellsSprmList bytes prls
  pub places_are : places ≡ stop_places from prls

-- a list that is cut short has none
abbrev pub AreListStops : List ℕ → ℕ → List ℕ → Type 0
AreListStops bytes from places =
    AreSpeltStops bytes from places ⊎ ((¬ IsAcceptedList bytes 0) × (places ≡ []))

-- those of so many parts, one after another
abbrev pub AreJoinedStops : (ℕ → List ℕ → Type 0) → ℕ → List ℕ → Type 0
AreJoinedStops are zero places = places ≡ []
AreJoinedStops are (suc k) places =
    (before : List ℕ) × ((here : List ℕ) × (AreJoinedStops are k before × (are k here × (places ≡ before ++ here))))

-- such places are appended
pub record PushesStops (are : List ℕ → Type 0) (old new : List ℕ) : Type 0 where
  pub stops : List ℕ
  pub are_stops : are stops
  pub pushed : new ≡ old ++ stops
