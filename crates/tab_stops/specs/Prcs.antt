-- [MS-DOC] Clx, Prc: the changes of tab stops in the lists of the Prcs, as places of the table stream.
use Rattle.std.specs.Prelude.{◌≡◌, ℕ, ◌+◌, List, [], ◌∷◌, ◌++◌, length}
use Rattle.piece_table.specs.Front.{AreAllPrcs}
use Rattle.tab_stops.specs.Lists.{AreListStops}

-- those of Prcs that follow each other from a place on: each has three bytes before its list
abbrev pub ArePrcStops : ℕ → List (List ℕ) → List ℕ → Type 0
ArePrcStops from [] places = places ≡ []
ArePrcStops from (prc ∷ prcs) places =
    (here : List ℕ) × ((rest : List ℕ) × (AreListStops prc (from + 3) here
    × (ArePrcStops (from + (3 + length prc)) prcs rest × (places ≡ here ++ rest))))

-- those of a Clx that begins at a place
pub record AreClxStops (clx : List ℕ) (begin : ℕ) (places : List ℕ) : Type 0 where
  pub prcs : List (List ℕ)
  pub end : ℕ
  pub are : AreAllPrcs clx prcs end
  pub stops : ArePrcStops begin prcs places
