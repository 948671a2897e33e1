-- Text that is added behind what a WordDocument has: units from a place on, and pages of runs for them in a row, which
-- the bin tables name. A full save adds the whole text of its document, a fast save what was added since the last save.
use Rattle.std.specs.Prelude.{◌≡◌, ℕ, ◌+◌, ◌*◌, ◌<◌, ◌≤◌, List, length, true, Bool, Some, slice_get}
use Rattle.doc_bits.specs.Number.{u16_at}
use Rattle.fkp_pages.specs.declared.kind.PageKind.{PageKind}
use Rattle.fkp_pages.specs.declared.kind.PageKind.TheVariants.{Chpx, Papx}
use Rattle.fkp_pages.specs.declared.lists.Run.{Run}
use Rattle.fkp_pages.specs.Rows.{IsInRun, IsPageRow, NamesRow}
use Rattle.doc_model.specs.declared.item.Mark.{Mark}
use Rattle.save_laws.specs.Places.{PagedStream, GivenUnit, fib_end}

-- the place of the first added unit, and what the added units are to be given, each of two bytes
pub record Plan : Type 0 where
  pub base : ℕ
  pub added : List GivenUnit

-- the place is that of an added unit
pub record StandsInPlan (plan : Plan) (at : ℕ) (wide : Bool) : Type 0 where
  pub number : ℕ
  pub below : number < length plan.added
  pub here : at ≡ plan.base + 2 * number
  pub two_bytes : wide ≡ true

-- and this is what the unit is to be given
pub record IsPlannedUnit (plan : Plan) (at : ℕ) (wide : Bool) (given : GivenUnit) : Type 0 where
  pub number : ℕ
  pub there : slice_get plan.added number ≡ Some given
  pub here : at ≡ plan.base + 2 * number
  pub two_bytes : wide ≡ true

-- each added unit is in a run of characters with its properties, and where it has a mark, in a run of paragraphs with
-- the
-- mark's style and properties
pub record AreRunsOf (plan : Plan) (characters paragraphs : List Run) : Type 0 where
  pub character :
      (k : ℕ) (given : GivenUnit) → slice_get plan.added k ≡ Some given →
      (run : Run) × (IsInRun characters (plan.base + 2 * k) run × (run.map ≡ given.chp))
  pub paragraph :
      (k : ℕ) (given : GivenUnit) (mark : Mark) → slice_get plan.added k ≡ Some given → given.mark ≡ Some mark →
      (run : Run) × (IsInRun paragraphs (plan.base + 2 * k) run × ((run.istd ≡ mark.istd) × (run.map ≡ mark.pap)))

-- runs have a row of pages that a table names, if there are runs
abbrev pub HaveRow : PageKind → List ℕ → List ℕ → List Run → Type 0
HaveRow kind wd table runs =
    0 < length runs → (first : ℕ) × ((row : IsPageRow kind wd runs first) × NamesRow row table)

-- the added units are in the stream, and so do pages of their runs
pub record IsWrittenPlan (plan : Plan) (written : PagedStream) : Type 0 where
  pub behind_fib : fib_end written.wd ≤ plan.base
  pub within : plan.base + 2 * length plan.added ≤ length written.wd
  pub units :
      (k : ℕ) (given : GivenUnit) → slice_get plan.added k ≡ Some given →
      u16_at written.wd (plan.base + 2 * k) ≡ given.unit
  pub characters : List Run
  pub paragraphs : List Run
  pub runs : AreRunsOf plan characters paragraphs
  pub character_row : HaveRow Chpx written.wd written.characters characters
  pub paragraph_row : HaveRow Papx written.wd written.paragraphs paragraphs
