-- The runs of a text: of characters the maximal ranges of equal properties, of paragraphs each paragraph.
use Rattle.std.specs.Prelude.{ℕ, ◌+◌, ◌-◌, ◌*◌, Bool, List, [], ◌∷◌, length, Option, Some, None, slice_get}
use Rattle.std.specs.FinMap.{empty}
use Rattle.prop_map.specs.Settings.{Properties}
use Rattle.fkp_pages.specs.declared.kind.PageKind.{PageKind}
use Rattle.fkp_pages.specs.declared.kind.PageKind.TheVariants.{Chpx, Papx}
use Rattle.fkp_pages.specs.declared.lists.Run.{Run}
use Rattle.doc_model.specs.declared.item.Mark.{Mark}
use Rattle.doc_model.specs.declared.item.Item.{Item}
use Rattle.doc_model.specs.Settings.{is_alike, is_inside}
use Rattle.doc_model.specs.Stretches.{stretches}

-- when an item and the next one are in one run
abbrev pub joins_run : PageKind → Item → Item → Bool
joins_run Chpx = is_alike
joins_run Papx = is_inside

-- the style and the properties of a mark
abbrev pub mark_properties : Option Mark → ℕ × Properties
mark_properties None = (0, empty)
mark_properties (Some mark) = (mark.istd, mark.pap)

-- what a run has of one of its items: of characters the properties of any one, of a paragraph those of the last one's
-- mark
abbrev pub item_properties : PageKind → Option Item → ℕ × Properties
item_properties kind None = (0, empty)
item_properties Chpx (Some item) = (0, item.chp)
item_properties Papx (Some item) = mark_properties item.mark

-- a part of a text as a run, where its first unit is at a place
abbrev pub run_at : PageKind → ℕ → List Item → Run
run_at kind at part =
    let properties = item_properties kind (slice_get part (length part - 1)) in
    record { from = at; to = at + 2 * length part; istd = properties.0; map = properties.1 }

-- parts one after the other, from a place on, as runs
unfoldable pub runs_from : PageKind → ℕ → List (List Item) → List Run
runs_from kind at [] = []
runs_from kind at (part ∷ parts) = run_at kind at part ∷ runs_from kind (at + 2 * length part) parts

-- the runs of a text that begins at a place
abbrev pub text_runs : PageKind → ℕ → List Item → List Run
text_runs kind at items = runs_from kind at (stretches (joins_run kind) items)
