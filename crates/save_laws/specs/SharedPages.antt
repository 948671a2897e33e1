-- How many pages the runs of a text take at most. Runs of paragraphs for which nothing is written share a page, so that
-- the marks behind stories begin none of their own.
use Rattle.std.specs.Prelude.{◌≡◌, ℕ, zero, suc, ◌+◌, ◌≤◌, Bool, true, false, ◌==◌, ◌&&◌, List, [], ◌∷◌, ◌++◌}
use Rattle.std.specs.Prelude.{length, map, All}
use Rattle.std.specs.List.{filter_map}
use Rattle.std.specs.FinMap.{entries}
use Rattle.fkp_pages.specs.declared.kind.PageKind.{PageKind}
use Rattle.fkp_pages.specs.declared.kind.PageKind.TheVariants.{Chpx, Papx}
use Rattle.fkp_pages.specs.declared.lists.Run.{Run}
use Rattle.fkp_pages.specs.Written.{is_bare_run}
use Rattle.fkp_pages.specs.Packed.{pages_of}
use Rattle.doc_model.specs.declared.item.Mark.{Mark}
use Rattle.doc_model.specs.declared.item.Item.{Item}
use Rattle.doc_model.specs.Settings.{is_alike}
use Rattle.doc_model.specs.Stretches.{stretches}
use Rattle.full_save.specs.Runs.{text_runs}
use Rattle.edit_ops.specs.Runs.{run_count}

-- the pages that runs of paragraphs begin, each bare or not, where the page before them has room for so many bare ones:
-- one that is not bare may fill a page, and a page has room for 29 bare ones
unfoldable pub pages_begun : ℕ → List Bool → ℕ
pages_begun left [] = 0
pages_begun left (false ∷ bare) = 1 + pages_begun 0 bare
pages_begun zero (true ∷ bare) = 1 + pages_begun 28 bare
pages_begun (suc left) (true ∷ bare) = pages_begun left bare

-- how many pages runs take
abbrev pub pages_taken : PageKind → List Run → ℕ
pages_taken kind runs = length (pages_of kind runs).starts

-- the pages of runs of paragraphs are no more
abbrev pub BareRunsShare : Type 0
BareRunsShare = (runs : List Run) → pages_taken Papx runs ≤ pages_begun 0 (map (is_bare_run Papx) runs)

-- ---- of a text

-- the marks of a text, and whether nothing is written for the run of one
abbrev pub item_marks : List Item → List Mark
item_marks text = filter_map (λ item. item.mark) text

abbrev pub is_bare_mark : Mark → Bool
is_bare_mark mark = (mark.istd == 0) && (length (entries mark.pap) == 0)

-- a page for each run of characters, and those that the marks begin
abbrev pub page_bound : List Item → ℕ
page_bound text = length (stretches is_alike text) + pages_begun 0 (map is_bare_mark (item_marks text))

-- it is no more than where each mark is a run with a page of its own
abbrev pub PageBoundsAreFewer : Type 0
PageBoundsAreFewer = (text : List Item) → page_bound text ≤ run_count text

-- texts that are joined have no more than both
abbrev pub PageBoundsAdd : Type 0
PageBoundsAdd = (one other : List Item) → page_bound (one ++ other) ≤ page_bound one + page_bound other

-- the runs of a text take no more pages, but for one that what is behind the last mark may begin
abbrev pub TextPagesAreFew : Type 0
TextPagesAreFew =
    (at : ℕ) (text : List Item) →
    pages_taken Chpx (text_runs Chpx at text) + pages_taken Papx (text_runs Papx at text) ≤ page_bound text + 1

-- so many marks for which nothing is written begin one page at most
abbrev pub BareMarksShare : Type 0
BareMarksShare =
    (marks : List Mark) → All (λ mark. is_bare_mark mark ≡ true) marks → length marks ≤ 29 →
    pages_begun 0 (map is_bare_mark marks) ≤ 1
