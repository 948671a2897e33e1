-- How many pages and Sepxes are added, by what is counted.
use Rattle.std.specs.Prelude.{slice_get, is_some}
use Rattle.std.proofs.Common.{◌≡◌, refl, ap, ℕ, suc, ◌+◌, ◌*◌, ◌≤◌, cond, Option, Some, None}
use Rattle.std.proofs.Common.{List, [], ◌∷◌, length, arith, length-append, not}
use Rattle.std.proofs.lemmas.List.Sums.{sum_by-cons}
use Rattle.prop_map.specs.Settings.{Properties}
use Rattle.prop_map.specs.Printing.{printed_list}
use Rattle.fkp_pages.specs.declared.kind.PageKind.TheVariants.{Chpx, Papx}
use Rattle.doc_model.specs.declared.item.Item.{Item}
use Rattle.doc_model.specs.Settings.{is_alike}
use Rattle.doc_model.specs.Stretches.{stretches}
use Rattle.full_save.specs.Sections.{sepx_bytes}
use Rattle.full_save.specs.Runs.{joins_run, text_runs}
use Rattle.full_save.proofs.Public.{length-sepx, length-runs_from}
use Rattle.save_laws.specs.SharedPages.{pages_begun, pages_taken, page_bound}
use Rattle.save_laws.proofs.Public.{few_stretches, bare_runs_share, pages_upto_runs, characters_take, paragraphs_begin}
use Rattle.fast_save_layout.specs.Saves.{FastSave}
use Rattle.fast_save_layout.specs.KeptBins.{kept_end}
use Rattle.fast_save_layout.specs.MarkRuns.{mark_runs}
use Rattle.fast_save_layout.specs.PlannedSections.{planned_sepxes}
use Rattle.fast_save_layout.specs.Appended.{runs_begin, added_runs, added_page_count}
use Rattle.fast_save_layout.specs.AppendedLengths.{unwritten_count}
use Rattle.fast_save_layout.proofs.MarkLemmas.{length-made, made_bare}

-- ---- pages

-- they are no more than the added text is reckoned to take, but for one that its end may begin
pub pages_are_few : (save : FastSave) → added_page_count save ≤ page_bound save.added + 1
pages_are_few save =
    let runs = text_runs Papx save.base save.added in
    omega (
      arith,
      characters_take save.base save.added,
      bare_runs_share (added_runs Papx save),
      ap (pages_begun 0) (made_bare (runs_begin Papx save) save.added runs),
      paragraphs_begin save.base save.added,
    )

-- they are no more than the items
pub characters_upto : (at : ℕ) (items : List Item) → pages_taken Chpx (text_runs Chpx at items) ≤ length items
characters_upto at items = omega (arith, characters_take at items, few_stretches is_alike items)

pub paragraphs_upto : (table : List ℕ) (at : ℕ) (items : List Item) →
    pages_taken Papx (mark_runs table at items) ≤ length items
paragraphs_upto table at items =
    omega (
      arith,
      pages_upto_runs Papx (mark_runs table at items),
      length-made (kept_end table at) items (text_runs Papx at items),
      length-runs_from Papx at (stretches (joins_run Papx) items),
      few_stretches (joins_run Papx) items,
    )

-- ---- Sepxes

abbrev one_unwritten : Option ℕ → ℕ
one_unwritten place = cond (not (is_some place)) 1 0

some_written : (fc : ℕ) (places : List (Option ℕ)) → unwritten_count (Some fc ∷ places) ≡ unwritten_count places
some_written fc places =
    let step : unwritten_count (Some fc ∷ places) ≡ 0 + unwritten_count places =
    sum_by-cons one_unwritten (Some fc) places in
    omega (arith, step)

none_written : (places : List (Option ℕ)) → unwritten_count (None ∷ places) ≡ 1 + unwritten_count places
none_written places = sum_by-cons one_unwritten None places

pub sepxes_are_counted : (places : List (Option ℕ)) (sections : List (ℕ × Properties)) →
    ((k : ℕ) (section : ℕ × Properties) → slice_get sections k ≡ Some section →
    length (printed_list section.1) ≤ 500) → length (planned_sepxes places sections) ≤ 512 * unwritten_count places
unfolding planned_sepxes
sepxes_are_counted [] sections short = omega arith
sepxes_are_counted (place ∷ places) [] short = omega arith
sepxes_are_counted (Some fc ∷ places) (section ∷ sections) short =
    let rest = sepxes_are_counted places sections (λ k other here. short (suc k) other here) in
    omega (arith, rest, some_written fc places)
sepxes_are_counted (None ∷ places) (section ∷ sections) short =
    let rest = sepxes_are_counted places sections (λ k other here. short (suc k) other here) in
    let first = length-sepx section.1 (short 0 section refl) in
    let both = length-append (sepx_bytes section.1) (planned_sepxes places sections) in
    omega (arith, rest, first, none_written places, both)
