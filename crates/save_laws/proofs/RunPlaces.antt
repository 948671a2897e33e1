-- The runs of paragraphs that a stream tells at its places, where its bin table is that of one row of pages.
use Rattle.std.proofs.Common.{◌≡◌, ◌∙◌, ℕ, ◌+◌, ◌-◌, ◌<◌, ◌≤◌, List, [], ◌++◌, length, map, drop}
use Rattle.std.proofs.Common.{get_or, refl, sym, ap, subst, inl, inr, arith, All, true, false}
use Rattle.std.specs.Prelude.{slice_get, slice_index}
use Rattle.std.proofs.lemmas.Bool.{cases_lt}
use Rattle.std.proofs.lemmas.List.{get_or_at, length-map}
use Rattle.std.proofs.lemmas.Option.{same_Some, slice_get_within, get_or_from_slice_get}
use Rattle.doc_bits.proofs.Public.{All_at, All-from_slice_get, there_is, in_front, in_back}
use Rattle.doc_bits.specs.Plc.{plc_cp}
use Rattle.fkp_pages.specs.declared.kind.PageKind.TheVariants.{Papx}
use Rattle.fkp_pages.specs.declared.kind.RunAnswer.{RunAnswer}
use Rattle.fkp_pages.specs.declared.kind.RunAnswer.TheVariants.{Found, Empty, NoRun, BadCount, Leaves}
use Rattle.fkp_pages.specs.declared.lists.Bin.{Bin}
use Rattle.fkp_pages.specs.declared.lists.Run.{Run}
use Rattle.fkp_pages.specs.Bin.{bin_count, page_at}
use Rattle.fkp_pages.specs.Fkp.{HoldsFc, HasRunAnswer, page_run_count, page_fc}
use Rattle.fkp_pages.specs.Found.{ArePlaced, range_page}
use Rattle.fkp_pages.specs.InARow.{row_placement}
use Rattle.fkp_pages.specs.Packing.{joined_pages, page_items}
use Rattle.fkp_pages.specs.PageBytes.{last_fc, page_bytes}
use Rattle.fkp_pages.specs.Properties.{IsListAnswered}
use Rattle.fkp_pages.specs.Rows.{IsInRun, IsPageRow, row_bins, row_table}
use Rattle.fkp_pages.specs.Runs.{HasRunNumbers, run_list}
use Rattle.fkp_pages.proofs.Public.{items_before, length-starts, page_between, page_of_bytes, AreInOrder, in_order}
use Rattle.fkp_pages.proofs.Public.{inner_in_order, ends_upto, ends_upto_last, last_fc_is, SaysFcs, says_fcs}
use Rattle.fkp_pages.proofs.Public.{printed_page, length-numbered_bins, pages_stand_in_a_row, IsRowTable, table_of_row}
use Rattle.fkp_pages.proofs.Public.{row_list, row_low}
use Rattle.save_laws.specs.Places.{PagedStream}
use Rattle.save_laws.specs.ByRuns.{IsPageRunAt, ranges_end, BeginsRun, HasRunBegin, EndsRun, StaysInRun, IsBounded}

-- ---- one run holds a place

not_before : (runs : List Run) (fc : ℕ) (one other : Run) (a : IsInRun runs fc one) (b : IsInRun runs fc other) →
    AreInOrder runs → a.number < b.number → ⊥
not_before runs fc one other a b order less =
    let below = slice_get_within runs b.number other b.there in
    let ends = ends_upto runs a.number b.number one order less below in
    let to : (get_or runs a.number one).to ≡ one.to =
    ap (λ (run : Run). run.to) (get_or_from_slice_get runs a.number one one a.there) in
    let from : (get_or runs b.number one).from ≡ other.from =
    ap (λ (run : Run). run.from) (get_or_from_slice_get runs b.number other one b.there) in
    let high = a.to in
    let low = b.from in
    omega (arith, ends, to, from, high, low)

runs_one : (runs : List Run) (fc : ℕ) (one other : Run) → AreInOrder runs → IsInRun runs fc one →
    IsInRun runs fc other → one ≡ other
runs_one runs fc one other order a b = elim (cases_lt a.number b.number) [
  | inl less ↦ absurd (not_before runs fc one other a b order less)
  | inr more ↦ elim (cases_lt b.number a.number) [
    | inl less ↦ absurd (not_before runs fc other one b a order less)
    | inr most ↦
        let e : a.number ≡ b.number = omega (arith, more, most) in
        same_Some one other (sym a.there ∙ (ap (slice_get runs) e ∙ b.there))
  ]
]

-- ---- what a page answers is in one of its runs

record HoldsIn (page : List ℕ) (fc : ℕ) : Type 0 where
  run : ℕ
  below : run < page_run_count page
  holds : HoldsFc page run fc

answered_run : (page list : List ℕ) (fc : ℕ) (answer : RunAnswer) → HasRunAnswer Papx page fc answer →
    IsListAnswered Papx page answer list → HoldsIn page fc
answered_run page list fc (Found from to) has is =
    record { run = has.1.run; below = has.1.first.below; holds = has.1.first.holds }
answered_run page list fc Empty has is =
    record { run = has.1.run; below = has.1.first.below; holds = has.1.first.holds }
answered_run page list fc NoRun has is = absurd is
answered_run page list fc BadCount has is = absurd is
answered_run page list fc (Leaves entry) has is = absurd is

-- a run of the row
pub record IsRowRun (runs : List Run) (fc first lim : ℕ) : Type 0 where
  pub run : Run
  pub is : IsInRun runs fc run
  pub first_is : first ≡ run.from
  pub lim_is : lim ≡ run.to

module _ (wd characters : List ℕ) (runs : List Run) (number : ℕ) (row : IsPageRow Papx wd runs number) where
  abbrev pub stream_of_row : PagedStream
  stream_of_row = record { wd = wd; characters = characters; paragraphs = row_table row }

  abbrev bins : List Bin
  bins = row_bins row

  table : IsRowTable Papx wd runs number row
  table = table_of_row Papx wd runs number row

  order : AreInOrder runs
  order = in_order Papx runs row.right

  abbrev parts : List (List Run)
  parts = row.pages_are.parts

  counted : bin_count (row_table row) ≡ length parts
  counted =
      table.table.count ∙ (length-numbered_bins number row.pages.starts ∙ length-starts row.pages parts
      row.pages_are.starts)

  placed : ArePlaced runs row.pages (row_placement runs row.pages number row.before row.behind)
  placed = pages_stand_in_a_row Papx runs row.pages number row.before row.behind row.right row.pages_are row.begins

  -- all ranges end with the last run
  pub ends_with_runs : ranges_end stream_of_row ≡ last_fc runs
  ends_with_runs =
      let firsts = map (λ (bin : Bin). bin.first) bins in
      let long : length firsts ≡ length bins = length-map bins (λ (bin : Bin). bin.first) in
      ap (plc_cp (row_table row)) table.table.count
      ∙ (table.table.fcs (length bins) (omega arith)
      ∙ get_or_at firsts (last_fc runs) [] 0 (length bins) long)

  -- the page of an entry has the runs of a part
  page_there : (k page : ℕ) → k < length parts → page ≡ slice_index (map (λ (bin : Bin). bin.page) bins) k →
      page_at wd page ≡ page_bytes Papx (page_items parts k)
  page_there k page below is =
      let within : k < length row.pages.starts =
      omega (arith, below, length-starts row.pages parts row.pages_are.starts) in
      let at : page ≡ range_page (row_placement runs row.pages number row.before row.behind) k =
      is ∙ ap (slice_index (map (λ (bin : Bin). bin.page) bins)) (omega arith) in
      ap (λ (w : List ℕ). page_at w page) row.there
      ∙ (ap (page_at (row.before ++ (row.pages.bytes ++ row.behind))) at
      ∙ (placed.bytes k within
      ∙ (ap (λ (b : List ℕ). page_at b k) row.pages_are.bytes
      ∙ page_of_bytes Papx parts k row.pages_are.packed.fitting below)))

  whole : (k : ℕ) → k < length parts →
      runs ≡ items_before parts k ++ (page_items parts k ++ joined_pages (drop (k + 1) parts))
  whole k below = row.pages_are.packed.joined ∙ page_between parts k below

  part_numbers : (k : ℕ) → k < length parts → All HasRunNumbers (page_items parts k)
  part_numbers k below =
      let front = items_before parts k in
      let part = page_items parts k in
      let back = joined_pages (drop (k + 1) parts) in
      let all : All HasRunNumbers (front ++ (part ++ back)) =
      subst (All HasRunNumbers) (whole k below) row.numbers in
      All-from_slice_get HasRunNumbers part (λ i run here. All_at HasRunNumbers (front ++ (part ++ back))
      (length front + i) run all (in_back front (part ++ back) i (length front + i) run (in_front part back i run here)
      refl))

  says : (k : ℕ) → k < length parts → SaysFcs (page_bytes Papx (page_items parts k)) (page_items parts k)
  says k below =
      says_fcs Papx (page_items parts k) (row.pages_are.packed.fitting k below)
      (inner_in_order (items_before parts k) (page_items parts k) (joined_pages (drop (k + 1) parts))
      (subst AreInOrder (whole k below) order)) (part_numbers k below)

  -- what the stream tells is a run of the row
  pub told_run : (fc first lim : ℕ) → IsPageRunAt stream_of_row fc first lim → IsRowRun runs fc first lim
  told_run fc first lim at =
      let k = at.named.entry in
      let below : k < length parts = omega (arith, at.named.range.below, counted) in
      let page_is : at.number ≡ slice_index (map (λ (bin : Bin). bin.page) bins) k =
      at.named.page ∙ printed_page bins (last_fc runs) k table.printable
      (omega (arith, at.named.range.below, table.table.count)) in
      let page : page_at wd at.number ≡ page_bytes Papx (page_items parts k) = page_there k at.number below page_is in
      let part = page_items parts k in
      let front = items_before parts k in
      let back = joined_pages (drop (k + 1) parts) in
      let fcs : SaysFcs (page_at wd at.number) part = subst (λ p. SaysFcs p part) (sym page) (says k below) in
      let j = at.run in
      let in_page = at.below in
      let j_below : j < length part = omega (arith, in_page, fcs.count) in
      let found = there_is part j j_below in
      let run = found.0 in
      let own : get_or part j run ≡ run = get_or_from_slice_get part j run run found.1 in
      let from : page_fc (page_at wd at.number) j ≡ run.from = fcs.from j run j_below ∙ ap (λ (r : Run). r.from) own in
      let to : page_fc (page_at wd at.number) (j + 1) ≡ run.to = fcs.to j run j_below ∙ ap (λ (r : Run). r.to) own in
      let low = at.holds.from in
      let high = at.holds.to in
      record {
        run = run;
        is = record {
          number = length front + j;
          there =
              ap (λ l. slice_get l (length front + j)) (whole k below)
              ∙ in_back front (part ++ back) j (length front + j) run (in_front part back j run found.1) refl;
          from = omega (arith, low, from);
          to = omega (arith, high, to);
        };
        first_is = at.first_is ∙ from;
        lim_is = at.lim_is ∙ to;
      }

  -- and it tells each of them
  pub run_told : (fc : ℕ) (run : Run) → IsInRun runs fc run → IsPageRunAt stream_of_row fc run.from run.to
  run_told fc run is =
      let list = row_list Papx wd runs number fc run row is in
      let has = answered_run (page_at wd list.number) (run_list Papx run) fc list.answer list.answers list.answered in
      let page = page_at wd list.number in
      let at : IsPageRunAt stream_of_row fc (page_fc page has.run) (page_fc page (has.run + 1)) = record {
        number = list.number;
        named = list.named;
        low = row_low Papx wd runs number fc list.number row table.table table.printable list.named;
        within = list.within;
        run = has.run;
        below = has.below;
        holds = has.holds;
        first_is = refl;
        lim_is = refl;
      } in
      let told = told_run fc (page_fc page has.run) (page_fc page (has.run + 1)) at in
      let same = runs_one runs fc told.run run order told.is is in
      subst (λ n. IsPageRunAt stream_of_row fc n run.to) (told.first_is ∙ ap (λ (r : Run). r.from) same)
      (subst (λ n. IsPageRunAt stream_of_row fc (page_fc page has.run) n) (told.lim_is ∙ ap (λ (r : Run). r.to) same)
      at)

  -- a run that is named at a place of a run is that run
  pub told_as : (fc first lim : ℕ) (run : Run) → IsInRun runs fc run → IsPageRunAt stream_of_row fc first lim →
      (first ≡ run.from) × (lim ≡ run.to)
  told_as fc first lim run is at =
      let told = told_run fc first lim at in
      let same = runs_one runs fc told.run run order told.is is in (
        told.first_is ∙ ap (λ (r : Run). r.from) same,
        told.lim_is ∙ ap (λ (r : Run). r.to) same,
      )

  run_begins : (fc : ℕ) (run : Run) → IsInRun runs fc run → HasRunBegin stream_of_row fc
  run_begins fc run is = (run.from, inr (run.to, run_told fc run is))

  pub upto_last : (fc : ℕ) (run : Run) → IsInRun runs fc run → run.to ≤ last_fc runs
  upto_last fc run is =
      let below = slice_get_within runs is.number run is.there in
      let ends = ends_upto_last runs is.number run order below in
      omega (arith, ends, ap (λ (r : Run). r.to) (get_or_from_slice_get runs is.number run run is.there))

  -- ---- a unit of a run

  stays : (fc end : ℕ) (run : Run) → IsInRun runs fc run → fc ≤ end → end < run.to → StaysInRun stream_of_row fc end
  stays fc end run is up inside =
      let low = is.from in
      let there : IsInRun runs end run = record {
        number = is.number;
        there = is.there;
        from = omega (arith, low, up);
        to = inside;
      } in
      record {
        goes_on = λ first lim at.
            let told = told_as fc first lim run is at in
            subst (λ n. IsPageRunAt stream_of_row end n lim) (sym told.0)
            (subst (IsPageRunAt stream_of_row end run.from) (sym told.1) (run_told end run there));
        began = λ first begins. began first begins there;
      }
    where
      began : (first : ℕ) → BeginsRun stream_of_row end first → IsInRun runs end run → BeginsRun stream_of_row fc first
      began first (inl (behind, first_is)) there =
          absurd (omega (arith, behind, inside, ends_with_runs, upto_last fc run is))
      began first (inr (lim, at)) there =
          let told = told_as end first lim run there at in
          inr (run.to, subst (λ n. IsPageRunAt stream_of_row fc n run.to) (sym told.0) (run_told fc run is))

  -- where a run ends the next one begins, or all ranges end
  next_begins : (fc end : ℕ) (run : Run) → IsInRun runs fc run → run.to ≡ end → HasRunBegin stream_of_row end
  next_begins fc end run is to = elim (cases_lt (is.number + 1) (length runs)) [
    | inl more ↦
        let found = there_is runs (is.number + 1) more in
        let next = found.0 in
        let touch : run.to ≡ next.from = row.right.touch is.number run next is.there found.1 in
        let writable : next.from < next.to =
        subst (λ (r : Run). r.from < r.to) (get_or_from_slice_get runs (is.number + 1) next next found.1)
        (order.order (is.number + 1) next more) in
        run_begins end next (record {
          number = is.number + 1;
          there = found.1;
          from = omega (arith, touch, to);
          to = omega (arith, touch, to, writable);
        })
    | inr most ↦
        let below = slice_get_within runs is.number run is.there in
        let e : length runs - 1 ≡ is.number = omega (arith, below, most) in
        let last : last_fc runs ≡ run.to =
        last_fc_is runs run (omega (arith, below))
        ∙ (ap (λ n. (get_or runs n run).to) e
        ∙ ap (λ (r : Run). r.to) (get_or_from_slice_get runs is.number run run is.there)) in
        (ranges_end stream_of_row, inl (omega (arith, ends_with_runs, last, to), refl))
  ]

  ends : (fc end : ℕ) (run : Run) → IsInRun runs fc run → run.to ≡ end → fc < end → EndsRun stream_of_row fc end
  ends fc end run is to up = record {
    held = omega (arith, ends_with_runs, upto_last fc run is, to, up);
    ends = λ first lim at. (told_as fc first lim run is at).1 ∙ to;
    begins = λ first begins. begun first begins;
  }
    where
      begun : (first : ℕ) → BeginsRun stream_of_row end first → first ≡ end
      begun first (inl (behind, first_is)) =
          omega (arith, behind, first_is, ends_with_runs, upto_last fc run is, to)
      begun first (inr (lim, at)) =
          let told = told_run end first lim at in
          let low = told.is.from in
          let high = told.is.to in
          elim (cases_lt is.number told.is.number) [
            | inl less ↦
                let below = slice_get_within runs told.is.number told.run told.is.there in
                let upto = ends_upto runs is.number told.is.number run order less below in
                let a = ap (λ (r : Run). r.to) (get_or_from_slice_get runs is.number run run is.there) in
                let b =
                ap (λ (r : Run). r.from) (get_or_from_slice_get runs told.is.number told.run run told.is.there) in
                omega (arith, upto, a, b, low, to, told.first_is)
            | inr more ↦ elim (cases_lt told.is.number is.number) [
              | inl less ↦
                  let below = slice_get_within runs is.number run is.there in
                  let upto = ends_upto runs told.is.number is.number run order less below in
                  let a =
                  ap (λ (r : Run). r.to) (get_or_from_slice_get runs told.is.number told.run run told.is.there) in
                  let b = ap (λ (r : Run). r.from) (get_or_from_slice_get runs is.number run run is.there) in
                  let from = is.from in
                  absurd (omega (arith, upto, a, b, high, from, up))
              | inr most ↦
                  let e : told.is.number ≡ is.number = omega (arith, more, most) in
                  let same = same_Some told.run run (sym told.is.there ∙ (ap (slice_get runs) e ∙ is.there)) in
                  absurd (omega (arith, high, ap (λ (r : Run). r.to) same, to))
            ]
          ]

  -- a unit of two bytes is bounded where its run ends with it, or goes on behind it
  pub ending_bounded : (fc : ℕ) (run : Run) → IsInRun runs fc run → run.to ≡ fc + 2 → fc + 2 < length wd →
      IsBounded stream_of_row fc true true
  ending_bounded fc run is to inside = record {
    inside = inside;
    here = run_begins fc run is;
    there = next_begins fc (fc + 2) run is to;
    meets = ends fc (fc + 2) run is to (omega arith);
  }

  pub inner_bounded : (fc : ℕ) (run : Run) → IsInRun runs fc run → fc + 2 < run.to → fc + 2 < length wd →
      IsBounded stream_of_row fc true false
  inner_bounded fc run is up inside =
      let low = is.from in
      record {
        inside = inside;
        here = run_begins fc run is;
        there = run_begins (fc + 2) run (record {
          number = is.number;
          there = is.there;
          from = omega (arith, low);
          to = up;
        });
        meets = stays fc (fc + 2) run is (omega arith) up;
      }
