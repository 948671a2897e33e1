-- A fast save of bounded units is bounded: the old places keep their pages, and the added ones have runs of their own.
use Rattle.std.specs.Prelude.{slice_get, is_some}
use Rattle.std.proofs.Common.{◌≡◌, ◌∙◌, refl, sym, ap, subst, inl, inr, ℕ, ◌+◌, ◌*◌, ◌<◌, ◌≤◌}
use Rattle.std.proofs.Common.{Bool, true, false, cond, List, [], ◌∷◌, length, map, All, Option, Some, None, arith}
use Rattle.std.proofs.lemmas.Bool.{cases_lt}
use Rattle.std.proofs.lemmas.List.{get_or_at, length-map}
use Rattle.std.proofs.lemmas.List.Elements.{All-head}
use Rattle.std.proofs.lemmas.Option.{same_Some, none-some, slice_get_within, get_or_from_slice_get}
use Rattle.doc_bits.specs.Plc.{plc_cp}
use Rattle.doc_bits.proofs.Public.{from_map, get-map, there_is}
use Rattle.prop_map.specs.declared.modifiers.Modifier.{Modifier}
use Rattle.fkp_pages.specs.declared.kind.PageKind.TheVariants.{Chpx, Papx}
use Rattle.fkp_pages.specs.declared.lists.Bin.{Bin}
use Rattle.fkp_pages.specs.declared.lists.Run.{Run}
use Rattle.fkp_pages.specs.Bin.{IsBinTable}
use Rattle.fkp_pages.specs.Rows.{IsInRun, IsPageRow}
use Rattle.fkp_pages.specs.Runs.{IsWritableRun}
use Rattle.fkp_pages.specs.PageBytes.{last_fc}
use Rattle.fkp_pages.specs.Pages.{first_fc}
use Rattle.fkp_pages.proofs.Public.{printed_table}
use Rattle.piece_table.specs.Piece.{UnitPlace, unit_bytes}
use Rattle.doc_model.specs.declared.item.Mark.{Mark}
use Rattle.doc_model.specs.declared.item.Item.{Item}
use Rattle.doc_model.specs.Document.{IsFormedText}
use Rattle.doc_model.specs.Formed.{IsFormed}
use Rattle.full_save.specs.Runs.{text_runs}
use Rattle.save_laws.specs.ByRuns.{IsPageRunAt, ranges_end, BeginsRun, IsBounded, slot_end}
use Rattle.save_laws.specs.FastSaves.{StandsInEither, IsGivenBy}
use Rattle.save_laws.specs.KeptPages.{KeepsPages}
use Rattle.save_laws.specs.Places.{PagedStream, GivenUnit, given_of, IsMarkedAfter}
use Rattle.save_laws.specs.Plans.{Plan}
use Rattle.save_laws.specs.Slots.{Slot, shown, loose, last, IsPlaceForSlot}
use Rattle.save_laws.proofs.Public.{slot_there, stream_of_row, ends_with_runs, run_told, told_as, upto_last}
use Rattle.save_laws.proofs.Public.{ending_bounded, inner_bounded}
use Rattle.fast_save_layout.specs.Saves.{FastSave, plan_of}
use Rattle.fast_save_layout.specs.MarkRuns.{leaves_open, longer, runs_begun_at, runs_end}
use Rattle.fast_save_layout.specs.MarkEnds.{RunEndsWithMark}
use Rattle.fast_save_layout.specs.Appended.{old_stream, old_bins, added_runs, runs_begin, bins_end}
use Rattle.fast_save_layout.specs.Appended.{fast_bins, fast_bin_table, fast_saved_text}
use Rattle.fast_save_layout.specs.Kept.{CanBeFastSaved}
use Rattle.fast_save_layout.specs.Answers.{IsAppended}
use Rattle.fast_save_layout.specs.FastByRuns.{FastSavesAreBounded}
use Rattle.fast_save_layout.proofs.AddedRuns.{text_right, text_first, kept_end_low}
use Rattle.fast_save_layout.proofs.MarkEnds.{runs_end_with_marks}
use Rattle.fast_save_layout.proofs.ReadyLemmas.{Ready, base_is, old_table_is, added_are, none_there, items_writable}
use Rattle.fast_save_layout.proofs.ReadyLemmas.{text_small}
use Rattle.fast_save_layout.proofs.ReadyLemmas.{pages_whole}
use Rattle.fast_save_layout.proofs.TableLemmas.{text_stands, has_ranges, bins_printable, end_small}
use Rattle.fast_save_layout.proofs.WrittenLemmas.{Made, the_save, new_wd, have_row}
use Rattle.fast_save_layout.proofs.StreamLengths.{length-fast_wd, length-added}
use Rattle.fast_save_layout.proofs.RunTransfer.{HasOldPages, HasRowPages, named_low, old_bounded, row_bounded}
use Rattle.fast_save_layout.proofs.RunTransfer.{row_begins}
use Rattle.fast_save_layout.proofs.RunTransfer.{row_begins_back, row_run_back, row_run}

-- ---- the first run

first_longer : (place : ℕ) (more : Bool) (runs : List Run) (run : Run) → All (IsWritableRun Papx) runs →
    slice_get (runs_begun_at place (cond more (longer runs) runs)) 0 ≡ Some run → first_fc runs < run.to
unfolding longer
first_longer place true [] run all here = absurd (none-some run here)
first_longer place true (one ∷ []) run all here =
    let order = (All-head (IsWritableRun Papx) one [] all).order in
    let same : one.to + 2 ≡ run.to =
    ap (λ (r : Run). r.to)
    (same_Some (record { from = place; to = one.to + 2; istd = one.istd; map = one.map }) run here) in
    omega (arith, order, same)
first_longer place true (one ∷ (two ∷ runs)) run all here =
    let order = (All-head (IsWritableRun Papx) one (two ∷ runs) all).order in
    let same : one.to ≡ run.to =
    ap (λ (r : Run). r.to)
    (same_Some (record { from = place; to = one.to; istd = one.istd; map = one.map }) run here) in
    omega (arith, order, same)
first_longer place false [] run all here = absurd (none-some run here)
first_longer place false (one ∷ runs) run all here =
    let order = (All-head (IsWritableRun Papx) one runs all).order in
    let same : one.to ≡ run.to =
    ap (λ (r : Run). r.to)
    (same_Some (record { from = place; to = one.to; istd = one.istd; map = one.map }) run here) in
    omega (arith, order, same)

-- it holds each place from where the runs begin to the added text
record IsFirst (r : Ready) : Type 0 where
  run : Run
  there : slice_get (added_runs Papx r.save) 0 ≡ Some run
  from : run.from ≡ runs_begin Papx r.save
  to : r.save.base < run.to

first_run : (r : Ready) → 0 < length r.save.added → IsFirst r
first_run r some =
    let save = r.save in
    let added = added_are Papx r some in
    let runs = added_runs Papx save in
    let found = there_is runs 0 added.some in
    let text = text_runs Papx save.base save.added in
    let right = text_right save.base save.added (items_writable r) (text_small r) Papx some in
    let begins = text_first Papx save.base save.added some in
    let from = get_or_from_slice_get (map (λ (run : Run). run.from) runs) 0 found.0.from 0
    (get-map (λ (run : Run). run.from) runs 0 found.0 found.1) in
    let long = first_longer (runs_begin Papx save) (leaves_open save.added) text found.0 right.right.writable found.1 in
    record {
      run = found.0;
      there = found.1;
      from = sym from ∙ added.first;
      to = omega (arith, long, begins);
    }

holds_place : (r : Ready) (first : IsFirst r) (fc : ℕ) → runs_begin Papx r.save ≤ fc → fc < r.save.base →
    IsInRun (added_runs Papx r.save) fc first.run
holds_place r first fc low below =
    let from = first.from in
    let to = first.to in
    record { number = 0; there = first.there; from = omega (arith, from, low); to = omega (arith, to, below) }

-- ---- the new stream

abbrev new_stream : Made → PagedStream
new_stream m = (fast_saved_text (the_save m) m.clx).stream

new_table : (m : Made) → IsBinTable (fast_bin_table Papx (the_save m))
new_table m = (has_ranges Papx m.ready).table

-- its ranges end where its runs do, or where they would begin
table_ends : (m : Made) → ranges_end (new_stream m) ≡ bins_end Papx (the_save m)
unfolding fast_bin_table
table_ends m =
    let save = the_save m in
    let bins = fast_bins Papx save in
    let table = printed_table bins (bins_end Papx save) (bins_printable Papx m.ready) (end_small Papx m.ready) in
    let firsts = map (λ (bin : Bin). bin.first) bins in
    let long : length firsts ≡ length bins = length-map bins (λ (bin : Bin). bin.first) in
    ap (plc_cp (fast_bin_table Papx save)) table.count
    ∙ (table.fcs (length bins) (omega arith) ∙ get_or_at firsts (bins_end Papx save) [] 0 (length bins) long)

begin_is : (m : Made) → ranges_end (old_stream (the_save m)) < (the_save m).base →
    runs_begin Papx (the_save m) ≡ ranges_end (old_stream (the_save m))
begin_is m low = omega (arith, low)

-- ---- where something is added

module _ (m : Made) (some : 0 < length (the_save m).added) where
  abbrev save_here : FastSave
  save_here = the_save m

  abbrev runs : List Run
  runs = added_runs Papx save_here

  some_runs : 0 < length runs
  some_runs = (added_are Papx m.ready some).some

  abbrev number : ℕ
  number = (have_row Papx m some_runs).0

  abbrev row : IsPageRow Papx (new_wd m) runs number
  row = (have_row Papx m some_runs).1.0

  abbrev row_stream : PagedStream
  row_stream = stream_of_row (new_wd m) (fast_bin_table Chpx save_here) runs number row

  row_ends : ranges_end row_stream ≡ last_fc runs
  row_ends = ends_with_runs (new_wd m) (fast_bin_table Chpx save_here) runs number row

  row_pages : HasRowPages row_stream (new_stream m)
  row_pages = record {
    wd = refl;
    named = (have_row Papx m some_runs).1.1;
    new_table = new_table m;
    end = table_ends m ∙ (sym (added_are Papx m.ready some).last ∙ sym row_ends);
  }

  told : (fc : ℕ) (run : Run) → IsInRun runs fc run → IsPageRunAt row_stream fc run.from run.to
  told fc run is = run_told (new_wd m) (fast_bin_table Chpx save_here) runs number row fc run is

  as_told : (fc first lim : ℕ) (run : Run) → IsInRun runs fc run → IsPageRunAt row_stream fc first lim →
      (first ≡ run.from) × (lim ≡ run.to)
  as_told fc first lim run is at =
      told_as (new_wd m) (fast_bin_table Chpx save_here) runs number row fc first lim run is at

  first : IsFirst m.ready
  first = first_run m.ready some

  -- a place behind the old ranges is in the first run
  behind_run : (fc : ℕ) → ranges_end (old_stream save_here) ≤ fc → fc < save_here.base → IsInRun runs fc first.run
  behind_run fc high below =
      let e = begin_is m (omega (arith, high, below)) in
      holds_place m.ready first fc (omega (arith, e, high)) below

  first_from : (fc : ℕ) → ranges_end (old_stream save_here) ≤ fc → fc < save_here.base →
      first.run.from ≡ ranges_end (old_stream save_here)
  first_from fc high below = first.from ∙ begin_is m (omega (arith, high, below))

  last_high : save_here.base < last_fc runs
  last_high =
      let high = first.to in
      let in_first : IsInRun runs save_here.base first.run = record {
        number = 0;
        there = first.there;
        from = let from = first.from in
            let low = kept_end_low (old_bins Papx save_here) save_here.base in
            omega (arith, from, low);
        to = high;
      } in
      let upto = upto_last (new_wd m) (fast_bin_table Chpx save_here) runs number row save_here.base first.run
      in_first in
      omega (arith, high, upto)

  held_some : (fc : ℕ) → fc < save_here.base → fc < ranges_end (new_stream m)
  held_some fc below =
      omega (arith, below, last_high, table_ends m, (added_are Papx m.ready some).last)

  row_has : (fc : ℕ) → ranges_end (old_stream save_here) ≤ fc → fc < save_here.base →
      (f : ℕ) × BeginsRun row_stream fc f
  row_has fc high below = (first.run.from, inr (first.run.to, told fc first.run (behind_run fc high below)))

  begins_some : (fc begin : ℕ) → ranges_end (old_stream save_here) ≤ fc → fc < save_here.base →
      BeginsRun (new_stream m) fc begin → begin ≡ ranges_end (old_stream save_here)
  begins_some fc begin high below begins =
      by_row (row_begins_back row_stream (new_stream m) row_pages fc (row_has fc high below) begin begins)
    where
      by_row : BeginsRun row_stream fc begin → begin ≡ ranges_end (old_stream save_here)
      by_row (inl (behind, is)) = absurd (omega (arith, behind, row_ends, last_high, below))
      by_row (inr (lim, run)) =
          (as_told fc begin lim first.run (behind_run fc high below) run).0 ∙ first_from fc high below

  has_some : (fc : ℕ) → ranges_end (old_stream save_here) ≤ fc → fc < save_here.base →
      BeginsRun (new_stream m) fc (ranges_end (old_stream save_here))
  has_some fc high below =
      let begins = row_begins row_stream (new_stream m) row_pages fc first.run.from
      (inr (first.run.to, told fc first.run (behind_run fc high below))) in
      subst (BeginsRun (new_stream m) fc) (first_from fc high below) begins

  one_run_some : (fc later begin lim : ℕ) → ranges_end (old_stream save_here) ≤ fc → fc < save_here.base →
      ranges_end (old_stream save_here) ≤ later → later < save_here.base →
      IsPageRunAt (new_stream m) fc begin lim → IsPageRunAt (new_stream m) later begin lim
  one_run_some fc later begin lim high below later_high later_below run =
      let back = row_run_back row_stream (new_stream m) row_pages fc (row_has fc high below) begin lim run in
      let same = as_told fc begin lim first.run (behind_run fc high below) back in
      let there = row_run row_stream (new_stream m) row_pages later first.run.from first.run.to
      (told later first.run (behind_run later later_high later_below)) in
      subst (λ (f : ℕ). IsPageRunAt (new_stream m) later f lim) (sym same.0)
      (subst (λ (l : ℕ). IsPageRunAt (new_stream m) later first.run.from l) (sym same.1) there)

  -- an added unit
  added_bounded : (k : ℕ) (item : Item) (end : Bool) → slice_get save_here.added k ≡ Some item →
      is_some item.mark ≡ end → IsBounded (new_stream m) (save_here.base + 2 * k) true end
  added_bounded k item end here is =
      row_bounded row_stream (new_stream m) row_pages (save_here.base + 2 * k) true end (by_end end is)
    where
      law : RunEndsWithMark runs (save_here.base + 2 * k) item
      law = runs_end_with_marks (old_bins Papx save_here) save_here.base save_here.added k item here

      inside : save_here.base + 2 * k + 2 < length (new_wd m)
      inside =
          let within = slice_get_within save_here.added k item here in
          let pages = (pages_whole Papx m.ready).some some_runs in
          omega (arith, within, pages, length-fast_wd m.ready m.clx, length-added m.ready)

      by_end : (end : Bool) → is_some item.mark ≡ end → IsBounded row_stream (save_here.base + 2 * k) true end
      by_end true marked =
          ending_bounded (new_wd m) (fast_bin_table Chpx save_here) runs number row (save_here.base + 2 * k) law.run
          law.in_run (law.mark_ends marked) inside
      by_end false none =
          inner_bounded (new_wd m) (fast_bin_table Chpx save_here) runs number row (save_here.base + 2 * k) law.run
          law.in_run (law.goes_on none) inside

-- ---- where nothing is added

module _ (m : Made) (none : length (the_save m).added ≤ 0) where
  ends_none : ranges_end (new_stream m) ≡ runs_begin Papx (the_save m)
  ends_none = table_ends m ∙ ap (runs_end (runs_begin Papx (the_save m))) (none_there Papx m.ready none)

  begins_none : (fc begin : ℕ) → ranges_end (old_stream (the_save m)) ≤ fc → fc < (the_save m).base →
      BeginsRun (new_stream m) fc begin → begin ≡ ranges_end (old_stream (the_save m))
  begins_none fc begin high below (inl (behind, is)) =
      is ∙ (ends_none ∙ begin_is m (omega (arith, high, below)))
  begins_none fc begin high below (inr (lim, run)) =
      let low = named_low (fast_bin_table Papx (the_save m)) fc run.number (new_table m) run.named in
      let e = begin_is m (omega (arith, high, below)) in
      absurd (omega (arith, low, ends_none, e, high))

  has_none : (fc : ℕ) → ranges_end (old_stream (the_save m)) ≤ fc → fc < (the_save m).base →
      BeginsRun (new_stream m) fc (ranges_end (old_stream (the_save m)))
  has_none fc high below =
      let e = begin_is m (omega (arith, high, below)) in
      inl (omega (arith, ends_none, e, high), sym (ends_none ∙ e))

  one_run_none : (fc later begin lim : ℕ) → ranges_end (old_stream (the_save m)) ≤ fc → fc < (the_save m).base →
      IsPageRunAt (new_stream m) fc begin lim → IsPageRunAt (new_stream m) later begin lim
  one_run_none fc later begin lim high below run =
      let low = named_low (fast_bin_table Papx (the_save m)) fc run.number (new_table m) run.named in
      let e = begin_is m (omega (arith, high, below)) in
      absurd (omega (arith, low, ends_none, e, high))

  held_none : (fc : ℕ) → fc < ranges_end (old_stream (the_save m)) → fc < (the_save m).base →
      fc < ranges_end (new_stream m)
  held_none fc low below = omega (arith, low, below, ends_none)

-- ---- the old places

old_pages : (m : Made) → KeepsPages (old_stream (the_save m)) (new_stream m) (the_save m).base →
    HasOldPages (old_stream (the_save m)) (new_stream m) (the_save m).base
old_pages m keeps = elim (cases_lt 0 (length (the_save m).added)) [
  | inl some ↦ record {
    bytes = keeps.bytes;
    within = keeps.within;
    ranges = keeps.paragraphs;
    old_table = old_table_is Papx m.ready;
    new_table = new_table m;
    held = λ fc low below. held_some m some fc below;
    begins = begins_some m some;
    has = has_some m some;
    one_run = one_run_some m some;
  }
  | inr none ↦
      let empty : length (the_save m).added ≤ 0 = omega (arith, none) in
      record {
        bytes = keeps.bytes;
        within = keeps.within;
        ranges = keeps.paragraphs;
        old_table = old_table_is Papx m.ready;
        new_table = new_table m;
        held = held_none m empty;
        begins = begins_none m empty;
        has = has_none m empty;
        one_run = λ fc later begin lim high below later_high later_below run.
            one_run_none m empty fc later begin lim high below run;
      }
]

-- ---- what a slot's place is given

mark_same : (modifier : Modifier) (old new : Option Mark) → IsMarkedAfter modifier old new → is_some old ≡ is_some new
mark_same modifier None None after = refl
mark_same modifier None (Some new) after = absurd after
mark_same modifier (Some old) None after = absurd after
mark_same modifier (Some old) (Some new) after = refl

-- the place has a mark exactly where the slot ends a paragraph
record IsGivenEnd (old : PagedStream) (plan : Plan) (place : UnitPlace) (end : Bool) : Type 0 where
  given : GivenUnit
  gives : IsGivenBy old plan place.at place.wide given
  is : is_some given.mark ≡ end

given_end : (old : PagedStream) (plan : Plan) (place : UnitPlace) (slot : Slot) (end : Bool) →
    IsPlaceForSlot (StandsInEither old plan) (IsGivenBy old plan) place slot → slot_end slot ≡ Some end →
    IsGivenEnd old plan place end
given_end old plan place (shown item) end placed is = record {
  given = placed.before;
  gives = placed.gives;
  is = mark_same place.modifier placed.before.mark item.mark placed.after.mark ∙ same_Some (is_some item.mark) end is;
}
given_end old plan place loose end placed is = record {
  given = placed.given;
  gives = placed.gives;
  is = placed.marked ∙ same_Some true end is;
}
given_end old plan place last end placed is = absurd (none-some end is)

unit_some : (wide : Bool) → 1 ≤ unit_bytes wide
unit_some true = omega arith
unit_some false = omega arith

made_by : (save : FastSave) (file : List ℕ) → CanBeFastSaved save → IsFormed save.document → IsFormedText save.added →
    IsAppended save file → Made
made_by save file can formed items made = record {
  ready = record { save = save; can = can; formed = formed; items = items };
  clx = made.clx;
  printed = made.printed;
  few_saves = made.few_saves;
}

pub fast_saves_are_bounded : FastSavesAreBounded
unfolding made_by
fast_saves_are_bounded save file can formed items made before k place end here there =
    let m = made_by save file can formed items made in
    let slot = slot_there save.document save.ends k end there in
    let placed = (text_stands m.ready).each k place slot.slot here slot.here in
    let given = given_end (old_stream save) (plan_of save) place slot.slot end placed slot.is in
    elim given.gives [
      | inl gives ↦
          let inside = gives.stands.inside in
          let width = unit_some place.wide in
          let behind = (base_is m.ready).behind in
          old_bounded (old_stream save) (new_stream m) save.base (old_pages m made.saved.keeps) place.at place.wide end
          (before k place end here there (omega (arith, inside, width, behind)))
      | inr planned ↦
          let found = from_map given_of save.added planned.number given.given planned.there in
          let some : 0 < length save.added =
          let within = slice_get_within save.added planned.number found.0 found.1.0 in omega (arith, within) in
          let marked : is_some found.0.mark ≡ end = ap (λ (g : GivenUnit). is_some g.mark) found.1.1 ∙ given.is in
          let bounded = added_bounded m some planned.number found.0 end found.1.0 marked in
          subst (λ (at : ℕ). IsBounded (new_stream m) at place.wide end) (sym planned.here)
          (subst (λ (wide : Bool). IsBounded (new_stream m) (save.base + 2 * planned.number) wide end)
          (sym planned.two_bytes) bounded)
    ]
