-- The bin tables of a save behind an old stream.
use Rattle.std.specs.Prelude.{slice_index}
use Rattle.std.proofs.Common.{◌≡◌, refl, sym, ap, subst, inl, inr, ℕ, ◌+◌, ◌<◌, ◌≤◌, ◌^◌}
use Rattle.std.proofs.Common.{List, [], ◌∷◌, length, Some, None, Option, Bool, true, false, IsSome, ◌-◌, arith}
use Rattle.std.proofs.lemmas.Bool.{cases_lt, true≢false}
use Rattle.std.proofs.lemmas.List.{length-append}
use Rattle.std.proofs.lemmas.Option.{slice_get_within}
use Rattle.doc_bits.proofs.Public.{from_map, beside}
use Rattle.fkp_pages.specs.declared.kind.PageKind.{PageKind}
use Rattle.fkp_pages.specs.declared.kind.PageKind.TheVariants.{Chpx, Papx}
use Rattle.fkp_pages.specs.declared.lists.Bin.{Bin}
use Rattle.fkp_pages.specs.Bin.{ArePrintableBins, IsBinPage, bin_fcs}
use Rattle.fkp_pages.specs.InARow.{numbered_bins}
use Rattle.fkp_pages.specs.Rows.{KeepsRanges}
use Rattle.fkp_pages.proofs.Public.{row_is_printable, length-numbered_bins, ranges_kept, printed_table}
use Rattle.piece_table.specs.Piece.{UnitPlace}
use Rattle.doc_model.specs.declared.item.Mark.{Mark}
use Rattle.doc_model.specs.declared.item.Item.{Item}
use Rattle.plain_doc.proofs.Public.{main_ends, last_marked}
use Rattle.prop_map.specs.Settings.{Properties}
use Rattle.piece_table.specs.Piece.{flat_pieces, unit_bytes}
use Rattle.save_laws.specs.Places.{GivenUnit, given_of, GivesAt, GivesCharacters, GivesMark, IsMarkedAfter}
use Rattle.save_laws.specs.Slots.{shown, IsPlaceForSlot, ReadsAfter, document_slots}
use Rattle.save_laws.specs.Saves.{HasRanges}
use Rattle.save_laws.specs.FastSaves.{StandsInEither, IsGivenBy, StandsInSession}
use Rattle.save_laws.proofs.Public.{mark_before, main_slot}
use Rattle.fast_save_layout.specs.Saves.{plan_of}
use Rattle.fast_save_layout.specs.KeptBins.{kept_bins}
use Rattle.fast_save_layout.specs.Appended.{old_bins, old_stream, added_runs, added_pages, first_page}
use Rattle.fast_save_layout.specs.Appended.{runs_begin, bins_end, fast_bins, fast_bin_table}
use Rattle.fast_save_layout.proofs.KeptBinLemmas.{AreFirstRanges, MayFollow, kept_are_first, first_are_before}
use Rattle.fast_save_layout.proofs.KeptBinLemmas.{first_before_end, kept_further, printable_with}
use Rattle.fast_save_layout.proofs.ReadyLemmas.{Ready, is_valid, stream_is, old_table_is, base_is, added_are}
use Rattle.fast_save_layout.proofs.ReadyLemmas.{none_there}
use Rattle.fast_save_layout.proofs.ReadyLemmas.{end_low, end_high, pages_are, pages_whole, have_room}

abbrev kept : PageKind → Ready → List Bin
kept kind r = kept_bins (old_bins kind r.save) r.save.base

abbrev later : PageKind → Ready → List Bin
later kind r = numbered_bins (first_page kind r.save) (added_pages kind r.save).starts

-- ---- the text in the words of the save

pub text_stands : (r : Ready) →
    StandsInSession (old_stream r.save) (plan_of r.save) r.save.pieces r.save.document r.save.ends
text_stands r =
    subst (λ s. StandsInSession s (plan_of r.save) r.save.pieces r.save.document r.save.ends) (sym (stream_is r))
    r.can.text

-- ---- a table has a range

number_room : (kind : PageKind) (r : Ready) → first_page kind r.save + length (added_pages kind r.save).starts ≤ 2 ^ 22
number_room Chpx r =
    let room = (have_room r).characters in
    let few = (pages_whole Chpx r).few in
    omega (arith, room, few)
number_room Papx r =
    let room = (have_room r).paragraphs in
    let few = (pages_whole Papx r).few in
    omega (arith, room, few)

length-later : (kind : PageKind) (r : Ready) → length (later kind r) ≡ length (added_pages kind r.save).starts
length-later kind r = length-numbered_bins (first_page kind r.save) (added_pages kind r.save).starts

-- the page of a place that is in the old stream is in a range that is kept
range_kept : (kind : PageKind) (r : Ready) (at number : ℕ) → IsBinPage (old_bins kind r.save) at number →
    at < r.save.base → 0 < length (kept kind r)
range_kept kind r at number page below =
    let are = kept_are_first (old_bins kind r.save) r.save.base (old_table_is kind r) in
    let k = page.entry in
    let from = page.range.from in
    let inside = page.range.below in
    elim (cases_lt k (length (kept kind r))) [
      | inl low ↦ omega (arith, low)
      | inr past ↦
          let high = are.high k past inside in
          absurd (omega (arith, high, from, below))
    ]

-- where nothing is added, each place is in the old stream
old_gives : (r : Ready) (at : ℕ) (wide : Bool) (given : GivenUnit) → length r.save.added ≤ 0 →
    IsGivenBy (old_stream r.save) (plan_of r.save) at wide given → GivesAt (old_stream r.save) at wide given
old_gives r at wide given none (inl gives) = gives
old_gives r at wide given none (inr planned) =
    let found = from_map given_of r.save.added planned.number given planned.there in
    let some = slice_get_within r.save.added planned.number found.0 found.1.0 in
    absurd (omega (arith, some, none))

-- the last item of the main text has a mark, and so has the page of its place
record IsLastMark (r : Ready) : Type 0 where
  at : ℕ
  wide : Bool
  given : GivenUnit
  mark : Mark
  gives : IsGivenBy (old_stream r.save) (plan_of r.save) at wide given
  marked : given.mark ≡ Some mark

marked_by : (r : Ready) (place : UnitPlace) (item : Item) (has : Option Mark) → item.mark ≡ has → IsSome has →
    (read : ReadsAfter (IsGivenBy (old_stream r.save) (plan_of r.save)) place (given_of item)) → IsLastMark r
marked_by r place item None is some read = absurd (true≢false (sym some))
marked_by r place item (Some mark) is some read =
    let after : IsMarkedAfter place.modifier read.before.mark (Some mark) =
    subst (λ o. IsMarkedAfter place.modifier read.before.mark o) is read.after.mark in
    let found = mark_before place.modifier read.before.mark mark after in
    record {
      at = place.at;
      wide = place.wide;
      given = read.before;
      mark = found.before;
      gives = read.gives;
      marked = found.is;
    }

last_mark : (r : Ready) → IsLastMark r
last_mark r =
    let d = r.save.document in
    let last = main_ends d (is_valid r) in
    let slot = main_slot d r.save.ends (length d.main - 1) last.item last.here in
    let P = IsPlaceForSlot (StandsInEither (old_stream r.save) (plan_of r.save)) (IsGivenBy (old_stream r.save)
    (plan_of r.save)) in
    let found =
    beside P (flat_pieces r.save.pieces) (document_slots d r.save.ends) (length d.main - 1) (shown last.item)
    (text_stands
    r)
    slot in
    marked_by r found.other last.item last.item.mark refl (last_marked d (is_valid r)) found.is

unit_some : (wide : Bool) → 1 ≤ unit_bytes wide
unit_some true = omega arith
unit_some false = omega arith

-- a place of the old stream with pages of both kinds
some_kept_by : (kind : PageKind) (r : Ready) (at : ℕ) (mark : Mark) (chp : Properties) → at < r.save.base →
    GivesCharacters (old_stream r.save) at chp → GivesMark (old_stream r.save) at mark → 0 < length (kept kind r)
some_kept_by Chpx r at mark chp below characters paragraph =
    range_kept Chpx r at characters.has.number characters.has.named below
some_kept_by Papx r at mark chp below characters paragraph =
    range_kept Papx r at paragraph.has.number paragraph.has.named below

some_kept : (kind : PageKind) (r : Ready) → length r.save.added ≤ 0 → 0 < length (kept kind r)
some_kept kind r none =
    let last = last_mark r in
    let gives = old_gives r last.at last.wide last.given none last.gives in
    let inside = gives.stands.inside in
    let width = unit_some last.wide in
    let behind = (base_is r).behind in
    some_kept_by kind r last.at last.mark last.given.chp (omega (arith, inside, width, behind)) gives.characters
    (gives.mark last.mark last.marked)

pub some_ranges : (kind : PageKind) (r : Ready) → 0 < length (fast_bins kind r.save)
some_ranges kind r =
    let len = length-append (kept kind r) (later kind r) in
    elim (cases_lt 0 (length r.save.added)) [
      | inl some ↦
          let pages = (pages_whole kind r).some (added_are kind r some).some in
          let count = length-later kind r in
          omega (arith, len, pages, count)
      | inr none ↦
          let has = some_kept kind r none in
          omega (arith, len, has)
    ]

-- ---- the ranges of the new pages

may_follow : (kind : PageKind) (r : Ready) → MayFollow (later kind r) (bins_end kind r.save)
may_follow kind r some = elim (cases_lt 0 (length r.save.added)) [
  | inl any ↦
      let added = added_are kind r any in
      subst (ArePrintableBins (later kind r)) added.last
      (row_is_printable kind (added_runs kind r.save) (added_pages kind r.save) (first_page kind r.save) added.right
      (pages_are kind r) added.some (number_room kind r))
  | inr none ↦
      let few = (pages_whole kind r).few in
      let runs = ap length (none_there kind r none) in
      let count = length-later kind r in
      absurd (omega (arith, some, few, runs, count))
]

first_number : (number : ℕ) (starts : List ℕ) (end : ℕ) → 0 < length starts →
    slice_index (bin_fcs (numbered_bins number starts) end) 0 ≡ slice_index starts 0
unfolding numbered_bins
first_number number [] end some = absurd (omega (arith, some))
first_number number (start ∷ starts) end some = refl

no_number : (number end : ℕ) (starts : List ℕ) → length starts ≡ 0 →
    slice_index (bin_fcs (numbered_bins number starts) end) 0 ≡ end
unfolding numbered_bins
no_number number end [] none = refl
no_number number end (start ∷ starts) none = absurd (omega (arith, none))

-- the first new range begins where the runs do, and without one the table ends there or behind it
pub begins_there : (kind : PageKind) (r : Ready) →
    runs_begin kind r.save ≤ slice_index (bin_fcs (later kind r) (bins_end kind r.save)) 0
begins_there kind r = elim (cases_lt 0 (length r.save.added)) [
  | inl any ↦
      let added = added_are kind r any in
      let whole = pages_whole kind r in
      let start =
      first_number (first_page kind r.save) (added_pages kind r.save).starts (bins_end kind r.save)
      (whole.some added.some) in
      let first = whole.first added.some in
      let begins = added.first in
      omega (arith, start, first, begins)
  | inr none ↦
      let few = (pages_whole kind r).few in
      let runs = ap length (none_there kind r none) in
      let end = no_number (first_page kind r.save) (bins_end kind r.save) (added_pages kind r.save).starts
      (omega (arith, few, runs)) in
      omega (arith, end, end_high kind r none)
]

-- ---- the table

-- the ranges that are kept begin before the runs do
pub kept_low : (kind : PageKind) (r : Ready) →
    AreFirstRanges (old_bins kind r.save) (runs_begin kind r.save) (kept kind r)
kept_low Chpx r = kept_are_first (old_bins Chpx r.save) r.save.base (old_table_is Chpx r)
kept_low Papx r =
    first_before_end (old_bins Papx r.save) r.save.base (kept Papx r) (old_table_is Papx r)
    (kept_are_first (old_bins Papx r.save) r.save.base (old_table_is Papx r))

pub bins_printable : (kind : PageKind) (r : Ready) → ArePrintableBins (fast_bins kind r.save) (bins_end kind r.save)
bins_printable kind r =
    printable_with (old_bins kind r.save) (runs_begin kind r.save) (kept kind r) (later kind r) (bins_end kind r.save)
    (old_table_is kind r) (kept_low kind r) (may_follow kind r) (begins_there kind r) (some_ranges kind r)

pub end_small : (kind : PageKind) (r : Ready) → bins_end kind r.save < 2 ^ 32
end_small kind r =
    let small = (base_is r).small in
    let low = end_low kind r in
    omega (arith, small, low)

-- what is kept before the runs is all that is kept before the added text
further : (kind : PageKind) (r : Ready) (table : List ℕ) →
    KeepsRanges (old_bins kind r.save) table (runs_begin kind r.save) →
    KeepsRanges (old_bins kind r.save) table r.save.base
further Chpx r table keeps = keeps
further Papx r table keeps = kept_further (old_bins Papx r.save) table r.save.base (old_table_is Papx r) keeps

pub ranges_are_kept : (kind : PageKind) (r : Ready) →
    KeepsRanges (old_bins kind r.save) (fast_bin_table kind r.save) r.save.base
unfolding fast_bin_table
ranges_are_kept kind r =
    further kind r (fast_bin_table kind r.save)
    (ranges_kept (old_bins kind r.save) (kept kind r) (later kind r) (bins_end kind r.save) (runs_begin kind r.save)
    (first_are_before (old_bins kind r.save) (runs_begin kind r.save) (kept kind r) (kept_low kind r))
    (bins_printable kind r) (end_small kind r) (begins_there kind r))

pub has_ranges : (kind : PageKind) (r : Ready) → HasRanges (fast_bin_table kind r.save)
unfolding fast_bin_table
has_ranges kind r =
    let table =
    printed_table (fast_bins kind r.save) (bins_end kind r.save) (bins_printable kind r) (end_small kind r) in
    let some = (bins_printable kind r).some in
    let count = table.count in
    record { table = table.table; some = omega (arith, some, count) }
