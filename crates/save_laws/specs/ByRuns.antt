-- The paragraph of a CP as the standard finds it: by the runs of the pages of paragraphs alone, piece by piece, and by
-- no unit of the text. Where each unit agrees with the runs at its place, these are the paragraphs of the marks.
use Rattle.std.specs.Prelude.{◌≡◌, ◌⊎◌, ℕ, ◌+◌, ◌-◌, ◌*◌, ◌/◌, ◌<◌, ◌≤◌, List, [], ◌∷◌, ◌++◌, length, reverse, Bool}
use Rattle.std.specs.Prelude.{true, false, Option, Some, None, is_some, slice_get}
use Rattle.std.specs.List.{filter_map}
use Rattle.doc_bits.specs.Plc.{plc_cp}
use Rattle.fkp_pages.specs.Bin.{IsBinPage, bin_count, page_at}
use Rattle.fkp_pages.specs.Fkp.{HoldsFc, page_run_count, page_fc}
use Rattle.piece_table.specs.Piece.{TextPiece, UnitPlace, unit_bytes, flat_pieces, total_length, ArePieces}
use Rattle.save_laws.specs.Places.{PagedStream}
use Rattle.save_laws.specs.Slots.{Slot, shown, loose, last}

-- ---- runs

-- [MS-DOC] rgfc[k] and rgfc[k + 1]: the fcs of a run that holds the place, in the page that the bin table names for
-- it, which is in the stream and not over the FIB
pub record IsPageRunAt (from : PagedStream) (fc first lim : ℕ) : Type 0 where
  pub number : ℕ
  pub named : IsBinPage from.paragraphs fc number
  pub low : 2 ≤ number
  pub within : 512 * number + 512 ≤ length from.wd
  pub run : ℕ
  pub below : run < page_run_count (page_at from.wd number)
  pub holds : HoldsFc (page_at from.wd number) run fc
  pub first_is : first ≡ page_fc (page_at from.wd number) run
  pub lim_is : lim ≡ page_fc (page_at from.wd number) (run + 1)

-- where all ranges of the bin table end
abbrev pub ranges_end : PagedStream → ℕ
ranges_end from = plc_cp from.paragraphs (bin_count from.paragraphs)

-- [MS-DOC] fcFirst: where the run of a place begins; behind all ranges, where they end
abbrev pub BeginsRun : PagedStream → ℕ → ℕ → Type 0
BeginsRun from fc first =
    ((ranges_end from ≤ fc) × (first ≡ ranges_end from)) ⊎ ((lim : ℕ) × IsPageRunAt from fc first lim)

-- ---- the first CP of a paragraph

-- so many units of a piece, which begins at a CP, lie before the place. A run that begins within the piece begins the
-- paragraph; else the paragraph begins earlier
pub record IsFirstFrom (from : PagedStream) (Earlier : Type 0) (piece : TextPiece) (begin units first : ℕ) : Type 0
  where
    pub fc : ℕ
    pub begins : BeginsRun from (piece.at + units * unit_bytes piece.wide) fc
    pub is :
        ((piece.at < fc) × (first ≡ begin + (fc - piece.at) / unit_bytes piece.wide)) ⊎ ((fc ≤ piece.at) × Earlier)

-- the same from the byte behind the nearest of the pieces before a CP, nearest first; before them all, it is CP 0
abbrev pub IsEarlier : PagedStream → List TextPiece → ℕ → ℕ → Type 0
IsEarlier from [] begin first = first ≡ 0
IsEarlier from (piece ∷ before) begin first =
    IsFirstFrom from (IsEarlier from before (begin - piece.len) first) piece (begin - piece.len) piece.len first

abbrev pub IsFirstByRuns : PagedStream → List TextPiece → TextPiece → ℕ → ℕ → ℕ → Type 0
IsFirstByRuns from before piece begin units first =
    IsFirstFrom from (IsEarlier from before begin first) piece begin units first

-- ---- the last CP

-- a run that ends within the piece ends the paragraph; else, and behind all ranges, the paragraph ends later
abbrev pub IsLastFrom : PagedStream → Type 0 → TextPiece → ℕ → ℕ → ℕ → Type 0
IsLastFrom from Later piece begin units final =
    let fc = piece.at + units * unit_bytes piece.wide in
    let end = piece.at + piece.len * unit_bytes piece.wide in
    ((first : ℕ) × ((lim : ℕ) × (IsPageRunAt from fc first lim
    × (((lim ≤ end) × (final + 1 ≡ begin + (lim - piece.at) / unit_bytes piece.wide)) ⊎ ((end < lim) × Later)))))
    ⊎ ((ranges_end from ≤ fc) × Later)

-- the same from the first byte of the next piece on
abbrev pub IsLater : PagedStream → List TextPiece → ℕ → ℕ → Type 0
IsLater from [] begin final = ⊥
IsLater from (piece ∷ behind) begin final =
    IsLastFrom from (IsLater from behind (begin + piece.len) final) piece begin 0 final

abbrev pub IsLastByRuns : PagedStream → List TextPiece → TextPiece → ℕ → ℕ → ℕ → Type 0
IsLastByRuns from behind piece begin units final =
    IsLastFrom from (IsLater from behind (begin + piece.len) final) piece begin units final

-- ---- a unit that agrees with the runs

abbrev pub HasRunBegin : PagedStream → ℕ → Type 0
HasRunBegin from fc = (first : ℕ) × BeginsRun from fc first

-- the run of the place ends behind the unit, and another one begins there
pub record EndsRun (from : PagedStream) (at end : ℕ) : Type 0 where
  pub held : at < ranges_end from
  pub ends : (first lim : ℕ) → IsPageRunAt from at first lim → lim ≡ end
  pub begins : (first : ℕ) → BeginsRun from end first → first ≡ end

-- the run of the place goes on behind the unit
pub record StaysInRun (from : PagedStream) (at end : ℕ) : Type 0 where
  pub goes_on : (first lim : ℕ) → IsPageRunAt from at first lim → IsPageRunAt from end first lim
  pub began : (first : ℕ) → BeginsRun from end first → BeginsRun from at first

abbrev pub MeetsRuns : Bool → PagedStream → ℕ → ℕ → Type 0
MeetsRuns true from at end = EndsRun from at end
MeetsRuns false from at end = StaysInRun from at end

-- a unit is bounded: where it ends a paragraph a run ends with it, and where not, none does. Nothing is said of other
-- units
pub record IsBounded (from : PagedStream) (at : ℕ) (wide ends : Bool) : Type 0 where
  pub inside : at + unit_bytes wide < length from.wd
  pub here : HasRunBegin from at
  pub there : HasRunBegin from (at + unit_bytes wide)
  pub meets : MeetsRuns ends from at (at + unit_bytes wide)

-- ---- the paragraphs of the marks

-- whether the unit of a slot ends a paragraph; nobody looks at the last CP
abbrev pub slot_end : Slot → Option Bool
slot_end (shown item) = Some (is_some item.mark)
slot_end loose = Some true
slot_end last = None

abbrev pub text_ends : List Slot → List Bool
text_ends slots = filter_map slot_end slots

-- each unit of the text is bounded
abbrev pub AreBounded : PagedStream → List UnitPlace → List Bool → Type 0
AreBounded from places ends =
    (k : ℕ) (place : UnitPlace) (end : Bool) → slice_get places k ≡ Some place → slice_get ends k ≡ Some end →
    IsBounded from place.at place.wide end

-- the paragraph of a CP: it begins with the text or behind a mark, ends with one, and has none between
pub record IsParagraph (ends : List Bool) (cp first last : ℕ) : Type 0 where
  pub low : first ≤ cp
  pub high : cp ≤ last
  pub begins : (first ≡ 0) ⊎ (slice_get ends (first - 1) ≡ Some true)
  pub between : (k : ℕ) → first ≤ k → k < last → slice_get ends k ≡ Some false
  pub ends_there : slice_get ends last ≡ Some true

-- ---- the law

-- the standard's two CPs are these, and no others
pub record IsFoundByRuns
    (from : PagedStream) (before behind : List TextPiece) (piece : TextPiece) (units first last : ℕ) : Type 0 where
  pub first_found : IsFirstByRuns from before piece (total_length (reverse before)) units first
  pub first_alone :
      (other : ℕ) → IsFirstByRuns from before piece (total_length (reverse before)) units other → other ≡ first
  pub last_found : IsLastByRuns from behind piece (total_length (reverse before)) units last
  pub last_alone :
      (other : ℕ) → IsLastByRuns from behind piece (total_length (reverse before)) units other → other ≡ last

-- where each unit is bounded, the standard finds the paragraphs of the marks, however the pieces are cut
abbrev pub BoundedTextsHaveTheirParagraphs : Type 0
BoundedTextsHaveTheirParagraphs =
    (from : PagedStream) (pieces before behind : List TextPiece) (piece : TextPiece) (ends : List Bool)
    (units first last : ℕ) → ArePieces pieces → pieces ≡ reverse before ++ (piece ∷ behind) →
    length ends ≤ total_length pieces → AreBounded from (flat_pieces pieces) ends → units < piece.len →
    IsParagraph ends (total_length (reverse before) + units) first last →
    IsFoundByRuns from before behind piece units first last
