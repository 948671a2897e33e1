-- [MS-DOC] Clx, Prc: a Clx in whose Prcs the codes that are not read are skipped. Each Prc stays where it is, and
-- keeps its length.
use Rattle.std.specs.Prelude.{◌≡◌, ◌↔◌, ℕ, List, ◌++◌, length, flat_map, All, Some, slice_get, take, drop, slice_range}
use Rattle.prl_skips.specs.Skips.{SkipsOrStays}
use Rattle.piece_table.specs.Piece.{TextPiece}
use Rattle.piece_table.specs.Clx.{IsGrpprl, IsClx, BeginsPrc, prc_bytes}

-- the other list has its codes skipped, or is cut short and stays; it is as long
pub record IsListSkipped (old new : List ℕ) : Type 0 where
  pub skips : SkipsOrStays old new
  pub len : length new ≡ length old

-- list by list
pub record AreListsSkipped (old new : List (List ℕ)) : Type 0 where
  pub count : length new ≡ length old
  pub each : (k : ℕ) (list made : List ℕ) → slice_get old k ≡ Some list → slice_get new k ≡ Some made →
      IsListSkipped list made

-- the Prcs at the front have their codes skipped, and what follows them is as it was
pub record SkipsPrcs (old new : List ℕ) : Type 0 where
  pub prcs : List (List ℕ)
  pub made : List (List ℕ)
  pub rest : List ℕ
  pub sizes : All IsGrpprl prcs
  pub was : old ≡ flat_map prc_bytes prcs ++ rest
  pub is : new ≡ flat_map prc_bytes made ++ rest
  pub skips : AreListsSkipped prcs made
  pub no_more : ¬ BeginsPrc rest

-- the Prcs of the Clx that is in this range of a stream are skipped, and nothing else changes
pub record PutsPrcs (from to : ℕ) (old new : List ℕ) : Type 0 where
  pub clx : List ℕ
  pub skips : SkipsPrcs (slice_range old from to) clx
  pub len : length clx ≡ length (slice_range old from to)
  pub put : new ≡ take from old ++ (clx ++ drop to old)

-- it has the same pieces, each with the same modifier
abbrev pub SkippedPrcsMeanTheSame : Type 0
SkippedPrcsMeanTheSame = (old new : List ℕ) (pieces : List TextPiece) → SkipsPrcs old new →
    (IsClx new pieces ↔ IsClx old pieces)
