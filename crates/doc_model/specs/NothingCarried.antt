-- A document may carry nothing.
use Rattle.std.specs.Prelude.{[], ◌∷◌}
use Rattle.std.proofs.Common.{refl, arith}
use Rattle.doc_bits.specs.Number.{number_at}
use Rattle.doc_parts.specs.Levels.{levels_before, level_start, AreLevelsFrom, level_count}
use Rattle.fib_form.specs.FibFields.{IsKeptFlags}
use Rattle.doc_model.specs.Carried.{ArePartsShort, AreListsWithLevels, AreCarriedStreams}

pub empty_parts_are_short : ArePartsShort ([] ∷ [] ∷ [] ∷ [] ∷ [] ∷ [] ∷ [])
empty_parts_are_short = refl

pub no_levels : AreLevelsFrom [] 0 (level_count []) 0
unfolding levels_before level_start number_at
no_levels = record {
  ends = refl;
  whole = λ k below. absurd (omega (arith, below));
  after = omega arith;
  within = omega arith;
}

pub no_lists : AreListsWithLevels [] []
no_lists = record { counted = λ some. absurd (omega (arith, some)); whole = no_levels }

pub no_flags : IsKeptFlags 0
no_flags = refl

pub no_streams : AreCarriedStreams []
no_streams = record { few = omega arith; total = omega arith; names = λ i stream here. absurd (grind (arith, here)) }
