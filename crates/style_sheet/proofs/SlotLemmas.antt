-- The slots of a sheet as they are written.
use Rattle.std.proofs.Common.{◌≡◌, ℕ, zero, suc, ◌+◌, ◌<◌, List, [], ◌∷◌, Option, None, length, slice_index_or, refl}
use Rattle.std.proofs.Common.{◌∙◌, ap, arith}
use Rattle.style_sheet.specs.declared.styles.Style.{Style}
use Rattle.style_sheet.specs.Written.{written_slot, written_slots}

pub length-written_slots : (first : ℕ) (slots : List (Option Style)) → length (written_slots first slots) ≡ length slots
length-written_slots first [] = refl
length-written_slots first (slot ∷ slots) = ap suc (length-written_slots (suc first) slots)

-- each of them
pub written_slots_at : (first : ℕ) (slots : List (Option Style)) (k : ℕ) (d : List ℕ) → k < length slots →
    slice_index_or (written_slots first slots) k d ≡ written_slot (first + k) (slice_index_or slots k None)
written_slots_at first [] k d h = absurd (omega arith)
written_slots_at first (slot ∷ slots) zero d h = let e : first ≡ first + 0 = omega arith in
    ap (λ n. written_slot n slot) e
written_slots_at first (slot ∷ slots) (suc k) d h =
    let e : suc first + k ≡ first + suc k = omega arith in
    written_slots_at (suc first) slots k d (omega arith) ∙ ap (λ n. written_slot n (slice_index_or slots k None)) e
