-- A Sepx that two streams have alike.
use Rattle.std.specs.Prelude.{slice_range, IsTrue, Bool}
use Rattle.std.proofs.Common.{◌≡◌, ◌∙◌, ◌↔◌, ◌+◌, ◌≤◌, sym, ap, ℕ, List, length}
use Rattle.doc_bits.specs.Number.{u16_at}
use Rattle.file_rules.specs.SectionRules.{sepx_list}
use Rattle.doc_meaning.specs.Skipped.{KeepsSepx}

pub sepx_same : (old new : List ℕ) (fc count : ℕ) (a b : List ℕ) (same : Bool) → u16_at new fc ≡ count →
    u16_at old fc ≡ count → a ≡ slice_range new (fc + 2) (fc + 2 + count) →
    b ≡ slice_range old (fc + 2) (fc + 2 + count) → (IsTrue same ↔ (a ≡ b)) → 1024 ≤ fc → fc + 2 ≤ length old →
    (IsTrue same ↔ KeepsSepx old new fc)
sepx_same old new fc count a b same new_count old_count a_is b_is answer after within =
    let one : sepx_list new fc ≡ a = ap (λ n. slice_range new (fc + 2) (fc + 2 + n)) new_count ∙ sym a_is in
    let two : sepx_list old fc ≡ b = ap (λ n. slice_range old (fc + 2) (fc + 2 + n)) old_count ∙ sym b_is in (
      λ t. λ low inside. (new_count ∙ sym old_count, one ∙ (answer.0 t ∙ sym two)),
      λ keeps. answer.1 (sym one ∙ ((keeps after within).1 ∙ two)),
    )
