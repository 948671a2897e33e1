-- A file whose length breaks no rule.
use Rattle.std.proofs.Common.{inl, inr, ℕ, ◌%◌, min, List, length, refl}
use Rattle.std.proofs.lemmas.Bool.{cases_lt, cases_eq}
use Rattle.doc_bits.specs.Rules.{Nowhere}
use Rattle.cfb_sectors.specs.Opening.{BreaksLength, IsWrongFileLength, HasRightLength}

-- where rule 1 holds the length is right
pub whole_length : (file : List ℕ) → Nowhere (BreaksLength file) → HasRightLength file
whole_length file holds =
    let right : ¬ IsWrongFileLength (length file) = λ w. holds (min (length file) 7143937)
    (record { here = refl; wrong = w }) in
    record {
      sectors = elim (cases_eq (length file % 512) 0) [ inl e ↦ e | inr ne ↦ absurd (right (inl ne)) ];
      least = elim (cases_lt (length file) 1536) [ inl lo ↦ absurd (right (inr (inl lo))) | inr hi ↦ hi ];
      most = elim (cases_lt 7143936 (length file)) [ inl lo ↦ absurd (right (inr (inr lo))) | inr hi ↦ hi ];
    }
