-- Lists that grow.
use Rattle.std.proofs.Common.{◌≡◌, ◌∙◌, refl, sym, inl, inr, ℕ, ◌+◌, List, length, arith}
use Rattle.std.proofs.lemmas.Bool.{cases_lt}
use Rattle.std.proofs.lemmas.Option.{slice_get_within}
use Rattle.doc_read.specs.Passing.{AddsEach}

-- no entry more
pub adds_none : {A : Type 0} (P : ℕ → A → Type 0) (old : List A) → AddsEach P 0 old old
adds_none P old = record {
  len = omega arith;
  kept = λ k lower. refl;
  each = λ k entry upper here. absurd (omega (arith, upper, slice_get_within old k entry here));
}

-- more entries behind those that came
pub adds_more : {A : Type 0} (P : ℕ → A → Type 0) (a b c : ℕ) (old mid new : List A) → AddsEach P a old mid →
    AddsEach P b mid new → c ≡ a + b → AddsEach P c old new
adds_more P a b c old mid new one two c_is = record {
  len = omega (arith, one.len, two.len, c_is);
  kept = λ k lower. two.kept k (omega (arith, lower, one.len)) ∙ one.kept k lower;
  each = λ k entry upper here.
      elim (cases_lt k (length mid)) [
        | inl low ↦ one.each k entry upper (sym (two.kept k low) ∙ here)
        | inr high ↦ two.each k entry (omega (arith, high)) here
      ];
}
