-- A style sheet whose parts are not wrong has right parts.
use Rattle.std.proofs.Common.{◌≡◌, ◌⊎◌, inl, inr, ℕ, ◌+◌, ◌*◌, List, length}
use Rattle.std.proofs.lemmas.Bool.{cases_eq}
use Rattle.doc_bits.specs.Number.{u16_at}
use Rattle.style_sheet.specs.Counted.{counted_bytes, counted_end}
use Rattle.style_sheet.specs.StyleDefinition.{stk, cupx, style_name_len, upxes_start, upx_place, HasName, HasKind}
use Rattle.style_sheet.specs.StyleDefinition.{HasUpxes}
use Rattle.style_sheet.specs.StyleDefinition.{IsStd}
use Rattle.style_sheet.specs.Stsh.{cstd, std_base, HasStshif, IsSlotAt}
use Rattle.doc_bits.proofs.Public.{stable_le, stable_eq}

stable_name : (std : List ℕ) (base : ℕ) → ¬ ¬ (HasName std base) → HasName std base
stable_name std base twice = record {
  count = stable_le (base + 2) (length std) (λ no. twice (λ is. no is.count));
  units = stable_le (upxes_start std base) (length std) (λ no. twice (λ is. no is.units));
  ended = stable_eq (u16_at std (base + 2 + 2 * style_name_len std base)) 0 (λ no. twice (λ is. no is.ended));
}

stable_kind : (std : List ℕ) → ¬ ¬ (HasKind std) → HasKind std
stable_kind std twice = record {
  some = stable_le 1 (stk std) (λ no. twice (λ is. no is.some));
  most = stable_le (stk std) 4 (λ no. twice (λ is. no is.most));
  para = λ e. stable_eq (cupx std) 2 (λ no. twice (λ is. no (is.para e)));
  char = λ e. stable_eq (cupx std) 1 (λ no. twice (λ is. no (is.char e)));
}

stable_upxes : (std : List ℕ) (base : ℕ) → ¬ ¬ (HasUpxes std base) → HasUpxes std base
stable_upxes std base twice = record {
  within = λ k below. stable_le (counted_end std (upx_place std base k)) (length std) (λ no. twice
      (λ is. no (is.within k below)));
  all = stable_le (length std) (upx_place std base (cupx std)) (λ no. twice (λ is. no is.all));
}

stable_std : (std : List ℕ) (base : ℕ) → ¬ ¬ (IsStd std base) → IsStd std base
stable_std std base twice = record {
  name = stable_name std base (λ no. twice (λ is. no is.name));
  kind = stable_kind std (λ no. twice (λ is. no is.kind));
  upxes = stable_upxes std base (λ no. twice (λ is. no is.upxes));
  istd = λ e. stable_le 2 (u16_at std (upx_place std base 0)) (λ no. twice (λ is. no (is.istd e)));
}

pub stable_slot : (part : List ℕ) (base place : ℕ) → ¬ ¬ (IsSlotAt part base place) → IsSlotAt part base place
stable_slot part base place twice = record {
  within = stable_le (counted_end part place) (length part) (λ no. twice (λ is. no is.within));
  style = λ some. stable_std (counted_bytes part place) base (λ no. twice (λ is. no (is.style some)));
}

ten_or_eighteen : (n : ℕ) → ¬ ¬ ((n ≡ 10) ⊎ (n ≡ 18)) → (n ≡ 10) ⊎ (n ≡ 18)
ten_or_eighteen n twice = elim (cases_eq n 10) [
  | inl e ↦ inl e
  | inr other ↦ elim (cases_eq n 18) [
    | inl e ↦ inr e
    | inr third ↦ absurd (twice (λ is. elim is [
      | inl e ↦ other e
      | inr e ↦ third e
    ]))
  ]
]

pub stable_stshif : (part : List ℕ) → ¬ ¬ (HasStshif part) → HasStshif part
stable_stshif part twice = record {
  long = stable_le 20 (length part) (λ no. twice (λ is. no is.long));
  size = stable_le 18 (u16_at part 0) (λ no. twice (λ is. no is.size));
  some = stable_le 1 (cstd part) (λ no. twice (λ is. no is.some));
  few = stable_le (cstd part) 4094 (λ no. twice (λ is. no is.few));
  base = ten_or_eighteen (std_base part) (λ no. twice (λ is. no is.base));
}
