-- Classes of codes.
use Rattle.std.proofs.Common.{◌≡◌, ℕ, ◌/◌, ◌%◌, ◌≤◌, ◌==◌, true, false, refl, arith}
use Rattle.std.proofs.lemmas.Bool.{eqb-true}
use Rattle.sprm_table.specs.declared.codes.Class.TheVariants.{Plain}
use Rattle.sprm_table.specs.Codes.{class_of}

-- two numbers that are not one
pub apart : (a b : ℕ) → ¬ (a ≡ b) → (a == b) ≡ false
apart a b h = elim (a == b) as (λ r. (a == b) ≡ r → r ≡ false) [
  | true ↦ λ e. absurd (h (eqb-true a b e))
  | false ↦ λ e. refl
] refl

-- a code above the toggles whose bit 9 is 0 is no other than plain
pub plain_code : (code : ℕ) → 0x0859 ≤ code → code / 512 % 2 ≡ 0 → Plain ≡ class_of code
plain_code code above bit = rw (
  apart code 0x2A33 (λ e. omega arith),
  apart code 0x4600 (λ e. omega arith),
  apart code 0x0835 (λ e. omega arith),
  apart code 0x0836 (λ e. omega arith),
  apart code 0x0837 (λ e. omega arith),
  apart code 0x0838 (λ e. omega arith),
  apart code 0x0839 (λ e. omega arith),
  apart code 0x083A (λ e. omega arith),
  apart code 0x083B (λ e. omega arith),
  apart code 0x083C (λ e. omega arith),
  apart code 0x0854 (λ e. omega arith),
  apart code 0x0858 (λ e. omega arith),
  apart code 0x4610 (λ e. omega arith),
  apart code 0xC615 (λ e. omega arith),
  apart code 0xCA47 (λ e. omega arith),
  apart code 0x6645 (λ e. omega arith),
  apart code 0x6646 (λ e. omega arith),
  apart code 0x0800 (λ e. omega arith),
  apart code 0x0801 (λ e. omega arith),
  apart code 0xCA57 (λ e. omega arith),
  apart code 0xC63F (λ e. omega arith),
) refl
