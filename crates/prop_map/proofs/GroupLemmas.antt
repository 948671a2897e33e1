-- The groups that places hold.
use Rattle.std.proofs.Common.{◌≡◌, ℕ, zero, suc, ◌/◌, ◌%◌, ◌^◌, ◌<◌, ◌==◌, true, false, refl, arith}
use Rattle.sprm_table.specs.Codes.{sgc, is_held}
use Rattle.prop_map.specs.Formed.{character_groups, paragraph_groups}

-- what holds at each group holds at the group of a code
each_group : (P : ℕ → Type 0) → P 0 → P 1 → P 2 → P 3 → P 4 → P 5 → P 6 → P 7 → (group : ℕ) → group < 8 → P group
each_group P a b c d e f g h zero lt = a
each_group P a b c d e f g h (suc zero) lt = b
each_group P a b c d e f g h (suc (suc zero)) lt = c
each_group P a b c d e f g h (suc (suc (suc zero))) lt = d
each_group P a b c d e f g h (suc (suc (suc (suc zero)))) lt = e
each_group P a b c d e f g h (suc (suc (suc (suc (suc zero))))) lt = f
each_group P a b c d e f g h (suc (suc (suc (suc (suc (suc zero)))))) lt = g
each_group P a b c d e f g h (suc (suc (suc (suc (suc (suc (suc zero))))))) lt = h
each_group P a b c d e f g h (suc (suc (suc (suc (suc (suc (suc (suc n)))))))) lt = absurd (omega arith)

sgc-bound : (code : ℕ) → sgc code < 8
sgc-bound code = omega arith

-- a code of a character is none of a mark
pub character_apart : (code : ℕ) → is_held character_groups code ≡ true → is_held paragraph_groups code ≡ false
character_apart code =
    each_group (λ g. (character_groups / 2 ^ g % 2 == 1) ≡ true → (paragraph_groups / 2 ^ g % 2 == 1) ≡ false)
    (λ h. refl) (λ h. cc) (λ h. refl) (λ h. refl) (λ h. refl) (λ h. cc) (λ h. refl) (λ h. refl) (sgc code)
    (sgc-bound code)

-- a code of a mark is none of a character
pub paragraph_apart : (code : ℕ) → is_held paragraph_groups code ≡ true → is_held character_groups code ≡ false
paragraph_apart code =
    each_group (λ g. (paragraph_groups / 2 ^ g % 2 == 1) ≡ true → (character_groups / 2 ^ g % 2 == 1) ≡ false)
    (λ h. refl) (λ h. refl) (λ h. cc) (λ h. refl) (λ h. refl) (λ h. refl) (λ h. refl) (λ h. refl) (sgc code)
    (sgc-bound code)
