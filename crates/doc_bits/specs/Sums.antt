-- Lists of sums with room for more, and the code by which a proof tells them apart.
use Rattle.std.specs.Prelude.{ℕ, List, refl}
use Rattle.std.specs.Coded.{Coded, code_by, coded×, coded_ℕ, coded_list}

-- sums, and how many more there is room for
pub record SumList : Type 0 where
  pub sums : List ℕ
  pub spare : ℕ

abbrev pub sum_list_code : Coded SumList
sum_list_code =
    code_by (List ℕ × ℕ)
    (coded× (coded_list coded_ℕ) coded_ℕ)
    (λ s. (s.sums, s.spare))
    (λ p. record { sums = p.0; spare = p.1 })
    (λ _. refl)
