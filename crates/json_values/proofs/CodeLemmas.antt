-- Four digits ascend as the codes do that they are written for.
use Rattle.std.proofs.Common.{◌≡◌, ◌⊎◌, inl, inr, ℕ, ◌/◌, ◌%◌, ◌<◌, ◌≤◌, List, [], ◌++◌}
use Rattle.std.proofs.Common.{sym, ap, ◌∙◌, arith}
use Rattle.std.specs.Ordering.{nat_cmp, ordering_then}
use Rattle.std.specs.declared.cmp.Ordering.{Ordering}
use Rattle.std.specs.Cmp.Lexicographic.{slice_cmp}
use Rattle.std.specs.declared.cmp.Ordering.TheVariants.{Less}
use Rattle.std.proofs.lemmas.Bool.{cases_lt}
use Rattle.text_codes.specs.Shown.{hex_digit}
use Rattle.prop_map.proofs.Public.{cmp_less, cmp_equal}
use Rattle.text_codes.specs.Digits.{byte_text, word_text}
use Rattle.json_values.proofs.HexLemmas.{hex_small, hex_large}

-- ---- a digit

hex_less_by : (m n : ℕ) → m < n → (m < 10) ⊎ (10 ≤ m) → (n < 10) ⊎ (10 ≤ n) → hex_digit m < hex_digit n
hex_less_by m n less (inl p) (inl q) = omega (arith, hex_small m p, hex_small n q, less)
hex_less_by m n less (inl p) (inr q) = omega (arith, hex_small m p, hex_large n q, p, q)
hex_less_by m n less (inr p) (inl q) = absurd (omega (arith, less, p, q))
hex_less_by m n less (inr p) (inr q) = omega (arith, hex_large m p, hex_large n q, less, p, q)

hex_less : (m n : ℕ) → m < n → hex_digit m < hex_digit n
hex_less m n less = hex_less_by m n less (cases_lt m 10) (cases_lt n 10)

-- the first is less, or both are the same and the rest decides
abbrev Decides : ℕ → ℕ → Ordering → Type 0
Decides m n rest = (m < n) ⊎ ((m ≡ n) × (rest ≡ Less))

digit_step : (m n : ℕ) (rest : Ordering) → Decides m n rest →
    ordering_then (nat_cmp (hex_digit m) (hex_digit n)) rest ≡ Less
digit_step m n rest (inl less) =
    ap (λ o. ordering_then o rest) (cmp_less (hex_digit m) (hex_digit n) (hex_less m n less))
digit_step m n rest (inr same) =
    ap (λ d. ordering_then (nat_cmp (hex_digit m) (hex_digit d)) rest) (sym same.0)
    ∙ ap (λ o. ordering_then o rest) (cmp_equal (hex_digit m)) ∙ same.1

-- ---- a byte and a code

upper_decides : (a b : ℕ) (rest : Ordering) → (a / 16 < b / 16) ⊎ (b / 16 ≤ a / 16) → a < b →
    (b / 16 ≤ a / 16 → a % 16 < b % 16 → rest ≡ Less) → Decides (a / 16) (b / 16) rest
upper_decides a b rest (inl less) h next = inl less
upper_decides a b rest (inr more) h next = inr (omega (arith, more, h), next more (omega (arith, more, h)))

-- the digits of two bytes and what is behind them
byte_step : (a b : ℕ) (xs ys : List ℕ) → Decides a b (slice_cmp nat_cmp xs ys) →
    slice_cmp nat_cmp (byte_text a ++ xs) (byte_text b ++ ys) ≡ Less
byte_step a b xs ys (inl less) =
    let rest = slice_cmp nat_cmp xs ys in
    let lower = ordering_then (nat_cmp (hex_digit (a % 16)) (hex_digit (b % 16))) rest in
    digit_step (a / 16) (b / 16) lower (upper_decides a b lower (cases_lt (a / 16) (b / 16)) less
    (λ more l. digit_step (a % 16) (b % 16) rest (inl l)))
byte_step a b xs ys (inr same) =
    let rest = slice_cmp nat_cmp xs ys in
    let lower = ordering_then (nat_cmp (hex_digit (a % 16)) (hex_digit (b % 16))) rest in
    digit_step (a / 16) (b / 16) lower (inr (
      ap (λ n. n / 16) same.0,
      digit_step (a % 16) (b % 16) rest (inr (ap (λ n. n % 16) same.0, same.1)),
    ))

word_decides : (a b : ℕ) → a < b → (a / 256 < b / 256) ⊎ (b / 256 ≤ a / 256) →
    Decides (a / 256) (b / 256) (slice_cmp nat_cmp (byte_text (a % 256)) (byte_text (b % 256)))
word_decides a b less (inl upper) = inl upper
word_decides a b less (inr more) =
    inr (omega (arith, more, less), byte_step (a % 256) (b % 256) [] [] (inl (omega (arith, more, less))))

pub word_less : (a b : ℕ) → a < b → slice_cmp nat_cmp (word_text a) (word_text b) ≡ Less
word_less a b less =
    byte_step (a / 256) (b / 256) (byte_text (a % 256)) (byte_text (b % 256)) (word_decides a b less (cases_lt
    (a / 256) (b / 256)))
