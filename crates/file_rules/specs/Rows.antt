-- Rules on the entries of a table.
use Rattle.std.specs.Prelude.{◌≡◌, ℕ}
use Rattle.doc_bits.specs.Rules.{Among}

-- entry k is wrong, and this is its place
pub record IsWrongRow (place_of : ℕ → ℕ) (is_wrong : ℕ → Type 0) (k place : ℕ) : Type 0 where
  pub here : place ≡ place_of k
  pub broken : is_wrong k

-- one of the first n entries is wrong
abbrev pub HasWrongRow : ℕ → (ℕ → ℕ) → (ℕ → Type 0) → ℕ → Type 0
HasWrongRow n place_of is_wrong = Among n (IsWrongRow place_of is_wrong)
