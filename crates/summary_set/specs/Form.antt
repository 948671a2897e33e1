-- What a property set is: six conditions in their order, each with the place that is named where it fails.
use Rattle.std.specs.Prelude.{◌≡◌, ◌≢◌, ℕ, ◌+◌, ◌*◌, ◌<◌, ◌≤◌, List, length, ⊤}
use Rattle.doc_bits.specs.Number.{u16_at, u32_at}
use Rattle.doc_bits.specs.Rules.{Rules, rule, ◌then◌, Hold, IsFirstOffset, Among}
use Rattle.summary_set.specs.declared.fault.SetFault.{SetFault}
use Rattle.summary_set.specs.declared.fault.SetFault.TheVariants.{Form, Memory}
use Rattle.summary_set.specs.PropertySet.{first_set_begin, first_set_size, pair_count, pair_place, pair_at}

-- a condition that has one place
abbrev pub Unless : ℕ → Type 0 → ℕ → Type 0
Unless place holds p = (p ≡ place) × ¬ holds

-- the set begins behind the head of the stream, and its size and its count are there
pub record BeginsWithin (b : List ℕ) : Type 0 where
  pub behind_head : 48 ≤ first_set_begin b
  pub numbers : first_set_begin b + 8 ≤ length b

-- the set has its pairs, and the stream has the set
pub record IsSized (b : List ℕ) : Type 0 where
  pub pairs : 8 + 8 * pair_count b ≤ first_set_size b
  pub within : first_set_begin b + first_set_size b ≤ length b

-- a pair names four bytes of the set behind all pairs. Profile: no earlier pair has its id or its offset
pub record IsValidPair (b : List ℕ) (i : ℕ) : Type 0 where
  pub behind_pairs : 8 + 8 * pair_count b ≤ (pair_at b i).offset
  pub within : (pair_at b i).offset + 4 ≤ first_set_size b
  pub new_id : (j : ℕ) → j < i → (pair_at b j).id ≢ (pair_at b i).id
  pub new_offset : (j : ℕ) → j < i → (pair_at b j).offset ≢ (pair_at b i).offset

-- the conditions before those on pairs, as facts
pub record HasHead (b : List ℕ) : Type 0 where
  pub long : 56 ≤ length b
  pub mark : u16_at b 0 ≡ 0xFFFE
  pub one : u32_at b 24 ≡ 1
  pub begins : BeginsWithin b
  pub sized : IsSized b

-- the conditions on the head of the stream and of the set, as rules
abbrev pub head_rules : List ℕ → Rules ℕ
head_rules b =
    rule 1 (Unless (length b) (56 ≤ length b))
    then rule 2 (Unless 0 (u16_at b 0 ≡ 0xFFFE))
    then rule 3 (Unless 24 (u32_at b 24 ≡ 1))
    then rule 4 (Unless 44 (BeginsWithin b))
    then rule 5 (Unless (first_set_begin b) (IsSized b))

-- the condition on each pair
abbrev pub pair_rules : List ℕ → Rules ℕ
pair_rules b = rule 6 (Among (pair_count b) (λ i. Unless (pair_place b i) (IsValidPair b i)))

abbrev pub form_rules : List ℕ → Rules ℕ
form_rules b = head_rules b then pair_rules b

-- the bytes are a stream with one property set
abbrev pub IsPropertySet : List ℕ → Type 0
IsPropertySet b = Hold (form_rules b)

-- the fault has the place of the first condition that fails. Want of memory has no cause
abbrev pub IsFaultOf : Rules ℕ → SetFault → Type 0
IsFaultOf rules (Form at) = (number : ℕ) × IsFirstOffset rules number at
IsFaultOf rules Memory = ⊤

abbrev pub IsSetFault : List ℕ → SetFault → Type 0
IsSetFault b = IsFaultOf (form_rules b)
