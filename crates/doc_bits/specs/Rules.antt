-- The first broken rule at its least place. Rules are a list in their order; a row is a rule's number and the places
-- where it is broken. Both words, `Hold` and `FirstBy`, are computed from the one list.
use Rattle.std.specs.Prelude.{◌≡◌, ◌⊎◌, ℕ, ◌+◌, ◌<◌, ◌≤◌, min, Option, Some, None, MatchOption, ⊤}

infixr 4 ◌then◌
-- rules over the places P, in their order
pub data Rules (P : Type 0) : Type 1 where
  -- one rule: its number, and where it is broken
  rule : ℕ → (P → Type 0) → Rules P
  -- the rules of the first list, and then those of the second
  ◌then◌ : Rules P → Rules P → Rules P
  -- rules that speak of an object, which is there where the rules before hold
  given : {A : Type 0} → (A → Type 0) → (A → Rules P) → Rules P

-- there is no such place
abbrev pub Nowhere : {P : Type 0} → (P → Type 0) → Type 0
Nowhere {P = P} breaks = (p : P) → ¬ (breaks p)

-- it is broken at this place, and at none before it
pub record IsLeast {P : Type 0} (upto : P → P → Type 0) (breaks : P → Type 0) (place : P) : Type 0 where
  pub broken : breaks place
  pub least : (p : P) → breaks p → upto place p

-- no rule is broken
abbrev pub Hold : {P : Type 0} → Rules P → Type 0
Hold (rule number breaks) = Nowhere breaks
Hold (first then next) = Hold first × Hold next
Hold (given {A = A} is rules) = (x : A) × (is x × Hold (rules x))

-- this rule is the first that is broken, and this is its least place
abbrev pub FirstBy : {P : Type 0} → (P → P → Type 0) → Rules P → ℕ → P → Type 0
FirstBy upto (rule number breaks) r p = (r ≡ number) × IsLeast upto breaks p
FirstBy upto (first then next) r p = FirstBy upto first r p ⊎ (Hold first × FirstBy upto next r p)
FirstBy upto (given {A = A} is rules) r p = (x : A) × (is x × FirstBy upto (rules x) r p)

-- the same in a layer, where places are offsets
abbrev pub IsFirstOffset : Rules ℕ → ℕ → ℕ → Type 0
IsFirstOffset = FirstBy (λ a b. a ≤ b)

-- what a function that checks one rule answers: its least place, or nothing where it holds
abbrev pub LeastOrNone : (ℕ → Type 0) → Option ℕ → Type 0
LeastOrNone breaks found = MatchOption found (Nowhere breaks) (IsLeast (λ a b. a ≤ b) breaks)

-- one of the first n entries breaks the rule at this place
pub record Among {P : Type 0} (n : ℕ) (each : ℕ → P → Type 0) (place : P) : Type 0 where
  pub entry : ℕ
  pub below : entry < n
  pub broken : each entry place

-- a rule of a list that is within a part, from `base` on
pub record From (base : ℕ) (breaks : ℕ → Type 0) (place : ℕ) : Type 0 where
  pub offset : ℕ
  pub here : place ≡ base + offset
  pub broken : breaks offset

-- the lesser of two offsets, where they are there
abbrev pub lesser_of : Option ℕ → Option ℕ → Option ℕ
lesser_of None b = b
lesser_of (Some a) None = Some a
lesser_of (Some a) (Some b) = Some (min a b)

-- each object that rules speak of is the only one of its kind
abbrev pub IsSingle : {P : Type 0} → Rules P → Type 0
IsSingle (rule number breaks) = ⊤
IsSingle (first then next) = IsSingle first × IsSingle next
IsSingle (given {A = A} is rules) = ((x y : A) → is x → is y → x ≡ y) × ((x : A) → is x → IsSingle (rules x))

-- the rule is broken at the place, whatever lower rules are
abbrev pub Breaks : {P : Type 0} → Rules P → ℕ → P → Type 0
Breaks (rule number breaks) r p = (r ≡ number) × breaks p
Breaks (first then next) r p = Breaks first r p ⊎ Breaks next r p
Breaks (given {A = A} is rules) r p = (x : A) × (is x × Breaks (rules x) r p)

-- the numbers ascend, from low to before high
abbrev pub Ascends : {P : Type 0} → Rules P → ℕ → ℕ → Type 0
Ascends (rule number breaks) low high = (low ≤ number) × (number < high)
Ascends (first then next) low high = (middle : ℕ) × (Ascends first low middle × ((low ≤ middle) × (middle ≤ high) ×
    Ascends next middle high))
Ascends (given {A = A} is rules) low high = (low ≤ high) × ((x : A) → is x → Ascends (rules x) low high)

-- the least broken rule, at its least place
pub record IsLeastOfAll {P : Type 0} (upto : P → P → Type 0) (breaks : ℕ → P → Type 0) (r : ℕ) (place : P) : Type 0
  where
    pub broken : breaks r place
    pub least : (s : ℕ) (q : P) → breaks s q → (r < s) ⊎ ((r ≡ s) × upto place q)
