-- Places of a file and of a document, and their order.
use Rattle.std.specs.Prelude.{◌≡◌, ℕ, ◌≤◌, Option, MatchOption}
use Rattle.doc_bits.specs.declared.places.Where.{Where}
use Rattle.doc_bits.specs.declared.places.Where.TheVariants.{File, Wd, Table, Sheet, Main, Note, Head}
use Rattle.doc_bits.specs.Rules.{Rules, rule, ◌then◌, given, Nowhere, IsLeast, FirstBy}

-- what the offset counts in, and the offset
abbrev pub Place : Type 0
Place = Where × ℕ

-- which of the seven kinds of place it is, in the order in which they are written
abbrev pub rank : Where → ℕ
rank File = 0
rank Wd = 1
rank Table = 2
rank Sheet = 3
rank Main = 4
rank (Note _) = 5
rank (Head _) = 6

-- the number of the note or the header text
abbrev pub inner : Where → ℕ
inner File = 0
inner Wd = 0
inner Table = 0
inner Sheet = 0
inner Main = 0
inner (Note k) = k
inner (Head k) = k

-- a place is the other or comes before it
pub record Upto (a b : Place) : Type 0 where
  pub part : rank a.0 ≤ rank b.0
  pub number : rank a.0 ≡ rank b.0 → inner a.0 ≤ inner b.0
  pub offset : rank a.0 ≡ rank b.0 → inner a.0 ≡ inner b.0 → a.1 ≤ b.1

-- the first broken rule of a file or a document
abbrev pub IsFirstPlace : Rules Place → ℕ → Place → Type 0
IsFirstPlace = FirstBy Upto

-- the least place at which something is broken, or nothing where it holds everywhere
abbrev pub LeastPlaceOrNone : (Place → Type 0) → Option Place → Type 0
LeastPlaceOrNone breaks found = MatchOption found (Nowhere breaks) (IsLeast Upto breaks)

-- a layer's rules, with the part named that its offsets count in
abbrev pub rules_in : Where → Rules ℕ → Rules Place
rules_in part (rule number breaks) = rule number (λ p. (p.0 ≡ part) × breaks p.1)
rules_in part (first then next) = rules_in part first then rules_in part next
rules_in part (given is rules) = given is (λ x. rules_in part (rules x))
