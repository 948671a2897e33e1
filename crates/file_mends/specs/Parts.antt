-- [MS-DOC] The parts of the table stream that a document goes without, and which of them a rule speaks of: PlcfFldMom,
-- PlcfFldFtn, PlcfFldHdr (52), PlcfHdd (54), PlfLst (56) and SttbfBkmk (57), by the numbers of their pairs.
use Rattle.std.specs.Prelude.{◌≡◌, ◌⊎◌, ℕ, ◌+◌, ◌<◌, ◌≤◌, ◌==◌, List, if◌then◌else◌}
use Rattle.fib_form.specs.Fib.{fib_pair}

-- an offset of the table stream is one of the part of pair n
pub record StandsIn (wd : List ℕ) (n offset : ℕ) : Type 0 where
  pub from : (fib_pair wd n).0 ≤ offset
  pub to : offset < (fib_pair wd n).0 + (fib_pair wd n).1

-- the first of the three tables of fields in which it is
pub record IsInNotes (wd : List ℕ) (offset : ℕ) : Type 0 where
  pub no_main : ¬ StandsIn wd 16 offset
  pub here : StandsIn wd 18 offset

pub record IsInHeads (wd : List ℕ) (offset : ℕ) : Type 0 where
  pub no_main : ¬ StandsIn wd 16 offset
  pub no_notes : ¬ StandsIn wd 18 offset
  pub here : StandsIn wd 17 offset

abbrev pub IsFieldPart : List ℕ → ℕ → ℕ → Type 0
IsFieldPart wd offset n =
    ((n ≡ 16) × StandsIn wd 16 offset)
    ⊎ (((n ≡ 18) × IsInNotes wd offset) ⊎ ((n ≡ 17) × IsInHeads wd offset))

-- pair n is that of the part whose own rule is broken at an offset
abbrev pub IsPartOfRule : List ℕ → ℕ → ℕ → ℕ → Type 0
IsPartOfRule wd rule offset n =
    ((rule ≡ 52) × IsFieldPart wd offset n)
    ⊎ (((rule ≡ 54) × (n ≡ 11)) ⊎ (((rule ≡ 56) × (n ≡ 73)) ⊎ ((rule ≡ 57) × (n ≡ 21))))

-- how many pairs are emptied from pair n on: with SttbfBkmk go PlcfBkf and PlcfBkl, and with PlfLst goes PlfLfo
abbrev pub emptied_pairs : ℕ → ℕ
emptied_pairs n = if n == 21 then 3 else if n == 73 then 2 else 1
