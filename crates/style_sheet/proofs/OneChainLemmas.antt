-- A style has one chain at most: each of its styles is one of the bases that follow each other from the style on.
use Rattle.std.proofs.Common.{◌≡◌, inl, inr, ℕ, zero, suc, ◌+◌, ◌-◌, ◌<◌, ◌≤◌, List, length, slice_index, Some, None}
use Rattle.std.proofs.Common.{refl, sym, ◌∙◌, ap, arith}
use Rattle.std.proofs.lemmas.Bool.{cases_lt}
use Rattle.std.proofs.lemmas.List.{ext_get_or, get_or_past}
use Rattle.doc_bits.proofs.Public.{length_below}
use Rattle.style_sheet.specs.Sheet.{Sheet}
use Rattle.style_sheet.specs.Chain.{style_kind_at, style_kind_in, base_at, IsBaseChain, HasSoundBase, HasSoundBases}
use Rattle.style_sheet.specs.Chain.{BreaksBases}
use Rattle.style_sheet.specs.Chain.{BaseChainIsOne}
use Rattle.style_sheet.proofs.ChainLemmas.{up, IsClimbed, up_more}

-- the chain's styles from its end on
pub chain_at : (sheet : Sheet) (istd : ℕ) (chain : List ℕ) (n : ℕ) → IsBaseChain sheet istd chain → n < length chain →
    slice_index chain (length chain - 1 - n) ≡ up sheet istd n
chain_at sheet istd chain zero c h = let e : length chain - 1 - 0 ≡ length chain - 1 = omega arith in rw e c.last
chain_at sheet istd chain (suc n) c h =
    let i = length chain - 1 - suc n in
    let e : length chain - 1 - n ≡ i + 1 = omega arith in
    let here : slice_index chain (i + 1) ≡ up sheet istd n = sym (ap (slice_index chain) e) ∙ chain_at sheet istd
    chain n c (omega arith) in
    sym (up_more sheet istd n (slice_index chain (i + 1)) (slice_index chain i) here (c.links i (omega arith)))

-- the base of each but the root is the next one up
pub chain_link : (sheet : Sheet) (istd : ℕ) (chain : List ℕ) (n : ℕ) → IsBaseChain sheet istd chain →
    n + 1 < length chain → base_at sheet (up sheet istd n) ≡ Some (up sheet istd (suc n))
chain_link sheet istd chain n c h =
    let i = length chain - 1 - suc n in
    let e : length chain - 1 - n ≡ i + 1 = omega arith in
    let here : slice_index chain (i + 1) ≡ up sheet istd n = sym (ap (slice_index chain) e) ∙ chain_at sheet istd
    chain n c (omega arith) in
    sym (ap (base_at sheet) here) ∙ (c.links i (omega arith) ∙ ap Some (chain_at sheet istd chain (suc n) c
    (omega arith)))

pub chain_root : (sheet : Sheet) (istd : ℕ) (chain : List ℕ) → IsBaseChain sheet istd chain →
    base_at sheet (up sheet istd (length chain - 1)) ≡ None
chain_root sheet istd chain c =
    let some = c.some in
    let e : length chain - 1 - (length chain - 1) ≡ 0 = omega arith in
    ap (base_at sheet) (sym (chain_at sheet istd chain (length chain - 1) c (omega arith)) ∙ ap (slice_index chain) e)
    ∙ c.root

pub chain_kind : (sheet : Sheet) (istd : ℕ) (chain : List ℕ) (n : ℕ) → IsBaseChain sheet istd chain →
    n < length chain → style_kind_at sheet (up sheet istd n) ≡ style_kind_at sheet istd
chain_kind sheet istd chain n c h =
    ap (style_kind_at sheet) (sym (chain_at sheet istd chain n c h)) ∙ (c.kind (length chain - 1 - n) (omega
    arith)).same

-- a chain is longer than the bases that follow each other
pub climbed_below : (sheet : Sheet) (istd n at : ℕ) (chain : List ℕ) → IsClimbed sheet istd n at → IsBaseChain sheet
    istd chain → n < length chain
climbed_below sheet istd n at chain climbed c = elim (cases_lt n (length chain)) [
  | inl h ↦ h
  | inr h ↦
      let some = c.some in
      absurd (cc (sym (climbed.links (length chain - 1) (omega arith)) ∙ chain_root sheet istd chain c))
]

-- where the last of them has a base too, so is the chain
pub climbed_next : (sheet : Sheet) (istd n at base : ℕ) (chain : List ℕ) → IsClimbed sheet istd n at →
    base_at sheet at ≡ Some base → IsBaseChain sheet istd chain → n + 1 < length chain
climbed_next sheet istd n at base chain climbed e c = elim (cases_lt (n + 1) (length chain)) [
  | inl h ↦ h
  | inr h ↦
      let below = climbed_below sheet istd n at chain climbed c in
      let last : length chain - 1 ≡ n = omega arith in
      absurd (cc (sym e ∙ (ap (base_at sheet) climbed.here ∙ (ap (λ k. base_at sheet (up sheet istd k)) (sym last) ∙
      chain_root sheet istd chain c))))
]

-- that base is of the style's kind
pub next_kind : (sheet : Sheet) (istd n at base : ℕ) (chain : List ℕ) → IsClimbed sheet istd n at → base_at sheet at ≡
    Some base → IsBaseChain sheet istd chain → style_kind_at sheet base ≡ style_kind_at sheet istd
next_kind sheet istd n at base chain climbed e c =
    let next = climbed_next sheet istd n at base chain climbed e c in
    ap (style_kind_at sheet) (sym (up_more sheet istd n at base climbed.here e)) ∙ chain_kind sheet istd chain (suc n) c
    (omega arith)

-- a style of a kind with properties is there
pub there : (sheet : Sheet) (istd : ℕ) → 0 < style_kind_at sheet istd → istd < length sheet.styles
there sheet istd h = elim (cases_lt istd (length sheet.styles)) [
  | inl low ↦ low
  | inr high ↦
      let none : style_kind_at sheet istd ≡ 0 = ap style_kind_in (get_or_past sheet.styles istd None high) in
      absurd (omega arith)
]

-- a chain is no longer than there are slots
pub chain_short : (sheet : Sheet) (istd : ℕ) (chain : List ℕ) → IsBaseChain sheet istd chain → length chain ≤ length
    sheet.styles
chain_short sheet istd chain c =
    length_below chain (length sheet.styles)
    (λ i h.
    let each = c.kind i h in
    let some = each.properties in
    let same = each.same in
    there sheet (slice_index chain i) (omega arith))
    c.once

same_len : (sheet : Sheet) (istd : ℕ) (one other : List ℕ) → IsBaseChain sheet istd one → IsBaseChain sheet istd
    other → length other ≤ length one
same_len sheet istd one other c d = elim (cases_lt (length one) (length other)) [
  | inr h ↦ h
  | inl h ↦
      let some = c.some in
      absurd (cc (sym (chain_link sheet istd other (length one - 1) d (omega arith)) ∙ chain_root sheet istd one c))
]

pub base_chains_agree : BaseChainIsOne
base_chains_agree sheet istd one other c d =
    let a = same_len sheet istd one other c d in
    let b = same_len sheet istd other one d c in
    let len : length one ≡ length other = omega arith in
    ext_get_or 0 one other len (λ i h.
    let n = length one - 1 - i in
    let x : length one - 1 - n ≡ i = omega arith in
    let y : length other - 1 - n ≡ i = omega arith in
    sym (ap (slice_index one) x) ∙ (chain_at sheet istd one n c (omega arith) ∙ (sym (chain_at sheet istd other n d
    (omega arith)) ∙ ap (slice_index other) y)))

-- a style that meets the rule of bases does not break it
pub sound_unbroken : (sheet : Sheet) (istd : ℕ) → HasSoundBase sheet istd → ¬ BreaksBases sheet istd
sound_unbroken sheet istd h = λ b. elim b [
  | inl w ↦ w.1 (h.normal w.0)
  | inr n ↦ let found = h.chain n.properties in n.none found.0 found.1
]

-- a sheet whose styles meet it up to the last slot
pub sound_all : (sheet : Sheet) → 0 < length sheet.styles → ((k : ℕ) → k < length sheet.styles → HasSoundBase sheet
    k) → HasSoundBases sheet
sound_all sheet some all = record {
  normal = (all 0 some).normal refl;
  chains = λ istd h. (all istd (there sheet istd h)).chain h;
}

-- and then none breaks it
pub sound_nowhere : (sheet : Sheet) → HasSoundBases sheet → (istd : ℕ) → ¬ BreaksBases sheet istd
sound_nowhere sheet h istd = λ b. elim b [
  | inl w ↦ w.1 h.normal
  | inr n ↦ let found = h.chains istd n.properties in n.none found.0 found.1
]

-- a style that breaks it is in the sheet
pub broken_there : (sheet : Sheet) (istd : ℕ) → 0 < length sheet.styles → BreaksBases sheet istd →
    istd < length sheet.styles
broken_there sheet istd some b = elim b [
  | inl w ↦ let e = w.0 in omega arith
  | inr n ↦ there sheet istd n.properties
]
