-- The sheet of a joined document: its bases, its properties and its STDs.
use Rattle.std.proofs.Common.{◌≡◌, ◌∙◌, inl, inr, refl, sym, ap, subst, ℕ, ◌+◌, ◌-◌, ◌<◌, ◌≤◌, List, length, map}
use Rattle.std.proofs.Common.{Option, Some, None, arith, flat_map}
use Rattle.std.specs.Option.{ForSome}
use Rattle.std.proofs.lemmas.Bool.{cases_lt}
use Rattle.std.proofs.lemmas.List.{get_or_past}
use Rattle.std.proofs.lemmas.Option.{same_Some, none-some}
use Rattle.style_sheet.specs.declared.styles.Style.{Style}
use Rattle.style_sheet.specs.declared.styles.Kind.{Kind}
use Rattle.style_sheet.specs.declared.styles.Kind.TheVariants.{Para, Char, Other}
use Rattle.style_sheet.specs.Sheet.{Sheet, style_at}
use Rattle.style_sheet.specs.Formed.{IsFormedKind, IsFormedSlot, IsFormedSheet}
use Rattle.style_sheet.specs.Chain.{style_kind_at, IsBaseChain, HasSoundBases}
use Rattle.prop_map.specs.Printing.{printed_list}
use Rattle.style_sheet.specs.Counted.{even_up, written_counted}
use Rattle.style_sheet.specs.Written.{written_upxes, written_style, written_slot, IsWritable}
use Rattle.style_sheet.proofs.Public.{there, para_len, char_len, rest_len, style_len}
use Rattle.plain_doc.specs.RulesOfSheet.{HasShortKind, HasShortStyle}
use Rattle.doc_join.specs.declared.renumbering.Renumbering.{Renumbering}
use Rattle.doc_join.specs.Numbers.{numbers_of_first, numbers_of_second}
use Rattle.doc_join.specs.Styles.{renumbered_kind, style_from_first, style_from_second, slot_from_first}
use Rattle.doc_join.specs.Styles.{slot_from_second}
use Rattle.doc_join.specs.Styles.{joined_sheet}
use Rattle.doc_join.proofs.SettingLemmas.{renumbered_length}
use Rattle.doc_join.proofs.PartLemmas.{first_part, second_part, first_at, second_at, chain_moved, length-joined}

-- ---- where a style is

-- a number of the joined sheet is one of the first, one of the second, or beyond
by_sheet : (first second : Sheet) (P : ℕ → Type 0) →
    ((istd : ℕ) → istd < length first.styles → P (istd + 0)) →
    ((istd : ℕ) → istd < length second.styles → P (istd + length first.styles)) →
    ((istd : ℕ) → length (joined_sheet first second).styles ≤ istd → P istd) → (istd : ℕ) → P istd
by_sheet first second P one other beyond istd =
    let k = length first.styles in
    elim (cases_lt istd k) [
      | inl low ↦ let here : istd + 0 ≡ istd = omega arith in subst P here (one istd low)
      | inr high ↦ elim (cases_lt istd (k + length second.styles)) [
        | inl within ↦
            let here : istd - k + k ≡ istd = omega (arith, high) in
            subst P here (other (istd - k) (omega (arith, high, within)))
        | inr past ↦ beyond istd (omega (arith, past, length-joined first second))
      ]
    ]

-- ---- bases

chain_of : (sheet : Sheet) (istd other : ℕ) → istd ≡ other → (chain : List ℕ) × IsBaseChain sheet istd chain →
    (chain : List ℕ) × IsBaseChain sheet other chain
chain_of sheet istd other same found = subst (λ n. (chain : List ℕ) × IsBaseChain sheet n chain) same found

pub joined_bases : (first second : Sheet) → length first.styles + length second.styles ≤ 4094 →
    HasSoundBases first → HasSoundBases second → HasSoundBases (joined_sheet first second)
joined_bases first second few one other =
    let joined = joined_sheet first second in
    let first_maps = numbers_of_first first in
    let second_maps = numbers_of_second first second in
    let part = first_part first second few in
    let next = second_part first second few in
    let normal = one.normal in
    let root : 0 < length first.styles = there first 0 (omega (arith, normal)) in
    record {
      normal = part.kinds 0 root ∙ normal;
      chains =
          by_sheet first second (λ istd. 0 < style_kind_at joined istd → (chain : List ℕ) × IsBaseChain joined istd
          chain)
          (λ istd within some.
          let found = one.chains istd (omega (arith, some, part.kinds istd within)) in
          (map (λ n. n + 0) found.0, chain_moved first_maps first joined istd found.0 part found.1))
          (λ istd within some.
          let found = other.chains istd (omega (arith, some, next.kinds istd within)) in (
            map (λ n. n + length first.styles) found.0,
            chain_moved second_maps second joined istd found.0 next found.1,
          ))
          (λ istd past some. let low = there joined istd some in absurd (omega (arith, low, past)));
    }

-- ---- properties that are short

kind_short : (numbers : Renumbering) (kind : Kind) → IsFormedKind kind → HasShortKind kind →
    HasShortKind (renumbered_kind numbers kind)
kind_short numbers (Para pap chp) formed short =
    (short.0, let few = short.1 in omega (arith, few, renumbered_length numbers chp formed.1))
kind_short numbers (Char chp) formed short = omega (arith, short, renumbered_length numbers chp formed)
kind_short numbers (Other stk upxes) formed short = short

abbrev IsShort : Option Style → Type 0
IsShort slot = ForSome slot (λ style. HasShortKind style.kind)

first_short : (numbers : Renumbering) (slot : Option Style) → IsFormedSlot slot → IsShort slot →
    IsShort (slot_from_first numbers slot)
first_short numbers None formed short made is = absurd (none-some made is)
first_short numbers (Some style) formed short made is =
    subst (λ (s : Style). HasShortKind s.kind) (same_Some _ made is)
    (kind_short numbers style.kind formed.kind (short style refl))

second_short : (numbers : Renumbering) (istd : ℕ) (slot : Option Style) → IsFormedSlot slot → IsShort slot →
    IsShort (slot_from_second numbers istd slot)
second_short numbers istd None formed short made is = absurd (none-some made is)
second_short numbers istd (Some style) formed short made is =
    subst (λ (s : Style). HasShortKind s.kind) (same_Some _ made is)
    (kind_short numbers style.kind formed.kind (short style refl))

beyond_short : (sheet : Sheet) (istd : ℕ) → length sheet.styles ≤ istd → HasShortStyle sheet istd
beyond_short sheet istd past style is =
    absurd (none-some style (sym (get_or_past sheet.styles istd None past) ∙ is))

pub joined_short : (first second : Sheet) → IsFormedSheet first → IsFormedSheet second →
    ((istd : ℕ) → HasShortStyle first istd) → ((istd : ℕ) → HasShortStyle second istd) →
    (istd : ℕ) → HasShortStyle (joined_sheet first second) istd
joined_short first second formed next_formed one other =
    let first_maps = numbers_of_first first in
    let second_maps = numbers_of_second first second in
    by_sheet first second (HasShortStyle (joined_sheet first second))
    (λ istd within.
    subst IsShort (sym (first_at first second istd within))
    (first_short first_maps (style_at first istd) (formed.styles istd None within) (one istd)))
    (λ istd within.
    subst IsShort (sym (second_at first second istd within))
    (second_short second_maps istd (style_at second istd) (next_formed.styles istd None within) (other istd)))
    (beyond_short (joined_sheet first second))

-- ---- STDs

upxes_length : (numbers : Renumbering) (istd other : ℕ) (kind : Kind) → IsFormedKind kind →
    length (flat_map written_counted (written_upxes other (renumbered_kind numbers kind)))
    ≡ length (flat_map written_counted (written_upxes istd kind))
upxes_length numbers istd other (Para pap chp) formed =
    let same = renumbered_length numbers chp formed.1 in
    para_len other pap _ ∙ (ap (λ n. 2 + even_up (2 + length (printed_list pap)) + (2 + even_up n)) same
    ∙ sym (para_len istd pap chp))
upxes_length numbers istd other (Char chp) formed =
    let same = renumbered_length numbers chp formed in
    char_len other _ ∙ (ap (λ n. 2 + even_up n) same ∙ sym (char_len istd chp))
upxes_length numbers istd other (Other stk upxes) formed = refl

std_length : (istd other : ℕ) (style made : Style) → made.name ≡ style.name →
    length (flat_map written_counted (written_upxes other made.kind))
    ≡ length (flat_map written_counted (written_upxes istd style.kind)) →
    length (written_style other made) ≡ length (written_style istd style)
std_length istd other style made name upxes =
    omega (
      arith,
      style_len other made,
      style_len istd style,
      rest_len other made,
      rest_len istd style,
      ap (λ (units : List ℕ). length units) name,
      upxes,
    )

first_written : (numbers : Renumbering) (istd other : ℕ) (slot : Option Style) → IsFormedSlot slot →
    length (written_slot other (slot_from_first numbers slot)) ≡ length (written_slot istd slot)
first_written numbers istd other None formed = refl
first_written numbers istd other (Some style) formed =
    std_length istd other style (style_from_first numbers style) refl
    (upxes_length numbers istd other style.kind formed.kind)

second_written : (numbers : Renumbering) (istd other : ℕ) (slot : Option Style) → IsFormedSlot slot →
    length (written_slot other (slot_from_second numbers istd slot)) ≡ length (written_slot istd slot)
second_written numbers istd other None formed = refl
second_written numbers istd other (Some style) formed =
    std_length istd other style (style_from_second numbers istd style) refl
    (upxes_length numbers istd other style.kind formed.kind)

pub joined_writable : (first second : Sheet) → IsFormedSheet first → IsFormedSheet second → IsWritable first →
    IsWritable second → IsWritable (joined_sheet first second)
joined_writable first second formed next_formed one other =
    let joined = joined_sheet first second in
    let first_maps = numbers_of_first first in
    let second_maps = numbers_of_second first second in
    by_sheet first second (λ istd. length (written_slot istd (style_at joined istd)) ≤ 32767)
    (λ istd within.
    let short = one istd in
    omega (
      arith,
      ap (λ slot. length (written_slot (istd + 0) slot)) (first_at first second istd within),
      first_written first_maps istd (istd + 0) (style_at first istd) (formed.styles istd None within),
      short,
    ))
    (λ istd within.
    let short = other istd in
    omega (
      arith,
      ap (λ slot. length (written_slot (istd + length first.styles) slot)) (second_at first second istd within),
      second_written second_maps istd (istd + length first.styles) (style_at second istd)
          (next_formed.styles istd None within),
      short,
    ))
    (λ istd past.
    omega (arith, ap (λ slot. length (written_slot istd slot)) (get_or_past joined.styles istd None past)))
