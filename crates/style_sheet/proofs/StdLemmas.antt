-- What is read at the offsets of an STD as it is written.
use Rattle.std.proofs.Common.{◌≡◌, ℕ, ◌+◌, ◌*◌, ◌<◌, inl, inr, List, ◌++◌, Option, Some, None, length, slice_index}
use Rattle.std.proofs.Common.{refl, ◌∙◌, ap, arith, length-append, append_assoc}
use Rattle.std.specs.List.{All, flat_map}
use Rattle.std.proofs.lemmas.Bool.{cases_lt, ne_eqb}
use Rattle.std.proofs.lemmas.List.{get_or_past}
use Rattle.doc_bits.specs.Number.{u16_at}
use Rattle.doc_bits.proofs.Public.{number_at-after}
use Rattle.style_sheet.specs.declared.styles.Style.{Style}
use Rattle.style_sheet.specs.declared.styles.Kind.{Kind}
use Rattle.style_sheet.specs.declared.styles.Kind.TheVariants.{Para, Char, Other}
use Rattle.style_sheet.specs.Formed.{IsFormedKind, IsFormedBase}
use Rattle.style_sheet.specs.Counted.{written_counted}
use Rattle.style_sheet.specs.StyleDefinition.{istd_base}
use Rattle.style_sheet.specs.Written.{word, written_stk, written_base, written_upxes, written_rest, written_style}
use Rattle.style_sheet.proofs.WordLemmas.{length-words, word_front, word_after, words_at}
use Rattle.style_sheet.proofs.LengthLemmas.{rest_len, style_len}

-- numbers of a list of words, and the 0 past them
pub small_words : (words : List ℕ) → All (λ x. x < 65536) words → (k : ℕ) → slice_index words k < 65536
small_words words all k = elim (cases_lt k (length words)) [
  | inl low ↦ all k 0 low
  | inr high ↦ let none = get_or_past words k 0 high in omega arith
]

pub stk_small : (kind : Kind) → IsFormedKind kind → written_stk kind < 16
stk_small (Para pap chp) f = omega arith
stk_small (Char chp) f = omega arith
stk_small (Other stk upxes) f = elim f.0 [ inl e ↦ omega arith | inr e ↦ omega arith ]

pub upxes_few : (istd : ℕ) (kind : Kind) → IsFormedKind kind → length (written_upxes istd kind) < 16
upxes_few istd (Para pap chp) f = omega arith
upxes_few istd (Char chp) f = omega arith
upxes_few istd (Other stk upxes) f = let few = f.1.0 in omega arith

pub base_small : (base : Option ℕ) → IsFormedBase base → written_base base < 4096
base_small None f = omega arith
base_small (Some base) f = omega arith

-- the base is read back
pub base_back : (base : Option ℕ) → IsFormedBase base → istd_base (written_base base) ≡ base
base_back None f = refl
base_back (Some base) f = let e = ne_eqb base 4095 (λ same. absurd (omega arith)) in rw e refl

-- five words, and what comes after them
pub record AreFields (std : List ℕ) (first second third fifth : ℕ) (rest : List ℕ) : Type 0 where
  pub one : u16_at std 0 ≡ first
  pub two : u16_at std 2 ≡ second
  pub three : u16_at std 4 ≡ third
  pub five : u16_at std 8 ≡ fifth
  pub after : (at : ℕ) → u16_at std (10 + at) ≡ u16_at rest at

pub fields_at : (a b d e f : ℕ) (rest : List ℕ) → a < 65536 → b < 65536 → d < 65536 → f < 65536 →
    AreFields (word a ++ (word b ++ (word d ++ (word e ++ (word f ++ rest))))) a b d f rest
fields_at a b d e f rest ha hb hd hf =
    let r5 = word f ++ rest in
    let r4 = word e ++ r5 in
    let r3 = word d ++ r4 in
    let r2 = word b ++ r3 in
    record {
      one = word_front a r2 ha;
      two = word_after a r2 0 ∙ word_front b r3 hb;
      three = word_after a r2 2 ∙ (word_after b r3 0 ∙ word_front d r4 hd);
      five = word_after a r2 6 ∙ (word_after b r3 4 ∙ (word_after d r4 2 ∙ (word_after e r5 0 ∙ word_front f rest hf)));
      after = λ at.
          let p1 : 10 + at ≡ 2 + (8 + at) = omega arith in
          let p2 : 8 + at ≡ 2 + (6 + at) = omega arith in
          let p3 : 6 + at ≡ 2 + (4 + at) = omega arith in
          let p4 : 4 + at ≡ 2 + (2 + at) = omega arith in
          ap (u16_at (word a ++ r2)) p1 ∙ (word_after a r2 (8 + at)
          ∙ (ap (u16_at r2) p2 ∙ (word_after b r3 (6 + at)
          ∙ (ap (u16_at r3) p3 ∙ (word_after d r4 (4 + at)
          ∙ (ap (u16_at r4) p4 ∙ (word_after e r5 (2 + at) ∙ word_after f rest at)))))));
    }

-- the name with its count and the zero unit
pub record IsNameAt (rest name : List ℕ) : Type 0 where
  pub count : u16_at rest 0 ≡ length name
  pub units : (i : ℕ) → i < length name → u16_at rest (2 + 2 * i) ≡ slice_index name i
  pub ended : u16_at rest (2 + 2 * length name) ≡ 0

pub name_at : (name more : List ℕ) → length name < 65536 → ((k : ℕ) → slice_index name k < 65536) →
    IsNameAt (word (length name) ++ (flat_map word name ++ (word 0 ++ more))) name
name_at name more short small =
    let units = flat_map word name in
    record {
      count = word_front (length name) (units ++ (word 0 ++ more)) short;
      units = λ i h. word_after (length name) (units ++ (word 0 ++ more)) (2 * i) ∙ words_at name (word 0 ++ more) i
          small h;
      ended =
          let len = length-words name in
          let place : 2 * length name ≡ length units + 0 = omega arith in
          word_after (length name) (units ++ (word 0 ++ more)) (2 * length name)
          ∙ (ap (u16_at (units ++ (word 0 ++ more))) place ∙ (number_at-after units (word 0 ++ more) 0 2 ∙ word_front
          0 more (omega arith)));
    }

-- what is before the upxes
pub std_front : ℕ → Style → List ℕ
std_front istd style =
    (word (style.sti + 4096 * style.flags)
    ++ (word (written_stk style.kind + 16 * written_base style.base)
    ++ (word (length (written_upxes istd style.kind) + 16 * style.next)
    ++ (word (10 + length (written_rest istd style)) ++ word style.grfstd))))
    ++ (word (length style.name) ++ (flat_map word style.name ++ word 0))

pub std_split : (istd : ℕ) (style : Style) → std_front istd style ++ flat_map written_counted (written_upxes istd
    style.kind) ≡ written_style istd style
unfolding std_front
std_split istd style = simp append_assoc

pub length-std_front : (istd : ℕ) (style : Style) → length (std_front istd style) ≡ 14 + 2 * length style.name
length-std_front istd style =
    let all = ap length (std_split istd style) in
    let sum = length-append (std_front istd style) (flat_map written_counted (written_upxes istd style.kind)) in
    let rest = rest_len istd style in
    let std = style_len istd style in
    omega arith
