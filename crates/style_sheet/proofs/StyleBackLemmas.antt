-- A style as it is written is read back.
use Rattle.std.proofs.Common.{◌≡◌, ◌⊎◌, ℕ, ◌+◌, ◌*◌, ◌/◌, ◌<◌, ◌≤◌, inl, inr, List, [], ◌++◌, length, drop}
use Rattle.std.proofs.Common.{slice_index_or, sym, ◌∙◌, ap, subst, arith, length-append}
use Rattle.std.specs.List.{flat_map}
use Rattle.std.specs.FinMap.{entries}
use Rattle.std.proofs.Math.Seq.{drop-append_seam}
use Rattle.doc_bits.specs.Number.{u16_at}
use Rattle.sprm_table.specs.Sprm.{IsAcceptedList}
use Rattle.sprm_table.proofs.Public.{accepted_no_fault}
use Rattle.prop_map.specs.Settings.{Properties}
use Rattle.prop_map.specs.Formed.{IsPropertyMap, character_groups, paragraph_groups}
use Rattle.prop_map.specs.Printing.{printed_list}
use Rattle.prop_map.proofs.Public.{print_is}
use Rattle.style_sheet.specs.declared.styles.Style.{Style}
use Rattle.style_sheet.specs.declared.styles.Kind.{Kind}
use Rattle.style_sheet.specs.declared.styles.Kind.TheVariants.{Para, Char, Other}
use Rattle.style_sheet.specs.Formed.{IsFormedKind, IsFormedStyle}
use Rattle.style_sheet.specs.Counted.{counted_place, written_counted}
use Rattle.style_sheet.specs.StyleDefinition.{stk, cupx, upx, upxes_start, upx_place, paragraph_list, HasKind, IsStd}
use Rattle.style_sheet.specs.StyleDefinition.{IsMapOf, SpellsKind, SpellsStyle, istd_base}
use Rattle.style_sheet.specs.Stsh.{HasUpxFault}
use Rattle.style_sheet.specs.Written.{word, written_stk, written_base, written_upxes, written_rest, written_style}
use Rattle.style_sheet.proofs.WordLemmas.{length-word, IsItemAt, items_at, items_end}
use Rattle.style_sheet.proofs.LengthLemmas.{rest_len, style_len, items_short}
use Rattle.style_sheet.proofs.StdLemmas.{small_words, stk_small, upxes_few, base_small, base_back, fields_at, name_at}
use Rattle.style_sheet.proofs.StdLemmas.{std_front, std_split, length-std_front}

-- the upxes of the kind are in the STD
abbrev pub AreItems : List ℕ → ℕ → Kind → Type 0
AreItems std istd kind = (k : ℕ) (d : List ℕ) → k < length (written_upxes istd kind) → IsItemAt std (upx_place std 10
    k) (slice_index_or (written_upxes istd kind) k d)

pub map_of : (groups : ℕ) (map : Properties) → IsPropertyMap groups map → IsMapOf (printed_list map) groups map
map_of groups map f =
    let p = print_is map (groups, f) in
    record { list = entries map; spelt = p.spelt; acted = (p.back groups (entries map) f p.spelt).0 }

accepted_of : (groups : ℕ) (map : Properties) → IsPropertyMap groups map → IsAcceptedList (printed_list map) groups
accepted_of groups map f = (print_is map (groups, f)).accepted groups

after_word : (x : ℕ) (rest : List ℕ) → drop 2 (word x ++ rest) ≡ rest
after_word x rest = ap (λ n. drop n (word x ++ rest)) (sym (length-word x)) ∙ drop-append_seam (word x) rest

paragraphs_are : (std : List ℕ) (istd : ℕ) (pap chp : Properties) → AreItems std istd (Para pap chp) →
    paragraph_list std 10 ≡ printed_list pap
paragraphs_are std istd pap chp items = ap (drop 2) (items 0 [] (omega arith)).bytes_are ∙ after_word istd
    (printed_list pap)

three_or_four : (n : ℕ) → (n ≡ 3) ⊎ (n ≡ 4) → (3 ≤ n) × (n ≤ 4)
three_or_four n h = elim h [ inl e ↦ (omega arith, omega arith) | inr e ↦ (omega arith, omega arith) ]

pub has_kind : (std : List ℕ) (istd : ℕ) (kind : Kind) → IsFormedKind kind → stk std ≡ written_stk kind →
    cupx std ≡ length (written_upxes istd kind) → HasKind std
has_kind std istd (Para pap chp) f s c = record {
  some = omega arith;
  most = omega arith;
  para = λ e. c;
  char = λ e. absurd (omega arith);
}
has_kind std istd (Char chp) f s c = record {
  some = omega arith;
  most = omega arith;
  para = λ e. absurd (omega arith);
  char = λ e. c;
}
has_kind std istd (Other n upxes) f s c =
    let range = three_or_four n f.0 in
    let low = range.0 in let high = range.1 in
    record {
      some = omega arith;
      most = omega arith;
      para = λ e. absurd (omega arith);
      char = λ e. absurd (omega arith);
    }

pub has_istd : (std : List ℕ) (istd : ℕ) (kind : Kind) → IsFormedKind kind → stk std ≡ written_stk kind →
    AreItems std istd kind → stk std ≡ 1 → 2 ≤ u16_at std (upx_place std 10 0)
has_istd std istd (Para pap chp) f s items e =
    let count = (items 0 [] (omega arith)).count in
    let len = length-append (word istd) (printed_list pap) in
    let two = length-word istd in
    omega arith
has_istd std istd (Char chp) f s items e = absurd (omega arith)
has_istd std istd (Other n upxes) f s items e =
    let range = three_or_four n f.0 in
    let low = range.0 in absurd (omega arith)

pub spells_kind : (std : List ℕ) (istd : ℕ) (kind : Kind) → IsFormedKind kind → stk std ≡ written_stk kind →
    cupx std ≡ length (written_upxes istd kind) → AreItems std istd kind → SpellsKind std 10 kind
spells_kind std istd (Para pap chp) f s c items = (
  s,
  (
    subst (λ b. IsMapOf b paragraph_groups pap) (sym (paragraphs_are std istd pap chp items)) (map_of paragraph_groups
        pap f.0),
    subst (λ b. IsMapOf b character_groups chp) (sym (items 1 [] (omega arith)).bytes_are) (map_of character_groups
        chp f.1),
  ),
)
spells_kind std istd (Char chp) f s c items = (
  s,
  subst (λ b. IsMapOf b character_groups chp)
      (sym (items 0 [] (omega arith)).bytes_are) (map_of character_groups chp f),
)
spells_kind std istd (Other n upxes) f s c items =
    let range = three_or_four n f.0 in
    let low = range.0 in
    (sym s, (omega arith, record { count = sym c; each = λ k d h. sym (items k d (omega arith)).bytes_are }))

-- no list of it has a fault
pub no_list_fault : (std : List ℕ) (istd : ℕ) (kind : Kind) (offset : ℕ) → IsFormedKind kind → stk std ≡ written_stk
    kind → AreItems std istd kind → HasUpxFault std 10 offset → ⊥
no_list_fault std istd (Para pap chp) offset f s items fault = elim fault [
  | inl w ↦ elim w.1 [
    | inl p ↦ accepted_no_fault (paragraph_list std 10) paragraph_groups p.offset (subst (λ b. IsAcceptedList b
        paragraph_groups) (sym (paragraphs_are std istd pap chp items)) (accepted_of paragraph_groups pap f.0)) p.broken
    | inr p ↦ accepted_no_fault (upx std 10 1) character_groups p.offset (subst (λ b. IsAcceptedList b
        character_groups) (sym (items 1 [] (omega arith)).bytes_are) (accepted_of character_groups chp f.1)) p.broken
  ]
  | inr w ↦ let e = w.0 in absurd (omega arith)
]
no_list_fault std istd (Char chp) offset f s items fault = elim fault [
  | inl w ↦ let e = w.0 in absurd (omega arith)
  | inr w ↦ let p = w.1 in accepted_no_fault (upx std 10 0) character_groups p.offset (subst (λ b. IsAcceptedList b
      character_groups) (sym (items 0 [] (omega arith)).bytes_are) (accepted_of character_groups chp f)) p.broken
]
no_list_fault std istd (Other n upxes) offset f s items fault =
    let range = three_or_four n f.0 in
    let low = range.0 in
    elim fault [
      | inl w ↦ let e = w.0 in absurd (omega arith)
      | inr w ↦ let e = w.0 in absurd (omega arith)
    ]

-- what is read of the STD as it is written
pub record IsStdBack (istd : ℕ) (style : Style) : Type 0 where
  pub std : IsStd (written_style istd style) 10
  pub spelt : SpellsStyle (written_style istd style) 10 style
  pub sound : (offset : ℕ) → HasUpxFault (written_style istd style) 10 offset → ⊥

pub std_back : (istd : ℕ) (style : Style) → IsFormedStyle style → length (written_style istd style) ≤ 32767 →
    IsStdBack istd style
std_back istd style f short =
    let std = written_style istd style in
    let kind = style.kind in
    let upxes = written_upxes istd kind in
    let front = std_front istd style in
    let rest = rest_len istd style in
    let all = style_len istd style in
    let sti = f.sti in let flags = f.flags in let next = f.next in
    let stk_low = stk_small kind f.kind in
    let few = upxes_few istd kind f.kind in
    let base_low = base_small style.base f.base in
    let fields = fields_at (style.sti + 4096 * style.flags) (written_stk kind + 16 * written_base style.base)
    (length upxes + 16 * style.next) (10 + length (written_rest istd style)) style.grfstd (written_rest istd
    style) (omega arith) (omega arith) (omega arith) f.grfstd in
    let name = name_at style.name (flat_map written_counted upxes) (omega arith) (small_words style.name f.name) in
    let one = fields.one in let two = fields.two in let three = fields.three in
    let name_len : u16_at std 10 ≡ length style.name = fields.after 0 ∙ name.count in
    let front_len = length-std_front istd style in
    let start : length front ≡ upxes_start std 10 = omega arith in
    let items : AreItems std istd kind = λ k d h.
    let it = items_at front upxes k d (omega arith) (items_short upxes (omega arith)) h in
    let at_std = subst (λ b. IsItemAt b (counted_place b (length front) k) (slice_index_or upxes k d)) (std_split istd
    style) it in
    subst (λ p. IsItemAt std (counted_place std p k) (slice_index_or upxes k d)) start at_std in
    let end : counted_place std (upxes_start std 10) (length upxes) ≡ length std =
    let it = items_end front upxes (omega arith) (items_short upxes (omega arith)) in
    let at_std = subst (λ b. counted_place b (length front) (length upxes) ≡ length b) (std_split istd style) it in
    subst (λ p. counted_place std p (length upxes) ≡ length std) start at_std in
    let is_stk : stk std ≡ written_stk kind = omega arith in
    let is_cupx : cupx std ≡ length upxes = omega arith in
    record {
      std = record {
        name = record {
          count = omega arith;
          units = omega arith;
          ended =
              let place : 10 + 2 + 2 * u16_at std 10 ≡ 10 + (2 + 2 * length style.name) = omega arith in
              ap (u16_at std) place ∙ (fields.after (2 + 2 * length style.name) ∙ name.ended);
        };
        kind = has_kind std istd kind f.kind is_stk is_cupx;
        upxes = record {
          within = λ k h. (items k [] (omega arith)).within;
          all = let e = ap (upx_place std 10) is_cupx in omega arith;
        };
        istd = has_istd std istd kind f.kind is_stk items;
      };
      spelt = record {
        sti = omega arith;
        flags = omega arith;
        base =
            let number : written_base style.base ≡ u16_at std 2 / 16 = omega arith in
            sym (base_back style.base f.base) ∙ ap istd_base number;
        next = omega arith;
        grfstd = sym fields.five;
        name = record {
          count = sym name_len;
          each = λ i h.
              let place : 10 + 2 + 2 * i ≡ 10 + (2 + 2 * i) = omega arith in
              sym (ap (u16_at std) place ∙ (fields.after (2 + 2 * i) ∙ name.units i (omega arith)));
        };
        kind = spells_kind std istd kind f.kind is_stk is_cupx items;
      };
      sound = λ offset. no_list_fault std istd kind offset f.kind is_stk items;
    }
