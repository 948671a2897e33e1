-- An STD that breaks no rule spells a style.
use Rattle.std.proofs.Common.{◌≡◌, ◌≢◌, ◌⊎◌, inl, inr, refl, sym, subst, ℕ, ◌+◌, ◌*◌, ◌/◌, ◌%◌, ◌<◌, ◌≤◌, Bool, true}
use Rattle.std.proofs.Common.{false, cond, ◌==◌, List, length, Some, None, arith}
use Rattle.std.specs.Prelude.{slice_get, slice_index, slice_index_or}
use Rattle.std.specs.FinMap.{empty}
use Rattle.std.proofs.lemmas.Bool.{cases_lt, cases_eq}
use Rattle.std.proofs.lemmas.Option.{slice_get-get_or}
use Rattle.doc_bits.specs.Number.{u16_at, AreBytes}
use Rattle.doc_bits.specs.Rules.{Nowhere}
use Rattle.doc_bits.proofs.Public.{number_at-bound, All-from_slice_get, AreBytes-drop, AreBytes-range}
use Rattle.sprm_table.specs.Sprm.{HasSprmFaultAt}
use Rattle.prop_map.specs.Settings.{Properties}
use Rattle.prop_map.specs.Formed.{IsPropertyMap, character_groups, paragraph_groups}
use Rattle.style_sheet.specs.declared.styles.Style.{Style}
use Rattle.style_sheet.specs.declared.styles.Kind.{Kind}
use Rattle.style_sheet.specs.declared.styles.Kind.TheVariants.{Para, Char, Other}
use Rattle.style_sheet.specs.Counted.{counted_end}
use Rattle.style_sheet.specs.StyleDefinition.{stk, cupx, style_name_len, upx_place, upx, IsStd, IsMapOf, paragraph_list}
use Rattle.style_sheet.specs.StyleDefinition.{SpellsKind, SpellsStyle, istd_base}
use Rattle.style_sheet.specs.Stsh.{HasUpxFault}
use Rattle.style_sheet.specs.Formed.{IsFormedKind, IsFormedBase, IsFormedStyle}
use Rattle.prop_map.proofs.Public.{IsPropertyMap-after, IsPropertyMap-empty, accepted_of, list_bytes, after_list}
use Rattle.style_sheet.proofs.MadeLists.{list_of}

-- a list's map, and that it is right
record HasMap (bytes : List ℕ) (groups : ℕ) : Type 0 where
  map : Properties
  is : IsMapOf bytes groups map
  formed : IsPropertyMap groups map

map_there : (bytes : List ℕ) (groups : ℕ) → AreBytes bytes → Nowhere (HasSprmFaultAt bytes groups) → HasMap bytes groups
map_there bytes groups are none =
    let accepted = accepted_of bytes groups are none in
    let after = after_list accepted.list groups empty in
    record {
      map = after.new;
      is = record { list = accepted.list; spelt = accepted.spelt; acted = after.after };
      formed =
          IsPropertyMap-after accepted.list groups empty after.new accepted.spelt.entries (list_bytes bytes
          accepted.list are accepted.spelt)
          after.after (IsPropertyMap-empty groups);
    }

record HasStyleKind (std : List ℕ) (base : ℕ) : Type 0 where
  kind : Kind
  is : SpellsKind std base kind
  formed : IsFormedKind kind

pub at_place : {A : Type 0} (xs : List A) (k n : ℕ) (d : A) → length xs ≡ n → k < n → slice_get xs k ≡ Some
    (slice_index_or xs k d)
at_place xs k n d len below = slice_get-get_or xs k d (omega (arith, len, below))

upx_bytes : (std : List ℕ) (base k : ℕ) → AreBytes std → AreBytes (upx std base k)
upx_bytes std base k are = AreBytes-range std (upx_place std base k + 2) (counted_end std (upx_place std base k)) are

other_there : (std : List ℕ) (base : ℕ) → AreBytes std → (stk std ≡ 3) ⊎ (stk std ≡ 4) → HasStyleKind std base
other_there std base are three =
    let upxes = list_of (cupx std) (λ (k : ℕ) (x : List ℕ). x ≡ upx std base k) (λ k below. (upx std base k, refl)) in
    let low : 3 ≤ stk std = (elim three [ inl e ↦ omega arith | inr e ↦ omega arith ]) in
    let len = upxes.len in
    record {
      kind = Other (stk std) upxes.list;
      is = (
        refl,
        (
          low,
          record {
            count = len;
            each = λ k d below. upxes.each k (slice_index_or upxes.list k d)
                (at_place upxes.list k (cupx std) d len below);
          },
        ),
      );
      formed = (
        three,
        (
          omega (arith, len),
          All-from_slice_get AreBytes upxes.list (λ k x here. subst AreBytes
              (sym (upxes.each k x here)) (upx_bytes std base k are)),
        ),
      );
    }

kind_there : (std : List ℕ) (base : ℕ) → AreBytes std → IsStd std base → Nowhere (HasUpxFault std base) →
    HasStyleKind std base
kind_there std base are is none = elim (cases_eq (stk std) 1) [
  | inl para ↦
      let pap = map_there (paragraph_list std base) paragraph_groups (AreBytes-drop 2 (upx std base 0) (upx_bytes std
      base 0 are))
      (λ p fault. none (upx_place std base 0 + 4 + p) (inl (
        para,
        inl (record {
          offset = p;
          here = refl;
          broken = fault;
        }),
      ))) in
      let chp = map_there (upx std base 1) character_groups (upx_bytes std base 1 are)
      (λ p fault. none (upx_place std base 1 + 2 + p) (inl (
        para,
        inr (record {
          offset = p;
          here = refl;
          broken = fault;
        }),
      ))) in
      record { kind = Para pap.map chp.map; is = (para, (pap.is, chp.is)); formed = (pap.formed, chp.formed) }
  | inr other ↦ elim (cases_eq (stk std) 2) [
    | inl char ↦
        let chp = map_there (upx std base 0) character_groups (upx_bytes std base 0 are)
        (λ p fault. none (upx_place std base 0 + 2 + p) (inr (
          char,
          record {
            offset = p;
            here = refl;
            broken = fault;
          },
        ))) in
        record { kind = Char chp.map; is = (char, chp.is); formed = chp.formed }
    | inr third ↦ elim (cases_eq (stk std) 3) [
      | inl three ↦ other_there std base are (inl three)
      | inr fourth ↦ other_there std base are (inr (last_kind (stk std) is.kind.some is.kind.most other third fourth))
    ]
  ]
]
  where
    last_kind : (n : ℕ) → 1 ≤ n → n ≤ 4 → n ≢ 1 → n ≢ 2 → n ≢ 3 → n ≡ 4
    last_kind n low high a b d = elim (cases_eq n 4) [
      | inl e ↦ e
      | inr f ↦ absurd (elim (cases_lt n 4) [
        | inl less ↦
            (elim (cases_lt n 3) [
              | inl lesser ↦ (elim (cases_lt n 2) [
                | inl one ↦ a (omega arith)
                | inr two ↦ b
                    (omega arith)
              ])
              | inr three ↦ d (omega arith)
            ])
        | inr more ↦ f (omega arith)
      ])
    ]

pub word_small : (std : List ℕ) (at : ℕ) → AreBytes std → u16_at std at < 65536
word_small std at are = number_at-bound std at 2 are

base_formed : (number : ℕ) (b : Bool) → (number == 0xFFF) ≡ b → number < 4096 → IsFormedBase (cond b None (Some number))
base_formed number true e small = tt
base_formed number false e small = elim (cases_eq number 4095) [
  | inl is ↦ absurd (let same : (4095 == 0xFFF) ≡ false = subst (λ n. (n == 0xFFF) ≡ false) is e in cc)
  | inr other ↦ below_top number small other
]
  where
    below_top : (n : ℕ) → n < 4096 → n ≢ 4095 → n < 4095
    below_top n less differ = elim (cases_lt n 4095) [ inl low ↦ low | inr high ↦ absurd (differ (omega arith)) ]

pub record HasStyle (std : List ℕ) (base : ℕ) : Type 0 where
  pub style : Style
  pub is : SpellsStyle std base style
  pub formed : IsFormedStyle style

pub style_there : (std : List ℕ) (base : ℕ) → AreBytes std → IsStd std base → Nowhere (HasUpxFault std base) →
    HasStyle std base
style_there std base are is none =
    let kind = kind_there std base are is none in
    let name = list_of (style_name_len std base) (λ (i : ℕ) (x : ℕ). x ≡ u16_at std (base + 2 + 2 * i))
    (λ i below. (u16_at std (base + 2 + 2 * i), refl)) in
    let w0 = word_small std 0 are in
    let w1 = word_small std 2 are in
    let w2 = word_small std 4 are in
    record {
      style = record {
        sti = u16_at std 0 % 4096;
        flags = u16_at std 0 / 4096;
        base = istd_base (u16_at std 2 / 16);
        next = u16_at std 4 / 16;
        grfstd = u16_at std 8;
        name = name.list;
        kind = kind.kind;
      };
      is = record {
        sti = refl;
        flags = refl;
        base = refl;
        next = refl;
        grfstd = refl;
        name = record {
          count = name.len;
          each = λ i below. name.each i (slice_index name.list i) (at_place name.list
              i (style_name_len std base) 0 name.len below);
        };
        kind = kind.is;
      };
      formed = record {
        sti = omega arith;
        flags = omega arith;
        base = base_formed (u16_at std 2 / 16) (u16_at std 2 / 16 == 0xFFF) refl (omega arith);
        next = omega arith;
        grfstd = word_small std 8 are;
        name = All-from_slice_get (λ unit. unit < 65536) name.list (λ i x here. subst (λ n. n < 65536)
            (sym (name.each i x here)) (word_small std (base + 2 + 2 * i) are));
        kind = kind.formed;
      };
    }
