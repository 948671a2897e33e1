-- Properties that are put into a style: what a place may hold stays so.
use Rattle.std.proofs.Common.{◌≡◌, ◌<◌, inl, inr, ℕ, false, List, Option, Some, None, MatchOption, IfSome, length}
use Rattle.std.proofs.Common.{refl, sym, ◌∙◌, ap, subst}
use Rattle.std.specs.Option.{option_or}
use Rattle.std.specs.List.{All}
use Rattle.std.specs.FinMap.{get, empty, get-empty}
use Rattle.std.specs.Ordering.{nat_cmp}
use Rattle.std.proofs.lemmas.Bool.{cases_lt}
use Rattle.std.proofs.lemmas.List.{get_or_past}
use Rattle.std.proofs.lemmas.List.Elements.{All-get_or}
use Rattle.prop_map.specs.Settings.{Properties}
use Rattle.prop_map.specs.Formed.{IsPropertyMap, character_groups, paragraph_groups}
use Rattle.prop_map.specs.Modifiers.{IsOver}
use Rattle.style_sheet.specs.declared.styles.Style.{Style}
use Rattle.style_sheet.specs.declared.styles.Kind.{Kind}
use Rattle.style_sheet.specs.declared.styles.Kind.TheVariants.{Para, Char, Other}
use Rattle.style_sheet.specs.Sheet.{Sheet, style_at}
use Rattle.style_sheet.specs.Formed.{IsFormedKind, IsFormedStyle, IsFormedSlot}
use Rattle.style_sheet.specs.Changes.{with_kind, HasCharactersOver, HasParagraphsOver}

option_or_none : (o : Option (List ℕ)) → o ≡ option_or o None
option_or_none None = refl
option_or_none (Some x) = refl

-- over nothing the map is itself
pub over_empty : (set : Properties) → IsOver false set empty set
over_empty set code = rw (get-empty nat_cmp code) (option_or_none (get set code))

from_either : (groups code : ℕ) (value : List ℕ) (a b : Option (List ℕ)) (P : Type 0) → ((v : List ℕ) → a ≡ Some v →
    v ≡ value → P) → ((v : List ℕ) → b ≡ Some v → v ≡ value → P) → option_or a b ≡ Some value → P
from_either groups code value None b P first next e = next value e refl
from_either groups code value (Some x) b P first next e = first x refl (cc)

-- a map over another holds what both hold
pub over_formed : (groups : ℕ) (set base new : Properties) → IsPropertyMap groups set → IsPropertyMap groups base →
    IsOver false set base new → IsPropertyMap groups new
over_formed groups set base new s b over code value e =
    from_either groups code value (get set code) (get base code) _
    (λ v g same. s code value (g ∙ ap Some same))
    (λ v g same. b code value (g ∙ ap Some same))
    (sym (over code) ∙ e)

pub characters_formed : (set : Properties) (old new : Kind) → IsPropertyMap character_groups set → IsFormedKind old →
    HasCharactersOver old set new → IsFormedKind new
characters_formed set (Para pap chp) new s f h = subst IsFormedKind (sym h.kind) (
  f.0,
  over_formed character_groups
      set chp h.map s f.1 h.over,
)
characters_formed set (Char chp) new s f h = subst IsFormedKind (sym h.kind) (over_formed character_groups set chp
    h.map s f h.over)
characters_formed set (Other stk upxes) new s f h = subst IsFormedKind (sym h.kind) f

pub paragraphs_formed : (set : Properties) (old new : Kind) → IsPropertyMap paragraph_groups set → IsFormedKind old →
    HasParagraphsOver old set new → IsFormedKind new
paragraphs_formed set (Para pap chp) new s f h = subst IsFormedKind (sym h.kind) (
  over_formed paragraph_groups set pap
      h.map s f.0 h.over,
  f.1,
)
paragraphs_formed set (Char chp) new s f h = subst IsFormedKind (sym h.kind) f
paragraphs_formed set (Other stk upxes) new s f h = subst IsFormedKind (sym h.kind) f

-- a slot of a formed sheet is formed
pub slot_formed : (sheet : Sheet) (istd : ℕ) → All IsFormedSlot sheet.styles → IsFormedSlot (style_at sheet istd)
slot_formed sheet istd all = elim (cases_lt istd (length sheet.styles)) [
  | inl low ↦ All-get_or IsFormedSlot sheet.styles istd None low all
  | inr high ↦ subst IsFormedSlot (sym (get_or_past sheet.styles istd None high)) tt
]

-- and so is the style that is found there
pub found_formed : (X : Type 0) (now : X → Style) (found : Option X) (slot : Option Style) → IsFormedSlot slot →
    MatchOption found (slot ≡ None) (λ x. slot ≡ Some (now x)) → IfSome found (λ x. IsFormedStyle (now x))
found_formed X now None slot f e = tt
found_formed X now (Some x) slot f e = subst IsFormedSlot e f

-- a style of a formed sheet is formed
pub style_formed : (sheet : Sheet) (istd : ℕ) (style : Style) → istd < length sheet.styles → All IsFormedSlot
    sheet.styles → style_at sheet istd ≡ Some style → IsFormedStyle style
style_formed sheet istd style low all e = subst IsFormedSlot e (All-get_or IsFormedSlot sheet.styles istd None low all)

-- it stays so with another formed kind
pub kind_formed : (style : Style) (kind : Kind) → IsFormedStyle style → IsFormedKind kind →
    IsFormedStyle (with_kind style kind)
kind_formed style kind f k = record {
  sti = f.sti;
  flags = f.flags;
  base = f.base;
  next = f.next;
  grfstd = f.grfstd;
  name = f.name;
  kind = k;
}

-- what the arms of the two changes make
pub para_characters : (old : Kind) (pap chp set same made : Properties) → old ≡ Para pap chp → same ≡ pap →
    IsOver false set chp made → HasCharactersOver old set (Para same made)
para_characters old pap chp set same made e s o = subst (λ k. HasCharactersOver k set (Para same made)) (sym e)
    (record { map = made; over = o; kind = ap (λ p. Para p made) s })

pub char_characters : (old : Kind) (chp set made : Properties) → old ≡ Char chp → IsOver false set chp made →
    HasCharactersOver old set (Char made)
char_characters old chp set made e o = subst (λ k. HasCharactersOver k set (Char made)) (sym e) (record {
  map = made;
  over = o;
  kind = refl;
})

pub other_characters : (old : Kind) (stk : ℕ) (upxes copy : List (List ℕ)) (set : Properties) → old ≡ Other stk upxes →
    copy ≡ upxes → HasCharactersOver old set (Other stk copy)
other_characters old stk upxes copy set e s = subst (λ k. HasCharactersOver k set (Other stk copy)) (sym e)
    (record { map = set; over = over_empty set; kind = ap (Other stk) s })

pub para_paragraphs : (old : Kind) (pap chp set same made : Properties) → old ≡ Para pap chp → same ≡ chp →
    IsOver false set pap made → HasParagraphsOver old set (Para made same)
para_paragraphs old pap chp set same made e s o = subst (λ k. HasParagraphsOver k set (Para made same)) (sym e)
    (record { map = made; over = o; kind = ap (Para made) s })

pub char_paragraphs : (old : Kind) (chp set same : Properties) → old ≡ Char chp → same ≡ chp → HasParagraphsOver old set
    (Char same)
char_paragraphs old chp set same e s = subst (λ k. HasParagraphsOver k set (Char same)) (sym e) (record {
  map = set;
  over = over_empty set;
  kind = ap Char s;
})

pub other_paragraphs : (old : Kind) (stk : ℕ) (upxes copy : List (List ℕ)) (set : Properties) → old ≡ Other stk upxes →
    copy ≡ upxes → HasParagraphsOver old set (Other stk copy)
other_paragraphs old stk upxes copy set e s = subst (λ k. HasParagraphsOver k set (Other stk copy)) (sym e)
    (record { map = set; over = over_empty set; kind = ap (Other stk) s })
