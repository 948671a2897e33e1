-- Texts that get an end behind them.
use Rattle.std.proofs.Common.{◌≡◌, ◌∙◌, ap, sym, refl, subst, ℕ, ◌-◌, ◌==◌, Bool, true, false}
use Rattle.std.proofs.Common.{List, [], ◌∷◌, ◌++◌, length, take, drop, set, arith, Option, Some, None, slice_get}
use Rattle.std.specs.Prelude.{if◌then◌else◌}
use Rattle.std.specs.Option.{ForSome}
use Rattle.std.specs.FinMap.{empty}
use Rattle.prop_map.specs.Settings.{Properties}
use Rattle.prop_map.specs.Formed.{IsPropertyMap, character_groups, paragraph_groups, section_groups}
use Rattle.prop_map.proofs.Public.{IsPropertyMap-empty}
use Rattle.doc_model.specs.declared.item.Mark.{Mark}
use Rattle.doc_model.specs.Document.{HasPropertyMaps}
use Rattle.std.specs.List.{splice}
use Rattle.std.proofs.lemmas.List.{append-nil, drop_all, set-get_or}
use Rattle.std.proofs.lemmas.Option.{get_or_from_slice_get, same_Some}
use Rattle.doc_model.specs.declared.item.Item.{Item}
use Rattle.doc_patch.specs.Changes.{changed_at, put_changed}
use Rattle.doc_mends.specs.Ends.{is_ended, ended_text, with_end, last_item, last_left, ending_item}

-- ---- a text that ends right stays

if_ended : (is : Bool) (text : List Item) → is ≡ true → (if is then text else ended_text text) ≡ text
if_ended true text is = refl
if_ended false text is = absurd (cc is)

pub stays_ended : (is_head : Bool) (text : List Item) → is_ended is_head text ≡ true → with_end is_head text ≡ text
stays_ended is_head text is = if_ended (is_ended is_head text) text is

if_open : (is : Bool) (text : List Item) → is ≡ false → (if is then text else ended_text text) ≡ ended_text text
if_open true text is = absurd (cc is)
if_open false text is = refl

pub gets_end : (is_head : Bool) (text : List Item) → is_ended is_head text ≡ false → with_end is_head text ≡ ended_text
    text
gets_end is_head text is = if_open (is_ended is_head text) text is

-- an entry that a function leaves as it is
pub stays_at : {A : Type 0} (f : A → A) (xs : List A) (k : ℕ) (x : A) → slice_get xs k ≡ Some x → f x ≡ x →
    changed_at xs k f ≡ xs
stays_at f xs k x is same =
    ap (put_changed xs k f) is ∙ (ap (set xs k) (same ∙ sym (get_or_from_slice_get xs k x x is)) ∙ set-get_or xs k x)

-- the last item and what is in its place
pub ended_is : (text made fresh : List Item) (len from : ℕ) → len ≡ length text → from ≡ len - 1 →
    fresh ≡ last_left (last_item text) ++ ending_item (last_item text) ∷ [] → made ≡ splice text from len fresh →
    made ≡ ended_text text
ended_is text made fresh len from len_is from_is fresh_is is =
    let at : from ≡ length text - 1 = from_is ∙ ap (λ (n : ℕ). n - 1) len_is in
    is
    ∙ (ap (λ (n : ℕ). take n text ++ (fresh ++ drop len text)) at
    ∙ (ap (λ (t : List Item). take (length text - 1) text ++ (fresh ++ t)) (drop_all len text (omega (arith, len_is)))
    ∙ (ap (λ (t : List Item). take (length text - 1) text ++ t) (append-nil fresh)
    ∙ ap (λ (t : List Item). take (length text - 1) text ++ t) fresh_is)))

-- ---- maps stay well formed

if_some : {A : Type 0} (P : A → Type 0) (is : Bool) (o : Option A) → ForSome o P →
    ForSome (if is then o else None) P
if_some P true o some x is = some x is
if_some P false o some x is = absurd (cc is)

pub left_maps : (item : Item) (mark : Option Mark) → mark ≡ (if item.unit == 7 then item.mark else None) →
    HasPropertyMaps item → HasPropertyMaps (record item { mark = mark; sect = None })
left_maps item mark is maps = record {
  chp = maps.chp;
  pap = subst (λ (o : Option Mark). ForSome o (λ mark. IsPropertyMap paragraph_groups mark.pap)) (sym is)
      (if_some (λ (m : Mark). IsPropertyMap paragraph_groups m.pap) (item.unit == 7) item.mark maps.pap);
  sect = λ map there. absurd (cc there);
}

pub ending_maps : (sect : Option Properties) → ForSome sect (IsPropertyMap section_groups) →
    HasPropertyMaps (record {
      unit = 13;
      fld = None;
      note = None;
      chp = empty;
      mark = Some (record { istd = 0; pap = empty });
      sect = sect;
    })
ending_maps sect maps = record {
  chp = IsPropertyMap-empty character_groups;
  pap = λ mark is. subst (λ (m : Mark). IsPropertyMap paragraph_groups m.pap) (same_Some (record { istd = 0; pap = empty }) mark is)
      (IsPropertyMap-empty paragraph_groups);
  sect = maps;
}
