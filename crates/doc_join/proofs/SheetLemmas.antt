-- The slots of a joined sheet: what each may hold, and one slot more.
use Rattle.std.proofs.Common.{◌≡◌, ◌∙◌, refl, sym, ap, ℕ, ◌+◌, ◌<◌, ◌≤◌, Bool, true, false, cond, List, [], ◌∷◌}
use Rattle.std.proofs.Common.{◌++◌, length, take, map, Option, Some, None, option_map, arith}
use Rattle.std.proofs.Common.{append_assoc}
use Rattle.std.proofs.lemmas.List.{take_more, map-append, length-map}
use Rattle.std.proofs.lemmas.List.FromFn.{map-range_with_len_more, length-map-range_with_len}
use Rattle.std.proofs.lemmas.Bool.{ltb-true}
use Rattle.std.specs.Prelude.{nat_lt, IfSome}
use Rattle.style_sheet.specs.declared.styles.Style.{Style}
use Rattle.style_sheet.specs.declared.styles.Kind.{Kind}
use Rattle.style_sheet.specs.declared.styles.Kind.TheVariants.{Para, Char, Other}
use Rattle.style_sheet.specs.Sheet.{Sheet, style_at}
use Rattle.style_sheet.specs.Formed.{IsFormedKind, IsFormedBase, IsFormedStyle, IsFormedSlot}
use Rattle.doc_join.specs.declared.renumbering.Renumbering.{Renumbering}
use Rattle.doc_join.specs.Numbers.{base_behind}
use Rattle.doc_join.specs.Styles.{renumbered_kind, slot_from_first}
use Rattle.doc_join.specs.Styles.{slot_from_second, slots_from_first, slots_from_second}
use Rattle.doc_join.proofs.SettingLemmas.{renumbered_formed}

-- ---- what a slot may hold

pub kind_formed : (numbers : Renumbering) (kind : Kind) → IsFormedKind kind →
    IsFormedKind (renumbered_kind numbers kind)
kind_formed numbers (Para pap chp) formed = (formed.0, renumbered_formed numbers chp formed.1)
kind_formed numbers (Char chp) formed = renumbered_formed numbers chp formed
kind_formed numbers (Other stk upxes) formed = formed

base_tested : (numbers : Renumbering) (base : ℕ) (test : Bool) → nat_lt base numbers.slots ≡ test →
    numbers.before + numbers.slots ≤ 4094 → IsFormedBase (cond test (Some (base + numbers.before)) None)
base_tested numbers base true is few = let low = ltb-true base numbers.slots is in omega (arith, few, low)
base_tested numbers base false is few = tt

pub base_formed : (numbers : Renumbering) (base : Option ℕ) → numbers.before + numbers.slots ≤ 4094 →
    IsFormedBase (base_behind numbers base)
base_formed numbers None few = tt
base_formed numbers (Some base) few = base_tested numbers base (nat_lt base numbers.slots) refl few

next_tested : (numbers : Renumbering) (istd next : ℕ) (test : Bool) → nat_lt next numbers.slots ≡ test →
    istd < numbers.slots → numbers.before + numbers.slots ≤ 4094 → cond test next istd + numbers.before < 4096
next_tested numbers istd next true is within few = let low = ltb-true next numbers.slots is in omega (arith, few, low)
next_tested numbers istd next false is within few = omega (arith, few, within)

pub first_formed : (numbers : Renumbering) (slot : Option Style) → IsFormedSlot slot →
    IsFormedSlot (slot_from_first numbers slot)
first_formed numbers None formed = tt
first_formed numbers (Some style) formed = record {
  sti = formed.sti;
  flags = formed.flags;
  base = formed.base;
  next = formed.next;
  grfstd = formed.grfstd;
  name = formed.name;
  kind = kind_formed numbers style.kind formed.kind;
}

pub second_formed : (numbers : Renumbering) (istd : ℕ) (slot : Option Style) → IsFormedSlot slot →
    istd < numbers.slots → numbers.before + numbers.slots ≤ 4094 → IsFormedSlot (slot_from_second numbers istd slot)
second_formed numbers istd None formed within few = tt
second_formed numbers istd (Some style) formed within few = record {
  sti = formed.sti;
  flags = formed.flags;
  base = base_formed numbers style.base few;
  next = next_tested numbers istd style.next (nat_lt style.next numbers.slots) refl within few;
  grfstd = formed.grfstd;
  name = formed.name;
  kind = kind_formed numbers style.kind formed.kind;
}

-- what a sheet gives is formed
pub given_formed : {A : Type 0} (f : A → Style) (slot : Option A) → IfSome slot (λ a. IsFormedStyle (f a)) →
    IsFormedSlot (option_map f slot)
given_formed f None formed = tt
given_formed f (Some a) formed = formed

-- ---- one slot more

pub first_more : (numbers : Renumbering) (sheet : Sheet) (istd : ℕ) (slot : Option Style) →
    slot ≡ style_at sheet istd → istd < length sheet.styles →
    map (slot_from_first numbers) (take istd sheet.styles) ++ slot_from_first numbers slot ∷ []
    ≡ map (slot_from_first numbers) (take (istd + 1) sheet.styles)
first_more numbers sheet istd slot is within =
    let f = slot_from_first numbers in
    ap (λ s. map f (take istd sheet.styles) ++ f s ∷ []) is
    ∙ sym (ap (map f) (take_more sheet.styles istd None within)
    ∙ map-append f (take istd sheet.styles) (style_at sheet istd ∷ []))

pub second_more : (numbers : Renumbering) (sheet : Sheet) (istd : ℕ) (slot : Option Style)
    (front : List (Option Style)) →
    slot ≡ style_at sheet istd →
    (front ++ slots_from_second numbers sheet istd) ++ slot_from_second numbers istd slot ∷ []
    ≡ front ++ slots_from_second numbers sheet (istd + 1)
second_more numbers sheet istd slot front is =
    append_assoc front (slots_from_second numbers sheet istd) (slot_from_second numbers istd slot ∷ [])
    ∙ ap (λ slots. front ++ slots)
    (ap (λ s. slots_from_second numbers sheet istd ++ slot_from_second numbers istd s ∷ []) is
    ∙ sym (map-range_with_len_more (λ i. slot_from_second numbers i (style_at sheet i)) 0 istd istd (omega arith)))

pub length-first : (numbers : Renumbering) (sheet : Sheet) →
    length (slots_from_first numbers sheet) ≡ length sheet.styles
length-first numbers sheet = length-map sheet.styles (slot_from_first numbers)

pub length-second : (numbers : Renumbering) (sheet : Sheet) (count : ℕ) →
    length (slots_from_second numbers sheet count) ≡ count
length-second numbers sheet count =
    length-map-range_with_len (λ i. slot_from_second numbers i (style_at sheet i)) 0 count
