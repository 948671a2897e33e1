-- A part holds one sheet at most.
use Rattle.std.proofs.Common.{◌≡◌, ℕ, List, [], Option, Some, None, refl, sym, ◌∙◌, ap, subst, arith}
use Rattle.std.specs.FinMap.{empty}
use Rattle.std.proofs.lemmas.List.{ext_get_or}
use Rattle.sprm_table.proofs.Public.{spelt_unique}
use Rattle.prop_map.specs.Settings.{Properties}
use Rattle.prop_map.specs.Acting.{ArePropertiesAfter}
use Rattle.prop_map.proofs.Public.{acting_one}
use Rattle.style_sheet.specs.declared.styles.Style.{Style}
use Rattle.style_sheet.specs.declared.styles.Kind.{Kind}
use Rattle.style_sheet.specs.declared.styles.Kind.TheVariants.{Para, Char, Other}
use Rattle.style_sheet.specs.Sheet.{style_at}
use Rattle.style_sheet.specs.StyleDefinition.{IsMapOf, IsStyleName, AreUpxes, SpellsKind, SpellsStyle}
use Rattle.style_sheet.specs.Counted.{counted_bytes}
use Rattle.style_sheet.specs.Stsh.{std_base, slot_place, SpellsSlotAt}
use Rattle.style_sheet.specs.Written.{SheetIsOne}

map_one : (bytes : List ℕ) (groups : ℕ) (a b : Properties) → IsMapOf bytes groups a → IsMapOf bytes groups b → a ≡ b
map_one bytes groups a b one other =
    acting_one one.list groups empty a b one.acted
    (subst (λ list. ArePropertiesAfter list groups empty b) (sym (spelt_unique bytes one.list other.list one.spelt
    other.spelt)) other.acted)

upxes_one : (std : List ℕ) (base : ℕ) (a b : List (List ℕ)) → AreUpxes std base a → AreUpxes std base b → a ≡ b
upxes_one std base a b one other =
    let x = one.count in
    ext_get_or [] a b (one.count ∙ sym other.count) (λ k h. one.each k _ (omega arith) ∙ sym (other.each k _
    (omega arith)))

name_one : (std : List ℕ) (base : ℕ) (a b : List ℕ) → IsStyleName std base a → IsStyleName std base b → a ≡ b
name_one std base a b one other =
    let x = one.count in
    ext_get_or 0 a b (one.count ∙ sym other.count) (λ k h. one.each k (omega arith) ∙ sym (other.each k (omega arith)))

kind_one : (std : List ℕ) (base : ℕ) (a b : Kind) → SpellsKind std base a → SpellsKind std base b → a ≡ b
kind_one std base (Para pap chp) (Para q d) s t = λ i. Para (map_one _ _ pap q s.1.0 t.1.0 i) (map_one _ _ chp d s.1.1
    t.1.1 i)
kind_one std base (Para pap chp) (Char d) s t = let x = s.0 in let y = t.0 in absurd (omega arith)
kind_one std base (Para pap chp) (Other n upxes) s t = let x = s.0 in let y = t.1.0 in absurd (omega arith)
kind_one std base (Char chp) (Para q d) s t = let x = s.0 in let y = t.0 in absurd (omega arith)
kind_one std base (Char chp) (Char d) s t = ap Char (map_one _ _ chp d s.1 t.1)
kind_one std base (Char chp) (Other n upxes) s t = let x = s.0 in let y = t.1.0 in absurd (omega arith)
kind_one std base (Other n upxes) (Para q d) s t = let x = s.1.0 in let y = t.0 in absurd (omega arith)
kind_one std base (Other n upxes) (Char d) s t = let x = s.1.0 in let y = t.0 in absurd (omega arith)
kind_one std base (Other n upxes) (Other m others) s t = λ i. Other ((s.0 ∙ sym t.0) i) (upxes_one std base upxes
    others s.1.1 t.1.1 i)

style_one : (std : List ℕ) (base : ℕ) (a b : Style) → SpellsStyle std base a → SpellsStyle std base b → a ≡ b
style_one std base a b s t = λ i. record {
  sti = (s.sti ∙ sym t.sti) i;
  flags = (s.flags ∙ sym t.flags) i;
  base = (s.base ∙ sym t.base) i;
  next = (s.next ∙ sym t.next) i;
  grfstd = (s.grfstd ∙ sym t.grfstd) i;
  name = name_one std base a.name b.name s.name t.name i;
  kind = kind_one std base a.kind b.kind s.kind t.kind i;
}

slot_one : (part : List ℕ) (base place : ℕ) (a b : Option Style) → SpellsSlotAt part base place a → SpellsSlotAt part
    base place b → a ≡ b
slot_one part base place None None s t = refl
slot_one part base place None (Some y) s t = let low = t.0 in absurd (omega arith)
slot_one part base place (Some x) None s t = let low = s.0 in absurd (omega arith)
slot_one part base place (Some x) (Some y) s t = ap Some (style_one (counted_bytes part place) base x y s.1 t.1)

pub sheets_agree : SheetIsOne
sheets_agree part one other a b =
    let count = a.slots in
    let styles : one.styles ≡ other.styles = ext_get_or None one.styles other.styles (a.slots ∙ sym b.slots)
    (λ k h. slot_one part (std_base part) (slot_place part k) (style_at one k) (style_at other k)
    (a.styles k (omega arith)) (b.styles k (omega arith))) in
    λ i. record { head = (a.head ∙ sym b.head) i; styles = styles i }
