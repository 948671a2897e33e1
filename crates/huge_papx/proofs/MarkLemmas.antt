-- The mark beside a unit of a text.
use Rattle.std.specs.Prelude.{slice_get}
use Rattle.std.proofs.Common.{◌≡◌, ◌∙◌, sym, ap, subst, refl, ℕ, zero, suc, List, [], ◌∷◌, length, map, Option, Some, None, All}
use Rattle.std.specs.Option.{option_and_then, ForSome}
use Rattle.std.proofs.lemmas.List.Elements.{All-head, All-tail}
use Rattle.prop_map.specs.Formed.{IsPropertyMap, paragraph_groups}
use Rattle.doc_model.specs.declared.item.Item.{Item}
use Rattle.doc_model.specs.declared.item.Mark.{Mark}
use Rattle.doc_model.specs.Document.{IsFormedItem, IsFormedText}
use Rattle.doc_columns.specs.declared.attached.Attached.{Attached}
use Rattle.doc_columns.specs.Attached.{attached_of}
use Rattle.huge_papx.specs.Rows.{HasParagraphMap, item_mark_at}

pub mark_there : (text : List Item) (at : ℕ) (attached : Attached) →
    slice_get (map attached_of text) at ≡ Some attached → item_mark_at text at ≡ attached.mark
mark_there [] at attached there = absurd (cc there)
mark_there (item ∷ items) zero attached there = let same : attached_of item ≡ attached = cc there in ap (λ (a : Attached). a.mark) same
mark_there (item ∷ items) (suc at) attached there = mark_there items at attached there

each_formed : (text : List Item) (at : ℕ) (attached : Attached) → All IsFormedItem text →
    slice_get (map attached_of text) at ≡ Some attached → HasParagraphMap attached.mark
each_formed [] at attached formed there = absurd (cc there)
each_formed (item ∷ items) zero attached formed there =
    let same : attached_of item ≡ attached = cc there in
    subst (λ (a : Attached). HasParagraphMap a.mark) same (All-head IsFormedItem item items formed).maps.pap
each_formed (item ∷ items) (suc at) attached formed there =
    each_formed items at attached (All-tail IsFormedItem item items formed) there

-- its properties are of paragraphs
pub mark_formed : (text : List Item) (at : ℕ) (attached : Attached) → IsFormedText text →
    slice_get (map attached_of text) at ≡ Some attached → HasParagraphMap attached.mark
mark_formed text at attached formed there = each_formed text at attached formed.each there
