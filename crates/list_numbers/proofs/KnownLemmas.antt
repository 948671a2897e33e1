-- The values of styles that were met.
use Rattle.std.proofs.Common.{◌≡◌, ◌≢◌, inl, inr, ℕ, ◌<◌, List, [], ◌∷◌, ◌++◌, length, get_or, set, Option}
use Rattle.std.proofs.Common.{Some, None, refl, sym}
use Rattle.std.proofs.Common.{ap, ◌∙◌, subst, arith, length-set, get_or-set_same, get_or-set_other}
use Rattle.std.proofs.lemmas.Bool.{cases_lt}
use Rattle.std.proofs.lemmas.Option.{same_Some, slice_get_within, slice_get-get_or, get_or_from_slice_get}
use Rattle.style_sheet.specs.Sheet.{Sheet}
use Rattle.doc_model.specs.declared.item.Mark.{Mark}
use Rattle.list_numbers.specs.declared.mark_values.MarkValues.{MarkValues}
use Rattle.list_numbers.specs.MarkValues.{AreStyleValues, AreMarkValues, AreKnownValues, own_values, over}
use Rattle.list_numbers.proofs.MarkValueLemmas.{values_more}

-- a mark's own values over those of its style
pub mark_said : (sheet : Sheet) (mark : Mark) (below values : MarkValues) → AreStyleValues sheet mark.istd below →
    values ≡ over (own_values mark.pap) below → AreMarkValues sheet mark values
mark_said sheet mark below values h e = record {
  layers = h.layers ++ mark.pap ∷ [];
  are = record { of_style = h.layers; style = h.are; are = refl };
  said = e ∙ (ap (over (own_values mark.pap)) h.said ∙ sym (values_more h.layers mark.pap));
}

-- one style more is known
pub known_more : (sheet : Sheet) (known : List (Option MarkValues)) (istd : ℕ) (values : MarkValues) → AreKnownValues
    sheet known → AreStyleValues sheet istd values → istd < length known → AreKnownValues sheet (set known istd
    (Some values))
known_more sheet known istd values h own low i v there =
    let new : List (Option MarkValues) = set known istd (Some values) in
    let inside : i < length new = slice_get_within new i (Some v) there in
    let within : i < length known = subst (λ n. i < n) (length-set known istd (Some values)) inside in
    let found : get_or new i None ≡ Some v = get_or_from_slice_get new i (Some v) None there in
    let apart : i ≢ istd → AreStyleValues sheet i v = (λ ne. h i v (slice_get-get_or known i None within ∙ ap Some
    (sym (get_or-set_other known istd i (Some values) None ne) ∙ found))) in
    elim (cases_lt i istd) [
      | inl less ↦ apart (λ e. omega arith)
      | inr up ↦ elim (cases_lt istd i) [
        | inl more ↦ apart (λ e. omega arith)
        | inr near ↦
            let e : istd ≡ i = omega arith in
            let same : values ≡ v = same_Some values v (sym (get_or-set_same known istd (Some values) None low) ∙ (ap
            (λ k. get_or new k None) e ∙ found)) in
            subst (λ k. AreStyleValues sheet k v) e (subst (AreStyleValues sheet istd) same own)
      ]
    ]
