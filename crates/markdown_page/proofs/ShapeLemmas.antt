-- Elements that are kept, one after another.
use Rattle.std.proofs.Common.{◌≡◌, ℕ, ◌+◌, ◌<◌, ◌≤◌, Bool, true, false, List, [], ◌∷◌, ◌++◌, Option, Some, None, arith, length, length-append, take, sym, ap, ◌∙◌}
use Rattle.std.specs.Prelude.{filter, get_or, if◌then◌else◌, slice_get}
use Rattle.std.specs.List.{cons_option}
use Rattle.std.proofs.lemmas.List.{take_more}
use Rattle.std.proofs.lemmas.List.Elements.{filter-append}
use Rattle.std.proofs.lemmas.Option.{slice_get-get_or}
use Rattle.view_places.specs.declared.element.Element.{Element}
use Rattle.view_places.specs.declared.element.Element.TheVariants.{Notes}

pub kept_next : (keeps : Element → Bool) (path : List Element) (i : ℕ) → i < length path →
    filter keeps (take i path) ++ filter keeps (cons_option (slice_get path i) []) ≡ filter keeps (take (i + 1) path)
kept_next keeps path i within =
    let next = get_or path i Notes in
    ap (λ (element : Option Element). filter keeps (take i path) ++ filter keeps (cons_option element []))
    (slice_get-get_or path i Notes within)
    ∙ sym (filter-append keeps (take i path) (next ∷ []))
    ∙ ap (filter keeps) (sym (take_more path i Notes within))

-- at most one element more
kept_one : (keeps : Element → Bool) (element : Option Element) → length (filter keeps (cons_option element [])) ≤ 1
kept_one keeps None = omega arith
kept_one keeps (Some element) =
    elim (keeps element) as (λ (b : Bool). length (if b then element ∷ [] else []) ≤ 1) [
      | true ↦ omega arith
      | false ↦ omega arith
    ]

pub kept_few : (keeps : Element → Bool) (path next : List Element) (element : Option Element) →
    next ≡ path ++ filter keeps (cons_option element []) → length next ≤ length path + 1
kept_few keeps path next element is =
    let long = length-append path (filter keeps (cons_option element [])) in
    let few = kept_one keeps element in
    let same : length next ≡ length (path ++ filter keeps (cons_option element [])) =
    ap (λ (p : List Element). length p) is in
    omega (arith, same, long, few)
