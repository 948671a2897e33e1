-- What several crates use.
use Rattle.std.proofs.Common.{◌≡◌, ℕ, List, sym, ap, ◌∙◌, length, take}
use Rattle.std.proofs.lemmas.List.{length-take-le}
use Rattle.view_paths.specs.Turns.{IsSharedFront, IsFront}
use Rattle.view_places.specs.declared.element.Element.{Element}
use Rattle.view_places.specs.Same.{same}

pub shared_is_front : (from to : List Element) (count : ℕ) → IsSharedFront same from to count → IsFront (take count
    from) to
shared_is_front from to count is =
    let long : length (take count from) ≡ count = length-take-le count from is.within in
    ap (λ (n : ℕ). take n to) long ∙ (sym is.also ∙ is.front)
