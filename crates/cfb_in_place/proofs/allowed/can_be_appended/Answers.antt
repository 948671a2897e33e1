use Rattle.std.proofs.Common.{List, ℕ, ap, ◌∙◌, subst, refl}
use Rattle.cfb_in_place.specs.Change.{NamedChange}
use Rattle.cfb_in_place.specs.Contract.{IsNamed}
use Rattle.cfb_in_place.proofs.AllowedLemmas.{can_be, all_fit}
use Rattle.cfb_in_place.proofs.allowed.can_be_appended.Goals as goal

pub returns : goal.returns
returns c =
    let name = c.as_slice.ensures ∙ ap (λ (x : NamedChange). x.name) c.change.view_is in
    let main = subst (λ (n : List ℕ). (i : ℕ) × IsNamed c.args.container.now i n) c.word_document.ensures
    (c.if-not-has_named.ensures.0 refl) in
    let other = subst (λ (n : List ℕ). (i : ℕ) × IsNamed c.args.container.now i n) name
    (c.if-not-has_named-2.ensures.0 refl) in (
      λ t. can_be c.args.container.now c.args.change.now (c.if-not-has_lengths.ensures.0 refl) main other
          (c.all_fit.ensures.0 t),
      λ can. c.all_fit.ensures.1 (all_fit c.args.container.now c.args.change.now can),
    )
