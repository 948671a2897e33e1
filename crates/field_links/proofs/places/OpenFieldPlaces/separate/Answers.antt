use Rattle.std.proofs.Common.{◌≡◌, ◌+◌, ◌-◌, ◌<◌, length, take, None, Some, ap, ◌∙◌, subst, arith, get_or, set}
use Rattle.field_links.specs.OpenFields.{result_begun}
use Rattle.field_links.specs.declared.places.OpenField.{OpenField}
use Rattle.field_links.proofs.OpenLemmas.{separated-set}
use Rattle.field_links.proofs.places.OpenFieldPlaces.separate.Goals as goal

pub returns-then-self-gt0 : goal.returns-then-self-gt0
returns-then-self-gt0 c =
    let fields = c.self.inside.fields in
    let at = c.self.inside.len - 1 in
    let none : OpenField = record { kind = 0; began = 0; result = None } in
    let made : OpenField =
    record {
      kind = (get_or fields at none).kind;
      began = (get_or fields at none).began;
      result = Some (c.args.place
          + 1);
    } in
    let within : at < length fields = omega (arith, c.self.invariant.0, c.self.invariant.1) in
    let count : at + 1 ≡ c.self.inside.len = omega arith in
    subst (λ n. take n (set fields at made) ≡ result_begun c.args.place (take n fields)) count
    (separated-set fields at none c.args.place within)
    ∙ ap (result_begun c.args.place) c.self.view_is
