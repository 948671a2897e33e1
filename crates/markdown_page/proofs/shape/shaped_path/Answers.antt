use Rattle.std.proofs.Common.{◌≡◌, ◌+◌, ◌<◌, ◌≤◌, ◌++◌, List, [], length, ap, ◌∙◌, arith, take}
use Rattle.std.specs.Prelude.{Bool, Option, filter, slice_get}
use Rattle.std.specs.List.{cons_option}
use Rattle.view_places.specs.declared.element.Element.{Element}
use Rattle.markdown_page.specs.Shape.{keeps, element_kind}
use Rattle.markdown_page.proofs.ShapeLemmas.{kept_few, kept_next}
use Rattle.markdown_page.proofs.shape.shaped_path.Goals as goal

pub push_kept-requires : goal.push_kept-requires
push_kept-requires c =
    let few = c.loop-i.invariant.few in
    let most = c.len-i-end.ensures.most in
    omega (arith, few, most)

pub loop-i-preserved : goal.loop-i-preserved
loop-i-preserved c =
    let old = c.loop-i in
    let to = c.args.to.now in
    let keep : Element → Bool = λ element. keeps c.inner_kind-inner.result c.is_space-space.result (element_kind
    element) in
    let len = c.len-i-end.ensures.len in
    let few = old.invariant.few in
    let within : old.i < length to = omega (arith, len) in
    let put : c.push_kept.new.path ≡ old.path ++ filter keep (cons_option (slice_get to old.i) []) =
    c.push_kept.ensures
    ∙ ap (λ (element : Option Element). old.path ++ filter keep (cons_option element [])) c.get.ensures in
    let more = kept_few keep old.path c.push_kept.new.path (slice_get to old.i) put in
    record {
      kept =
          put ∙ ap (λ (path : List Element). path ++ filter keep (cons_option (slice_get to old.i) [])) old.invariant.kept
          ∙ kept_next keep to old.i within;
      few = omega (arith, few, more);
    }
