-- The lists of the levels, one by one.
use Rattle.std.proofs.Common.{◌≡◌, ◌∙◌, ◌+◌, ◌*◌, ◌≤◌, ◌++◌, List, length, refl, sym, ap, subst, arith, append-nil, append_assoc}
use Rattle.std.proofs.Common.{ℕ, suc}
use Rattle.view_places.specs.declared.element.Element.{Element}
use Rattle.doc_places.specs.Lists.{frame_at, frame_elements, level_elements}
use Rattle.doc_places.proofs.PathLemmas.{put_behind}
use Rattle.doc_places.proofs.lists.Lists.push.Goals as goal

pub loop-level-init : goal.loop-level-init
loop-level-init c = record { is = sym (append-nil c.args.path.now); few = omega arith }

pub loop-level-preserved : goal.loop-level-preserved
loop-level-preserved c =
    let old = c.loop-level in
    let lists = c.args.self in
    let put = c.push_frame in
    let more = put.ensures.few in
    let few = old.invariant.few in
    let one : suc old.level ≡ old.level + 1 = omega arith in
    let next : level_elements lists old.level ++ frame_elements (frame_at lists old.level) ≡ level_elements lists
    (old.level + 1) = ap (level_elements lists) one in
    record {
      is =
          put_behind c.args.path.now old.path put.new.path (level_elements lists old.level) (frame_elements (frame_at
          lists old.level)) old.invariant.is (put.ensures.is ∙ ap (λ f. old.path ++ frame_elements f) c.at.ensures)
          ∙ ap (λ (e : List Element). c.args.path.now ++ e) next;
      few = omega (arith, more, few);
    }
