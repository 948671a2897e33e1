use Rattle.std.proofs.Common.{◌∙◌, ap, sym, ◌∷◌, [], slice_range, List, ℕ}
use Rattle.deleted_text.specs.Deletions.{deleted_by}
use Rattle.deleted_text.proofs.ListLemmas.{says_none, says_more, says_all}
use Rattle.deleted_text.proofs.lists.last_says.Goals as goal

pub loop-code-init : goal.loop-code-init
loop-code-init c = record {
  bytes = ap (λ s. s.bytes) c.new-prls.ensures;
  so_far = λ prls spelt. says_none prls c.args.list.now c.new-prls.result c.new-prls.ensures spelt;
}

pub loop-code-preserved : goal.loop-code-preserved
loop-code-preserved c =
    let inv = c.loop-code.invariant in
    let from = c.in-Some.from in
    let to = c.in-Some.to in
    record {
      bytes = c.in-Some.ensures.given.bytes ∙ inv.bytes;
      so_far = λ prls spelt.
          let so_far = inv.so_far prls spelt in
          says_more prls c.loop-code.prls c.next.new.self c.loop-code.deleted c.after_sprm-deleted.result c.in-Some.code.0
          from to so_far (c.in-Some.ensures.taken so_far.others so_far.spelt)
          (c.after_sprm-deleted.ensures
          ∙ ap (λ (bytes : List ℕ). deleted_by c.loop-code.deleted
          ((c.in-Some.code.0, slice_range bytes from to) ∷ [])) (sym inv.bytes));
    }

pub returns : goal.returns
returns c = λ prls spelt.
    let so_far = c.loop-code.invariant.so_far prls spelt in
    says_all prls c.loop-code.prls c.loop-code.deleted so_far (c.in_default.ensures.taken so_far.others so_far.spelt)
