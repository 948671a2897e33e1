use Rattle.std.proofs.Common.{length-take, length-drop, ◌≡◌, ◌≤◌, ◌+◌, ◌-◌, ◌∙◌, ℕ, List, ap, refl, subst, arith}
use Rattle.std.proofs.Common.{take, drop, length}
use Rattle.doc_bits.specs.Rules.{Nowhere}
use Rattle.sprm_table.specs.Sprm.{HasSprmFaultAt, IsAcceptedList, fault_place}
use Rattle.fkp_pages.specs.Fkp.{least_list}
use Rattle.fkp_pages.specs.Runs.{run_groups}
use Rattle.direct_props.proofs.StretchLemmas.{cut_rest}
use Rattle.direct_props.proofs.lists.list_in.Goals as goal
use Rattle.doc_bits.proofs.Public.{rest_is}

-- the bytes behind the style number, as the list is cut and as it is in the page
tail_of : (list : List ℕ) (k least : ℕ) → k ≡ least → take (length list - k) (drop k list) ≡ drop least list
tail_of list k least e = rest_is list k ∙ ap (λ n. drop n list) e

pub returns-in-None : goal.returns-in-None
returns-in-None c =
    let kind = c.args.kind in
    let page = c.args.page.now in
    let list = take (c.args.to - c.args.from) (drop c.args.from page) in
    let style = c.style_len.ensures in
    let style_too = c.style_len-2.ensures in
    let room : c.args.from + least_list kind ≤ c.args.to = omega arith in
    let tail = tail_of list c.style_len-2.result (least_list kind) style_too in
    let first = rw c.groups_of_runs.ensures at c.in-None.ensures.first in
    let accepted = rw c.groups_of_runs.ensures at (c.in-None.ensures.accepted.0 refl) in (
      record {
        room = room;
        within = omega arith;
        sprms = subst (λ l. Nowhere (HasSprmFaultAt l (run_groups kind))) (tail ∙ cut_rest page c.args.from c.args.to
            (least_list kind) room) first;
      },
      (
        (refl, simp (length-take, length-drop) (omega arith)),
        subst (λ l. IsAcceptedList l (run_groups kind)) tail
            accepted,
      ),
    )

pub returns-in-Some : goal.returns-in-Some
returns-in-Some c = λ right.
    let kind = c.args.kind in
    let page = c.args.page.now in
    let list = take (c.args.to - c.args.from) (drop c.args.from page) in
    let tail = tail_of list c.style_len-2.result (least_list kind) c.style_len-2.ensures in
    let first = rw c.groups_of_runs.ensures at c.in-Some.ensures.first in
    right.sprms (fault_place c.in-Some.field-0) (subst (λ l. HasSprmFaultAt l (run_groups kind) (fault_place
    c.in-Some.field-0)) (tail ∙ cut_rest page c.args.from c.args.to (least_list kind) right.room)
    first.least.broken)
