use Rattle.std.proofs.Common.{ℕ, inl, inr, length, drop, subst, arith}
use Rattle.std.proofs.lemmas.Bool.{cases_lt}
use Rattle.std.proofs.lemmas.List.{get_or_past}
use Rattle.doc_bits.specs.Number.{AreBytes}
use Rattle.piece_table.specs.Front.{IsPrcFront}
use Rattle.part_skips.proofs.PrcLemmas.{front_none, front_more, front_all}
use Rattle.part_skips.proofs.prcs.skip_prcs.Goals as goal
use Rattle.doc_bits.proofs.Public.{rest_is}

pub loop-len-init : goal.loop-len-init
loop-len-init c = front_none c.args.clx.now

pub loop-len-preserved : goal.loop-len-preserved
loop-len-preserved c =
    let now = c.loop-len.clx in
    let at = c.loop-len.at in
    let bytes : AreBytes c.args.clx.now = λ i. elim (cases_lt i (length c.args.clx.now)) [
      | inl low ↦ grind (arith, c.type_inv.clx i)
      | inr past ↦ let none = get_or_past c.args.clx.now i 0 past in omega arith
    ] in
    let front : IsPrcFront (drop at now) c.in-Some.len =
    subst (λ rest. IsPrcFront rest c.in-Some.len) (rest_is now at) c.in-Some.ensures in
    front_more c.args.clx.now now c.skip_list.new.list at c.in-Some.len bytes c.loop-len.invariant front
    c.skip_list.ensures c.skip_list.auto.list

pub returns : goal.returns
returns c =
    front_all c.args.clx.now c.loop-len.clx c.loop-len.at c.loop-len.invariant
    (subst (λ rest. (size : ℕ) → ¬ (IsPrcFront rest size)) (rest_is c.loop-len.clx c.loop-len.at)
    c.in_default.ensures)
