-- Each turn adds one Prc; at the end no Prc follows.
use Rattle.std.proofs.Common.{ℕ, ◌+◌, drop, subst, sym, arith}
use Rattle.piece_table.specs.Front.{ArePrcs, IsPrcFront}
use Rattle.doc_bits.specs.Number.{AreBytes}
use Rattle.piece_table.proofs.ClxLemmas.{prcs_more}
use Rattle.piece_table.proofs.parts.prcs_of.Goals as goal
use Rattle.doc_bits.proofs.Public.{rest_is}

pub loop-grpprl-preserved : goal.loop-grpprl-preserved
loop-grpprl-preserved c =
    let clx = c.args.clx.now in
    let at = c.loop-grpprl.at in
    let bytes : AreBytes clx = λ i. omega (arith, c.type_inv.clx i) in
    let front : IsPrcFront (drop at clx) c.in-Some.grpprl = subst (λ rest. IsPrcFront rest c.in-Some.grpprl)
    (rest_is clx at) c.in-Some.ensures in
    subst (λ prcs. ArePrcs clx prcs (at + 3 + c.in-Some.grpprl)) (sym c.in_ok-push.ensures) (prcs_more clx
    c.loop-grpprl.prcs at c.in-Some.grpprl bytes c.loop-grpprl.invariant front)

pub returns : goal.returns
returns c =
    let clx = c.args.clx.now in
    record {
      are = c.loop-grpprl.invariant;
      none = subst (λ rest. (size : ℕ) → ¬ (IsPrcFront rest size)) (rest_is clx c.loop-grpprl.at) c.in_default.ensures;
    }
