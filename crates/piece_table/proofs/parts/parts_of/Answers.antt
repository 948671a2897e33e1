-- After the Prcs a Pcdt follows, or something else.
use Rattle.std.proofs.Common.{drop, refl, subst, arith}
use Rattle.doc_bits.specs.Plc.{PlcPart}
use Rattle.doc_bits.proofs.Public.{least_from, rest_is}
use Rattle.piece_table.specs.Clx.{IsWrongClxAt}
use Rattle.piece_table.specs.Front.{IsPcdtFront}
use Rattle.doc_bits.specs.Number.{AreBytes}
use Rattle.piece_table.proofs.ClxLemmas.{parts_found, parts_wrong}
use Rattle.piece_table.proofs.ClxRuleLemmas.{nowhere_from}
use Rattle.piece_table.proofs.parts.parts_of.Goals as goal

pub returns-in-Some : goal.returns-in-Some
returns-in-Some c =
    let clx = c.args.clx.now in
    let end = c.in_ok-prcs.end in
    let plc = c.in-Some.plc in
    let bytes : AreBytes clx = λ i. omega (arith, c.type_inv.clx i) in
    let front : IsPcdtFront (drop end clx) plc = subst (λ rest. IsPcdtFront rest plc) (rest_is clx end)
    c.in-Some.ensures in
    let found = parts_found clx c.in_ok-prcs.prcs end plc bytes c.in_ok-prcs.ensures.are front in
    (nowhere_from (IsWrongClxAt clx) c.args.at found.0, found.1)

pub returns : goal.returns
returns c =
    let clx = c.args.clx.now in
    let end = c.in_ok-prcs.end in
    let none : (plc : PlcPart) → ¬ (IsPcdtFront (drop end clx) plc) = subst (λ rest. (plc : PlcPart) →
    ¬ (IsPcdtFront rest plc)) (rest_is clx end) c.in-None.ensures in (
      refl,
      least_from (IsWrongClxAt clx) c.args.at end (parts_wrong clx c.in_ok-prcs.prcs end c.in_ok-prcs.ensures
          none),
    )
