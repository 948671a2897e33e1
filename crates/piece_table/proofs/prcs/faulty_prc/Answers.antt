-- Each turn goes on behind a Prc that has no fault, or that no piece names.
use Rattle.std.proofs.Common.{◌≡◌, ◌+◌, ◌≤◌, length, subst, arith}
use Rattle.doc_bits.specs.Rules.{IsLeast, Among}
use Rattle.prop_map.specs.Formed.{prc_groups}
use Rattle.piece_table.specs.Clx.{ClxParts, prc_place}
use Rattle.piece_table.specs.ClxRules.{IsFaultyPrc}
use Rattle.piece_table.proofs.PrcLemmas.{fault_within, prc_ends, place_more, first_faulty, accepted_more, all_accepted}
use Rattle.piece_table.proofs.prcs.faulty_prc.Goals as goal
use Rattle.piece_table.proofs.prcs.faulty_prc.Goals.{then-marks-i+in_default, else-marks-i}

pub overflow_cast-result : goal.overflow_cast-result
overflow_cast-result c =
    let prcs = c.args.parts.now.prcs in
    let list = c.list-list.result.now in
    let place = c.requires.place in
    omega (
      arith,
      fault_within list prc_groups c.in-Some.offset c.in-Some.ensures.least.broken,
      prc_ends prcs c.loop-i.i list c.list-list.ensures,
    )

pub overflow_add-result-in-Some : goal.overflow_add-result-in-Some
overflow_add-result-in-Some c =
    let prcs = c.args.parts.now.prcs in
    let list = c.list-list.result.now in
    let place = c.requires.place in
    let here = c.loop-i.invariant.0 in
    omega (
      arith,
      fault_within list prc_groups c.in-Some.offset c.in-Some.ensures.least.broken,
      prc_ends prcs c.loop-i.i list c.list-list.ensures,
    )

pub returns-in-Some-clause-least : goal.returns-in-Some-clause-least
returns-in-Some-clause-least c =
    let parts : ClxParts = record { prcs = c.args.parts.now.prcs; plc = c.args.parts.now.plc } in
    let at = c.args.at in
    let i = c.loop-i.i in
    let offset = c.in-Some.offset in
    let here = c.loop-i.invariant.0 in
    let place : at + (prc_place parts.prcs i + 3) + offset ≡ c.loop-i.place + (3 + offset) = omega arith in
    let named = (c.requires.marks.marked i).0 c.if-marks-i.true in
    subst (λ p. IsLeast (λ a b. a ≤ b) (Among (length parts.prcs) (IsFaultyPrc parts at)) p) place
    (first_faulty parts at i offset c.list-list.result.now c.loop-i.invariant.1 c.list-list.ensures named
    c.in-Some.ensures.least)

pub overflow_cast-place : goal.overflow_cast-place
overflow_cast-place c =
    let place = c.requires.place in
    omega (arith, prc_ends c.args.parts.now.prcs c.loop-i.i c.list-list.result.now c.list-list.ensures)

pub overflow_add-place-in-loop-i : goal.overflow_add-place-in-loop-i
overflow_add-place-in-loop-i c =
    let place = c.requires.place in
    let here = c.loop-i.invariant.0 in
    omega (arith, prc_ends c.args.parts.now.prcs c.loop-i.i c.list-list.result.now c.list-list.ensures)

pub loop-i-preserved : goal.loop-i-preserved
loop-i-preserved c =
    let parts : ClxParts = record { prcs = c.args.parts.now.prcs; plc = c.args.parts.now.plc } in
    let i = c.loop-i.i in
    let list = c.list-list.result.now in
    let here = c.loop-i.invariant.0 in
    let place : c.loop-i.place + (3 + length list) ≡ c.args.at + prc_place parts.prcs (i + 1) = omega (
      arith,
      place_more parts.prcs i list c.list-list.ensures,
    ) in
    elim c.if-marks-i.branch [
      | then-marks-i+in_default w ↦ (
        place,
        accepted_more parts i list c.loop-i.invariant.1 c.list-list.ensures
            (λ named. w.in_default.ensures.accepted),
      )
      | else-marks-i w ↦ (
        place,
        accepted_more parts i list c.loop-i.invariant.1 c.list-list.ensures
            (λ named. let marked = (c.requires.marks.marked i).1 named in absurd (cc (w.if-marks-i.false, marked))),
      )
    ]

pub returns-clause-least : goal.returns-clause-least
returns-clause-least c =
    let parts : ClxParts = record { prcs = c.args.parts.now.prcs; plc = c.args.parts.now.plc } in
    let ended = c.loop-i-test.false in
    all_accepted parts c.args.at c.loop-i.i (omega (arith, c.len-i-end.ensures)) c.loop-i.invariant.1

pub returns-clause-accepted : goal.returns-clause-accepted
returns-clause-accepted c = λ number grpprl low named is.
    let ended = c.loop-i-test.false in
    c.loop-i.invariant.1 number grpprl (omega (arith, c.len-i-end.ensures)) named is
