-- The rules on the pieces, on the Prcs that they name, and on the modifiers of these.
use Rattle.std.proofs.Common.{◌+◌, ◌-◌, ◌^◌, refl, inl, inr, sym, subst, All, arith}
use Rattle.std.proofs.lemmas.Result.{err_from_is_err_and}
use Rattle.piece_table.specs.Clx.{ClxParts}
use Rattle.piece_table.specs.ClxRules.{StaysInStream}
use Rattle.piece_table.specs.Piece.{bare_piece}
use Rattle.piece_table.proofs.PieceLemmas.{total_of_pieces, All-seen}
use Rattle.piece_table.proofs.FitLemmas.{pieces_fit}
use Rattle.piece_table.proofs.ClxRuleLemmas.{ascends_of, ends_of, stays_of, read_prms, hold_pieces, fault_pieces}
use Rattle.piece_table.proofs.ClxRuleLemmas.{fault_long}
use Rattle.piece_table.proofs.reading.read_parts.Goals as goal

pub returns-in_err-check-clause-read : goal.returns-in_err-check-clause-read
returns-in_err-check-clause-read c =
    let parts : ClxParts = record { prcs = c.args.parts.now.prcs; plc = c.args.parts.now.plc } in
    let p = err_from_is_err_and c.from_residual.result c.from_residual.ensures.1 in
    rw (p.1, p.2) (fault_pieces parts c.args.at c.args.parts.now.place c.args.bounds c.args.text_len
    c.in_err-check.field-0.0 c.requires.place_is (rw c.len.ensures at c.in_err-check.ensures))

pub named_prcs-requires-clause-read : goal.named_prcs-requires-clause-read
named_prcs-requires-clause-read c =
    let parts : ClxParts = record { prcs = c.args.parts.now.prcs; plc = c.args.parts.now.plc } in
    rw c.len.ensures at (read_prms parts.plc (c.args.at + c.args.parts.now.place) c.len.result
    c.in_ok-check.ensures.1.1)

pub returns-in-Some-clause-read : goal.returns-in-Some-clause-read
returns-in-Some-clause-read c =
    let parts : ClxParts = record { prcs = c.args.parts.now.prcs; plc = c.args.parts.now.plc } in
    let holds = hold_pieces parts c.args.at c.args.parts.now.place c.args.bounds c.args.text_len c.requires.place_is
    (rw c.len.ensures at c.in_ok-check.ensures) in
    inr (holds, inl (refl, c.in-Some.ensures.least))

pub returns-in_err-modifiers-clause-read : goal.returns-in_err-modifiers-clause-read
returns-in_err-modifiers-clause-read c =
    let parts : ClxParts = record { prcs = c.args.parts.now.prcs; plc = c.args.parts.now.plc } in
    let holds = hold_pieces parts c.args.at c.args.parts.now.place c.args.bounds c.args.text_len c.requires.place_is
    (rw c.len.ensures at c.in_ok-check.ensures) in
    let p = err_from_is_err_and c.from_residual-in_err-modifiers.result c.from_residual-in_err-modifiers.ensures.1 in
    rw (p.1, p.2) (fault_long parts c.args.at c.args.bounds c.args.text_len c.in_err-modifiers.field-0.0 holds
    c.in_default.ensures.least c.in_err-modifiers.ensures)

pub pieces_of-requires-clause-cps : goal.pieces_of-requires-clause-cps
pieces_of-requires-clause-cps c = ascends_of c.args.parts.now.plc (c.args.at + c.args.parts.now.place) c.args.text_len
    c.in_ok-check.ensures.0

pub pieces_of-requires-clause-within : goal.pieces_of-requires-clause-within
pieces_of-requires-clause-within c = ends_of c.args.parts.now.plc (c.args.at + c.args.parts.now.place) c.args.bounds
    (2 ^ 32 - 1) (omega (arith, c.requires.end)) c.in_ok-check.ensures.1.0

pub pieces_of-requires-clause-read : goal.pieces_of-requires-clause-read
pieces_of-requires-clause-read c =
    let parts : ClxParts = record { prcs = c.args.parts.now.prcs; plc = c.args.parts.now.plc } in
    rw c.len.ensures at (read_prms parts.plc (c.args.at + c.args.parts.now.place) c.len.result
    c.in_ok-check.ensures.1.1)

pub returns-clause-read : goal.returns-clause-read
returns-clause-read c =
    let parts : ClxParts = record { prcs = c.args.parts.now.prcs; plc = c.args.parts.now.plc } in
    let holds = hold_pieces parts c.args.at c.args.parts.now.place c.args.bounds c.args.text_len c.requires.place_is
    (rw c.len.ensures at c.in_ok-check.ensures) in (
      (holds, (c.in_default.ensures.least, c.in_ok-modifiers.ensures.0)),
      (
        c.in_ok-list.ensures.pieces,
        c.in_ok-list.ensures.modifiers,
      ),
    )

pub returns-clause-within : goal.returns-clause-within
returns-clause-within c =
    let plc = c.args.parts.now.plc in
    let stays = stays_of plc (c.args.at + c.args.parts.now.place) c.args.bounds c.in_ok-check.ensures.1.0 in
    All-seen bare_piece (StaysInStream c.args.bounds) c.in_ok-list.list.pieces (subst (λ pieces. All (StaysInStream
    c.args.bounds) pieces) (sym c.in_ok-list.ensures.pieces) stays)

pub returns-clause-total : goal.returns-clause-total
returns-clause-total c =
    let plc = c.args.parts.now.plc in
    total_of_pieces plc c.args.text_len c.in_ok-list.list.pieces (ascends_of plc (c.args.at + c.args.parts.now.place)
    c.args.text_len c.in_ok-check.ensures.0) c.in_ok-list.ensures.pieces

pub returns-clause-fit : goal.returns-clause-fit
returns-clause-fit c =
    let parts : ClxParts = record { prcs = c.args.parts.now.prcs; plc = c.args.parts.now.plc } in
    pieces_fit parts c.args.at c.in_ok-list.list.pieces c.in_ok-modifiers.ensures.0 c.in_ok-list.ensures.pieces
    c.in_ok-list.ensures.modifiers
