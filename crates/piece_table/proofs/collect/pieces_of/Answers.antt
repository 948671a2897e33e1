-- The entries are seen as the pieces of the Clx.
use Rattle.std.proofs.Common.{◌∙◌, map, sym, ap, subst}
use Rattle.piece_table.specs.Piece.{bare_piece}
use Rattle.piece_table.specs.Clx.{ClxParts, HaveModifiers}
use Rattle.piece_table.proofs.PieceLemmas.{pieces_sound}
use Rattle.piece_table.proofs.NumberingLemmas.{seen_bare, seen_modifiers, seen_formed, seen_numbered}
use Rattle.piece_table.proofs.collect.pieces_of.Goals as goal

pub of-requires-clause-numbered : goal.of-requires-clause-numbered
of-requires-clause-numbered c =
    let parts : ClxParts = record { prcs = c.args.parts.now.prcs; plc = c.args.parts.now.plc } in
    rw (c.into_modifiers-modifiers.ensures, c.deref.ensures.value) (seen_numbered parts _
    c.in_ok-items.items.items parts.plc.count c.in_ok-items.ensures.met.first c.in_ok-items.ensures.entries)

pub of-requires-clause-pieces : goal.of-requires-clause-pieces
of-requires-clause-pieces c =
    let parts : ClxParts = record { prcs = c.args.parts.now.prcs; plc = c.args.parts.now.plc } in
    rw (c.into_modifiers-modifiers.ensures, c.deref.ensures.value) (pieces_sound parts.plc
    c.args.text_len _ c.requires.cps c.requires.within c.requires.text
    (seen_bare parts _ c.in_ok-items.items.items c.in_ok-items.ensures.entries) (seen_formed parts
    _ c.in_ok-items.items.items parts.plc.count c.in_ok-items.ensures.met.formed c.in_ok-items.ensures.entries)).0

pub of-requires-clause-total : goal.of-requires-clause-total
of-requires-clause-total c =
    let parts : ClxParts = record { prcs = c.args.parts.now.prcs; plc = c.args.parts.now.plc } in
    rw (c.into_modifiers-modifiers.ensures, c.deref.ensures.value) (pieces_sound parts.plc
    c.args.text_len _ c.requires.cps c.requires.within c.requires.text
    (seen_bare parts _ c.in_ok-items.items.items c.in_ok-items.ensures.entries) (seen_formed parts
    _ c.in_ok-items.items.items parts.plc.count c.in_ok-items.ensures.met.formed c.in_ok-items.ensures.entries)).1

pub returns-clause-pieces : goal.returns-clause-pieces
returns-clause-pieces c =
    let parts : ClxParts = record { prcs = c.args.parts.now.prcs; plc = c.args.parts.now.plc } in
    ap (map bare_piece) c.in_ok-list.ensures
    ∙ rw (c.into_modifiers-modifiers.ensures, c.deref.ensures.value)
    (seen_bare parts _ c.in_ok-items.items.items c.in_ok-items.ensures.entries)

pub returns-clause-modifiers : goal.returns-clause-modifiers
returns-clause-modifiers c =
    let parts : ClxParts = record { prcs = c.args.parts.now.prcs; plc = c.args.parts.now.plc } in
    subst (HaveModifiers parts) (sym c.in_ok-list.ensures)
    (rw (c.into_modifiers-modifiers.ensures, c.deref.ensures.value) (seen_modifiers parts _
    c.in_ok-items.items.items c.in_ok-items.ensures.entries))
