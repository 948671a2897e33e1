-- The list is seen as its pieces; its entries are printed.
use Rattle.std.proofs.Common.{map, sym, subst}
use Rattle.piece_table.specs.Numbering.{text_piece}
use Rattle.piece_table.specs.PrintSteps.{prc_table}
use Rattle.piece_table.specs.Printing.{IsPrintable, IsPrintedClx}
use Rattle.piece_table.proofs.ClxPrintLemmas.{entries_printable, entries_placed, printed_clx}
use Rattle.piece_table.proofs.pieces.PieceList.print_clx.Goals as goal

pub print_prcs-requires-clause-printable : goal.print_prcs-requires-clause-printable
print_prcs-requires-clause-printable c =
    let entries = c.self.inside.entries.items in
    let modifiers = c.self.inside.modifiers.items in
    let printable : IsPrintable (map (text_piece modifiers) entries) = subst (λ table. IsPrintable table.pieces)
    (sym c.self.view_is) c.requires in
    rw (c.deref.ensures.value, c.deref-2.ensures.value, c.in_ok-entries.ensures) (entries_printable modifiers entries
    c.self.invariant.0 c.self.invariant.1.0 printable)

pub push_pcdt-requires-clause-places : goal.push_pcdt-requires-clause-places
push_pcdt-requires-clause-places c =
    let entries = c.self.inside.entries.items in
    let modifiers = c.self.inside.modifiers.items in
    let printable : IsPrintable (map (text_piece modifiers) entries) = subst (λ table. IsPrintable table.pieces)
    (sym c.self.view_is) c.requires in
    rw (c.deref-3.ensures.value, c.in_ok-entries.ensures) (entries_placed modifiers entries printable)

pub returns : goal.returns
returns c =
    let entries = c.self.inside.entries.items in
    let modifiers = c.self.inside.modifiers.items in
    subst (λ table. IsPrintedClx table.pieces c.push_pcdt.new.bytes) c.self.view_is
    (printed_clx modifiers entries (prc_table c.in_ok-printed.printed) c.push_pcdt.new.bytes
    (rw (c.deref.ensures.value, c.deref-2.ensures.value, c.in_ok-entries.ensures) at c.in_ok-printed.ensures) (rw (
      c.deref-3.ensures.value,
      c.deref-4.ensures.value,
      c.in_ok-entries.ensures,
    ) at c.in_ok-push_pcdt.ensures))
