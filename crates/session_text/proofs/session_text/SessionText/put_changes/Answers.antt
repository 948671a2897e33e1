use Rattle.std.proofs.Common.{◌∙◌, ap, sym, subst, length, arith}
use Rattle.piece_table.specs.Piece.{total_length}
use Rattle.session_text.specs.Puts.{CanPutAll}
use Rattle.session_text.proofs.EditLemmas.{can_put_have, have_length, put_edit}
use Rattle.session_text.proofs.session_text.SessionText.put_changes.Goals as goal

pub put_all-requires-clause-can : goal.put_all-requires-clause-can
put_all-requires-clause-can c =
    let old = c.args.self.now in
    subst (CanPutAll _) (sym c.deref.ensures.value)
    (can_put_have c.args.document.now old.ends c.args.changes.now old.added c.in_ok-splices.field-0.added
    c.in_ok-splices.field-0.splices.items _ c.in_ok-splices.ensures.puts
    (ap total_length c.reserve.ensures.pieces ∙ c.requires.count))

pub put_all-requires-clause-spare : goal.put_all-requires-clause-spare
put_all-requires-clause-spare c =
    let old = c.args.self.now in
    omega (
      arith,
      c.in_ok-reserve.ensures.ok,
      c.len.ensures,
      ap length c.deref.ensures.value,
      have_length c.args.document.now old.ends c.args.changes.now old.added c.in_ok-splices.field-0.added
          c.in_ok-splices.field-0.splices.items c.in_ok-splices.ensures.puts,
    )

pub returns-clause-text : goal.returns-clause-text
returns-clause-text c =
    put_edit c.args.document.now c.args.changes.now c.args.self.now c.put_all.new.self c.reserve.new.self.pieces
    c.in_ok-splices.field-0.added c.in_ok-splices.field-0.splices.items c.deref.result.now c.deref.ensures.value
    c.reserve.ensures.pieces c.in_ok-splices.ensures.puts c.in_ok-splices.ensures.base c.put_all.ensures.places
    c.put_all.ensures.count c.put_all.ensures.added c.put_all.ensures.ends
