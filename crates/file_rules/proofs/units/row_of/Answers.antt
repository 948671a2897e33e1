use Rattle.std.proofs.Common.{◌∙◌, ap, sym, subst, ◌+◌, ◌*◌, ◌<◌, ◌^◌, map}
use Rattle.std.specs.List.{range_with_len}
use Rattle.file_rules.specs.Units.{unmodified_piece}
use Rattle.file_rules.proofs.UnitLemmas.{places-step}
use Rattle.file_rules.proofs.units.row_of.Goals as goal

pub returns-clause-places : goal.returns-clause-places
returns-clause-places c =
    let piece = c.args.piece in
    ap (λ step. map (λ j. piece.at + j * step) (range_with_len 0 piece.len)) c.unit_len.ensures ∙ sym (places-step
    (unmodified_piece piece))

pub returns-clause-row : goal.returns-clause-row
returns-clause-row c =
    let piece = c.args.piece in
    subst (λ step. piece.at + piece.len * step < 2 ^ 32) (sym c.unit_len.ensures) c.requires.end
