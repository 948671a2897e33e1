use Rattle.piece_table.proofs.SprmModifierLemmas.{sprm_spelt, sprm_accepted, sprm_bytes}
use Rattle.std.proofs.Common.{[], ◌∷◌}
use Rattle.piece_table.proofs.modifier_table.one_sprm.Goals as goal

pub read-requires : goal.read-requires
read-requires c =
    let code = c.args.code.0 in
    let operand = c.args.operand in
    sprm_accepted code operand _ c.requires (sprm_bytes c.to_le_bytes-word.result code operand
    c.to_le_bytes-word.ensures)

pub returns-clause-does : goal.returns-clause-does
returns-clause-does c =
    let code = c.args.code.0 in
    let operand = c.args.operand in
    c.in_ok-modifier.ensures.parts ((code, operand ∷ []) ∷ []) (sprm_spelt code operand _ c.requires
    (sprm_bytes c.to_le_bytes-word.result code operand c.to_le_bytes-word.ensures))
