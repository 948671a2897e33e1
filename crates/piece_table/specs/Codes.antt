-- The codes by which a proof tells tables of pieces apart.
use Rattle.std.specs.Prelude.{ℕ, List, Bool, Option, refl}
use Rattle.std.specs.Coded.{Coded, code_by, coded×, coded_ℕ, coded_bool, coded_list, coded_option}
use Rattle.prop_map.specs.declared.modifiers.Modifier.{Modifier}
use Rattle.prop_map.specs.Settings.{Properties, properties_code}
use Rattle.piece_table.specs.Piece.{TextPiece, PieceTable}

abbrev pub modifier_code : Coded Modifier
modifier_code =
    code_by (Option ℕ × (Bool × (Properties × Properties)))
    (coded× (coded_option coded_ℕ) (coded× coded_bool (coded× properties_code properties_code)))
    (λ m. (m.istd, (m.clear, (m.chp, m.pap))))
    (λ p. record { istd = p.0; clear = p.1.0; chp = p.1.1.0; pap = p.1.1.1 })
    (λ _. refl)

abbrev pub piece_code : Coded TextPiece
piece_code =
    code_by (ℕ × (Bool × (ℕ × Modifier)))
    (coded× coded_ℕ (coded× coded_bool (coded× coded_ℕ modifier_code)))
    (λ t. (t.at, (t.wide, (t.len, t.modifier))))
    (λ p. record { at = p.0; wide = p.1.0; len = p.1.1.0; modifier = p.1.1.1 })
    (λ _. refl)

abbrev pub table_code : Coded PieceTable
table_code =
    code_by (List TextPiece × (ℕ × (ℕ × ℕ)))
    (coded× (coded_list piece_code) (coded× coded_ℕ (coded× coded_ℕ coded_ℕ)))
    (λ t. (t.pieces, (t.spare, (t.blocks, t.room))))
    (λ p. record { pieces = p.0; spare = p.1.0; blocks = p.1.1.0; room = p.1.1.1 })
    (λ _. refl)
