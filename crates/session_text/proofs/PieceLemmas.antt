-- The piece of added units.
use Rattle.std.proofs.Common.{◌≡◌, ◌≢◌, refl, ℕ, zero, suc, true, Some}
use Rattle.session_text.specs.AddedText.{added_piece}

pub piece_some : (at len : ℕ) → len ≢ 0 → added_piece at len ≡ Some (record { at = at; wide = true; len = len })
piece_some at zero some = absurd (some refl)
piece_some at (suc more) some = refl
