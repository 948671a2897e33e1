-- Texts without controls.
use Rattle.std.proofs.Common.{◌≡◌, ℕ, false, [], ◌∷◌, append-nil}
use Rattle.std.specs.Prelude.{encode_utf8}
use Rattle.property_text.specs.Printable.{HasNoControls, is_control_in_lines}

-- a character that is no control
pub visible_character : (code : ℕ) → is_control_in_lines code ≡ false → HasNoControls (encode_utf8 code)
visible_character code visible = (code ∷ [], append-nil (encode_utf8 code), (visible, tt))
