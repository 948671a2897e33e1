-- [MS-DOC] MSONFC: how a number is written.
use Rattle.std.specs.Prelude.{ℕ, ◌==◌, if◌then◌else◌}
use Rattle.list_numbers.specs.declared.number_kind.LetterCase.TheVariants.{Upper, Lower}
use Rattle.list_numbers.specs.declared.number_kind.NumberKind.{NumberKind}
use Rattle.list_numbers.specs.declared.number_kind.NumberKind.TheVariants.{Decimal, Roman, Letters, Bullet, Nothing}

-- 1 and 2 upper and lower Roman, 3 and 4 upper and lower letters, 23 a bullet, 255 nothing
-- Profile: all others are decimal
abbrev pub kind_of_nfc : ℕ → NumberKind
kind_of_nfc nfc =
    if nfc == 1 then Roman Upper else
    if nfc == 2 then Roman Lower else
    if nfc == 3 then Letters Upper else
    if nfc == 4 then Letters Lower else
    if nfc == 23 then Bullet else
    if nfc == 255 then Nothing else Decimal
