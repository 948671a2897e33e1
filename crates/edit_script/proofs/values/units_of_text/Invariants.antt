use Rattle.std.proofs.Common.{◌≡◌, ◌++◌}
use Rattle.std.specs.Str.{IsUtf8}
use Rattle.std.specs.Str.Iter.{chars_rest}
use Rattle.edit_script.specs.Values.{utf16}
use Rattle.edit_script.proofs.values.units_of_text.Given as goal

abbrev pub invariant-loop-character : goal.invariant-loop-character
invariant-loop-character l = IsUtf8 (chars_rest l.character-iterator) × (l.units ++ utf16
    (chars_rest l.character-iterator) ≡ utf16 l.text)
