use Rattle.std.specs.String.{string_bytes}
use Rattle.std.proofs.lemmas.Str.{NoCharPasses-append}
use Rattle.std.specs.Prelude.{encode_utf8}
use Rattle.property_text.specs.Printable.{is_control_in_lines}
use Rattle.property_text.proofs.PrintableLemmas.{visible_character}
use Rattle.property_text.proofs.printable.push_visible.Goals as goal

pub returns : goal.returns
returns c =
    rw (c.in_ok-push.ensures.bytes)
    (NoCharPasses-append is_control_in_lines (string_bytes c.args.text.now) (encode_utf8 c.args.character)
    c.requires.before
    (visible_character c.args.character c.requires.visible))
