use Rattle.std.proofs.Common.{[], ◌∷◌}
use Rattle.std.proofs.lemmas.Str.Ascii.{IsAscii-cons, IsAscii-nil}
use Rattle.std.proofs.lemmas.Str.{IsUtf8-from_ascii}
use Rattle.text_codes.proofs.Public.{accepted}
use Rattle.document_commands.proofs.summary_lines.push_plain.Goals as goal

pub unwrap-requires : goal.unwrap-requires
unwrap-requires c =
    accepted _ _ _ c.from_utf8.result
    (IsUtf8-from_ascii (c.args.byte ∷ []) (IsAscii-cons c.args.byte [] c.requires IsAscii-nil))
    c.from_utf8.ensures.cases
