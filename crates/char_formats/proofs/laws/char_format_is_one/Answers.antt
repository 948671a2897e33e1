use Rattle.char_formats.proofs.FormatLemmas.{format_one}
use Rattle.char_formats.proofs.laws.char_format_is_one.Goals as goal

pub returns : goal.returns
returns c = format_one
