use Rattle.char_formats.proofs.FormatLemmas.{format_there}
use Rattle.char_formats.proofs.laws.char_format_is_there.Goals as goal

pub returns : goal.returns
returns c = format_there
