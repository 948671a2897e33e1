use Rattle.session_text.proofs.CommandLemmas.{pieces_are_few}
use Rattle.session_text.proofs.session_laws.pieces_are_few.Goals as goal

pub returns : goal.returns
returns c = pieces_are_few
