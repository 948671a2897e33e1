use Rattle.std.proofs.Common.{arith}
use Rattle.session_text.proofs.session_text.SessionText.written_again.Goals as goal

pub behind_main-requires : goal.behind_main-requires
behind_main-requires c = omega (arith, c.requires.count, c.requires.room)
