use Rattle.std.proofs.Common.{◌≡◌, ◌+◌, ◌*◌, ◌≤◌, length}
use Rattle.session_text.proofs.PutLemmas.{SplicesMade}
use Rattle.session_text.proofs.session_text.SessionText.put_all.Given as goal

-- the splices so far are made, and the others can be
abbrev pub invariant-loop-splice : goal.invariant-loop-splice
invariant-loop-splice l = record {
  made :
      SplicesMade l.initial.self.pieces.pieces l.initial.self.ends l.splices l.splice-index l.self.pieces.pieces
      l.self.ends;
  added : l.self.added ≡ l.initial.self.added;
  sections : l.self.sections ≡ l.initial.self.sections;
  spare : 3 * length l.splices ≤ l.self.pieces.spare + 3 * l.splice-index;
}
