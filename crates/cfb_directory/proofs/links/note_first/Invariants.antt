use Rattle.cfb_directory.specs.Links.{IsFirstNamed}
use Rattle.cfb_directory.proofs.links.note_first.Given as goal

abbrev pub invariant-loop-link : goal.invariant-loop-link
invariant-loop-link l = IsFirstNamed l.file l.links l.link-index l.first
