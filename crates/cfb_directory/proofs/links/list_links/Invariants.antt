use Rattle.cfb_directory.proofs.LinkLemmas.{IsLinkFront}
use Rattle.cfb_directory.proofs.links.list_links.Given as goal

abbrev pub invariant-loop-entry : goal.invariant-loop-entry
invariant-loop-entry l = IsLinkFront l.file l.directory l.order l.entry-index l.links.items
