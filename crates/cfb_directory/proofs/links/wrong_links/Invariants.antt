use Rattle.std.proofs.Common.{slice_index}
use Rattle.doc_bits.specs.Rules.{Among, LeastOrNone}
use Rattle.cfb_directory.specs.Links.{IsWrongLinkAt}
use Rattle.cfb_directory.proofs.links.wrong_links.Given as goal

abbrev pub invariant-loop-link : goal.invariant-loop-link
invariant-loop-link l = LeastOrNone (Among l.link-index (λ i. IsWrongLinkAt l.file l.directory (slice_index l.links i)))
    l.least
