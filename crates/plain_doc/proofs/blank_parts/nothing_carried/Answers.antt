-- What carries nothing is well formed.
use Rattle.doc_model.specs.NothingCarried.{no_lists, no_streams}
use Rattle.plain_doc.proofs.blank_parts.nothing_carried.Goals as goal

pub invariant_of-result-clause-lists : goal.invariant_of-result-clause-lists
invariant_of-result-clause-lists c = rw (c.new-4.ensures, c.new-5.ensures) no_lists

pub invariant_of-result-clause-others : goal.invariant_of-result-clause-others
invariant_of-result-clause-others c = rw c.new-7.ensures no_streams
