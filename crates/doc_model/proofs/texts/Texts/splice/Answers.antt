-- The list with the fresh entries is well formed.
use Rattle.std.proofs.Common.{rules}
use Rattle.doc_model.specs.Document.{IsFormedText}
use Rattle.doc_model.proofs.FormedLemmas.{IsFormedList-splice}
use Rattle.doc_model.proofs.texts.Texts.splice.Goals as goal

pub invariant_of-self-2 : goal.invariant_of-self-2
invariant_of-self-2 c =
    IsFormedList-splice IsFormedText _ _ _ _ _ (c.in_ok-splice_list.ensures.ok) c.requires.ordered (search rules)
    (search rules)
    c.self.invariant c.fresh.invariant
