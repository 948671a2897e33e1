-- The list with one more text is well formed.
use Rattle.std.proofs.Common.{rules}
use Rattle.doc_model.specs.Document.{IsFormedText}
use Rattle.doc_model.proofs.FormedLemmas.{IsFormedList-add}
use Rattle.doc_model.proofs.texts.Texts.add.Goals as goal

pub invariant_of-self-2 : goal.invariant_of-self-2
invariant_of-self-2 c =
    IsFormedList-add IsFormedText _ _ _ c.in_ok-push.ensures.items (search rules) c.self.invariant (search rules)
