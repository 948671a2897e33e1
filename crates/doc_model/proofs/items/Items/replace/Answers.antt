-- The list with the other item is well formed, and what is handed back is what was there.
use Rattle.std.proofs.Common.{rules, refl, ◌<◌, length}
use Rattle.std.proofs.lemmas.Option.{slice_get_read}
use Rattle.doc_model.specs.Document.{IsFormedItem}
use Rattle.doc_model.proofs.FormedLemmas.{IsFormedList-set}
use Rattle.doc_model.proofs.items.Items.replace.Goals as goal

pub invariant_of-self : goal.invariant_of-self
invariant_of-self c =
    IsFormedList-set IsFormedItem _ _ _ c.self.invariant
    (rw c.replace.ensures.after
    (record { maps = c.requires.maps; unit = search rules; style = search rules; field = search rules }))

pub returns-clause-old : goal.returns-clause-old
returns-clause-old c =
    let within : c.args.i < length c.self.inside.items.items = search rules in
    rw (← c.self.view_is, c.replace.ensures.value)
    (slice_get_read c.self.inside.items.items _ c.args.i _ refl within c.index_mut.ensures.value)
