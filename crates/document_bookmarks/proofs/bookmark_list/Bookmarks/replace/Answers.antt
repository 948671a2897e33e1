-- The list with the other bookmark keeps its numbers, and what is handed back is what was there.
use Rattle.std.proofs.Common.{rules, refl, ◌<◌, length}
use Rattle.std.proofs.lemmas.Option.{slice_get_read}
use Rattle.document_bookmarks.proofs.NameLemmas.{numbers_of, list_set}
use Rattle.document_bookmarks.proofs.bookmark_list.Bookmarks.replace.Goals as goal

pub invariant_of-self : goal.invariant_of-self
invariant_of-self c =
    list_set c.self.inside.items.items c.args.i c.replace.new.dest c.self.inside.apart
    (rw c.replace.ensures.after (numbers_of c.args.bookmark c.as_slice.result.now c.as_slice.ensures
    c.have_sixteen_bits.ensures (search rules) (search rules) (search rules)))
    c.self.invariant

pub returns-clause-old : goal.returns-clause-old
returns-clause-old c =
    let within : c.args.i < length c.self.inside.items.items = search rules in
    rw (← c.self.view_is, c.replace.ensures.value)
    (slice_get_read c.self.inside.items.items _ c.args.i _ refl within c.index_mut.ensures.value)
