use Rattle.std.proofs.Common.{rules}
use Rattle.document_bookmarks.proofs.NameLemmas.{numbers_of, list_more}
use Rattle.document_bookmarks.proofs.bookmark_list.Bookmarks.add.Goals as goal

pub invariant_of-self-2 : goal.invariant_of-self-2
invariant_of-self-2 c =
    list_more c.self.inside.items.items _ c.args.bookmark c.self.inside.apart c.stays_apart-apart.result
    c.in_ok-push.ensures.items
    (numbers_of c.args.bookmark c.as_slice-name.result.now c.as_slice-name.ensures c.have_sixteen_bits.ensures
    (search rules) (search rules) (search rules))
    c.self.invariant
    (λ known. (
      c.stays_apart-apart.ensures.before known,
      rw (c.as_slice-name.ensures, c.deref.ensures.value) at (c.stays_apart-apart.ensures.none known),
    ))
