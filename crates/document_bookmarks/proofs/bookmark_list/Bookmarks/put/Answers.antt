use Rattle.std.proofs.Common.{rules, ◌≡◌}
use Rattle.document_bookmarks.specs.Order.{put_in}
use Rattle.document_bookmarks.specs.Bookmarks.{bookmark_cmp}
use Rattle.document_bookmarks.proofs.NameLemmas.{numbers_of, list_put}
use Rattle.document_bookmarks.proofs.bookmark_list.Bookmarks.put.Goals as goal

pub invariant_of-self-2 : goal.invariant_of-self-2
invariant_of-self-2 c =
    let put : c.insert.new.self.items ≡ put_in bookmark_cmp c.args.bookmark c.self.inside.items.items = search rules in
    list_put c.self.inside.items.items _ c.args.bookmark c.self.inside.apart c.stays_apart-apart.result put
    (numbers_of c.args.bookmark c.as_slice-name.result.now c.as_slice-name.ensures c.have_sixteen_bits.ensures
    (search rules) (search rules) (search rules))
    c.self.invariant
    (λ known. (
      c.stays_apart-apart.ensures.before known,
      rw (c.as_slice-name.ensures, c.deref.ensures.value) at (c.stays_apart-apart.ensures.none known),
    ))
