use Rattle.std.proofs.Common.{◌∙◌, ap}
use Rattle.std.proofs.lemmas.List.Sorted.{All-permutation}
use Rattle.document_bookmarks.specs.Order.{in_order}
use Rattle.document_bookmarks.specs.Bookmarks.{bookmark_cmp, HasFileNumbers}
use Rattle.document_bookmarks.proofs.ApartLemmas.{permuted_in_order}
use Rattle.document_bookmarks.proofs.NameLemmas.{list_sorted}
use Rattle.document_bookmarks.proofs.bookmark_list.Bookmarks.arrange.Goals as goal

pub invariant_of-self : goal.invariant_of-self
invariant_of-self c =
    rw c.sort.ensures (list_sorted c.sort_names.new.list.items c.neighbours_differ-apart.result (record {
      numbers = All-permutation HasFileNumbers c.self.inside.items.items c.sort_names.new.list.items
          c.sort_names.ensures.moved c.self.invariant.numbers;
      differ = λ known. rw c.deref.ensures.value at (c.neighbours_differ-apart.ensures known);
    }))

pub returns : goal.returns
returns c =
    c.sort.ensures ∙ (permuted_in_order c.self.inside.items.items c.sort_names.new.list.items
    c.sort_names.ensures.moved ∙ ap (in_order bookmark_cmp) c.self.view_is)
