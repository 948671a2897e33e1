use Rattle.std.proofs.Common.{◌∙◌}
use Rattle.std.proofs.lemmas.List.Sorted.{All-permutation}
use Rattle.document_bookmarks.specs.Bookmarks.{HasFileNumbers}
use Rattle.document_bookmarks.proofs.ApartLemmas.{permuted_in_order}
use Rattle.document_bookmarks.proofs.NameLemmas.{list_sorted}
use Rattle.document_bookmarks.proofs.bookmark_list.Bookmarks.of.Goals as goal

pub invariant_of-result : goal.invariant_of-result
invariant_of-result c =
    rw c.sort.ensures (list_sorted c.sort_names.new.list.items c.neighbours_differ-apart.result (record {
      numbers = All-permutation HasFileNumbers c.args.items.items c.sort_names.new.list.items
          c.sort_names.ensures.moved c.requires;
      differ = λ known. rw c.deref.ensures.value at (c.neighbours_differ-apart.ensures known);
    }))

pub returns : goal.returns
returns c = c.sort.ensures ∙ permuted_in_order c.args.items.items c.sort_names.new.list.items c.sort_names.ensures.moved
