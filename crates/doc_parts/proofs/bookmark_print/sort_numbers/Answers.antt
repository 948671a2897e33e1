use Rattle.std.specs.Ordering.{nat_cmp}
use Rattle.std.specs.FinMap.{nat_cmp-IsAntisymmetric}
use Rattle.std.proofs.lemmas.Cmp.{nat_cmp_total}
use Rattle.document_bookmarks.proofs.Public.{sorted_is_in_order}
use Rattle.doc_parts.proofs.bookmark_print.sort_numbers.Goals as goal

pub returns : goal.returns
returns c =
    sorted_is_in_order nat_cmp nat_cmp_total nat_cmp-IsAntisymmetric _ _ c.sort_unstable.ensures.permutation
    c.sort_unstable.ensures.sorted
