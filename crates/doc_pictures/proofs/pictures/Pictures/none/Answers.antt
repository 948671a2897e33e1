use Rattle.std.proofs.Common.{List, sym, subst}
use Rattle.doc_pictures.specs.declared.pictures.Picture.{Picture}
use Rattle.doc_pictures.specs.Order.{ArePlacesAscending}
use Rattle.doc_pictures.proofs.FileLemmas.{none-ascend}
use Rattle.doc_pictures.proofs.pictures.Pictures.none.Goals as goal

pub of-requires : goal.of-requires
of-requires c = subst (λ (all : List Picture). ArePlacesAscending all) (sym c.new.ensures.items) none-ascend
