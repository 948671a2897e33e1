-- Ranges that a reviser deleted are struck through, where they can be, and the others are named.
use Rattle.std.specs.Prelude.{◌≡◌, List, ◌++◌, map}
use Rattle.doc_model.specs.declared.document.Document.{Document}
use Rattle.doc_mends.specs.declared.mends.DeletedRange.{DeletedRange}
use Rattle.doc_mends.specs.declared.mends.Mend.{Mend}
use Rattle.doc_mends.specs.declared.mends.Mend.TheVariants.{KeepDeleted}
use Rattle.doc_mends.specs.Mends.{all_struck, struck_ranges, strikes, kept_ranges}

-- the strikes, and the ranges that stay since an item has too many properties
abbrev pub strike_mends : Document → List DeletedRange → List Mend
strike_mends document ranges = strikes document ranges ++ map KeepDeleted (kept_ranges document ranges)

-- the document with those struck that can be, and the mend of each
pub record IsStruck (ranges : List DeletedRange) (meant struck : Document) (mends : List Mend) : Type 0 where
  pub document_is : struck ≡ all_struck (struck_ranges meant ranges) meant
  pub mends_are : mends ≡ strike_mends meant ranges
