-- The rule on bookmarks, at places of a document.
use Rattle.std.proofs.Common.{refl, sym, ℕ, ◌≤◌}
use Rattle.doc_bits.specs.declared.places.Where.TheVariants.{Main}
use Rattle.doc_bits.specs.Places.{Upto}
use Rattle.doc_bits.specs.Rules.{IsLeast}
use Rattle.doc_bits.proofs.Public.{upto_same}
use Rattle.doc_model.specs.declared.document.Document.{Document}
use Rattle.doc_model.specs.Marks.{AreWrongBookmarks, HasWrongBookmarks}

pub wrong_there : (document : Document) (at : ℕ) → IsLeast (λ a b. a ≤ b) (AreWrongBookmarks document.bookmarks) at →
    IsLeast Upto (HasWrongBookmarks document) (Main, at)
wrong_there document at first = record {
  broken = (refl, first.broken);
  least = λ place w. upto_same (Main, at) place (sym w.0) (first.least place.1 w.1);
}
