-- Text is struck in one way.
use Rattle.std.specs.Prelude.{IsTrue, slice_index_or}
use Rattle.std.proofs.Common.{◌≡◌, ◌∙◌, ◌↔◌, sym, ap, refl, ℕ, Bool, true, false, List, arith}
use Rattle.std.proofs.lemmas.List.{ext_get_or}
use Rattle.doc_model.specs.declared.document.Document.{Document}
use Rattle.file_rules.specs.FileRules.{FileText}
use Rattle.doc_mends.specs.declared.mends.DeletedRange.{DeletedRange}
use Rattle.doc_mends.specs.declared.mends.Mend.{Mend}
use Rattle.doc_mends.specs.Mends.{all_struck, struck_ranges}
use Rattle.deleted_text.specs.Places.{AreDeletions}
use Rattle.deleted_text.specs.Ranges.{document_ranges, begins_of}
use Rattle.deleted_text.specs.Strikes.{strike_mends}
use Rattle.deleted_text.specs.Texts.{AreDeletedRanges, IsStruckText}

pub flag_one : {P : Type 0} (a b : Bool) → (IsTrue a ↔ P) → (IsTrue b ↔ P) → a ≡ b
flag_one true true x y = refl
flag_one true false x y = absurd (cc (y.1 (x.0 refl)))
flag_one false true x y = absurd (cc (x.1 (y.0 refl)))
flag_one false false x y = refl

flags_one : (wd bin places : List ℕ) (a b : List Bool) → AreDeletions wd bin places a → AreDeletions wd bin places b →
    a ≡ b
flags_one wd bin places a b one other =
    ext_get_or false a b (one.len ∙ sym other.len)
    (λ k low. flag_one (slice_index_or a k false) (slice_index_or b k false) (one.each k low)
    (other.each k (omega (arith, low, one.len, other.len))))

pub ranges_one : (text : FileText) (document : Document) (a b : List DeletedRange) → AreDeletedRanges text document a →
    AreDeletedRanges text document b → a ≡ b
ranges_one text document a b one other =
    let flags : one.flags ≡ other.flags = flags_one _ _ _ one.flags other.flags one.deletions other.deletions in
    one.are ∙ (ap (λ (f : List Bool). document_ranges (begins_of text.wd) f document) flags ∙ sym other.are)

pub struck_one : (text : FileText) (meant a b : Document) (mends others : List Mend) →
    IsStruckText text meant a mends → IsStruckText text meant b others → (a ≡ b) × (mends ≡ others)
struck_one text meant a b mends others one other =
    let ranges : one.ranges ≡ other.ranges =
    ranges_one text meant one.ranges other.ranges one.deleted other.deleted in (
      one.is.document_is
          ∙ (ap (λ (l : List DeletedRange). all_struck (struck_ranges meant l) meant) ranges
          ∙ sym other.is.document_is),
      one.is.mends_are ∙ (ap (strike_mends meant) ranges ∙ sym other.is.mends_are),
    )
