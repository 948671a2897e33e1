-- What striking leaves as it was.
use Rattle.std.proofs.Common.{◌≡◌, ◌∙◌, ap, sym, subst, refl, ℕ, List, [], ◌∷◌, length, arith}
use Rattle.std.proofs.lemmas.List.Elements.{All-head, All-tail}
use Rattle.doc_bits.specs.declared.places.Story.{Story}
use Rattle.doc_bits.specs.declared.places.Story.TheVariants.{Main, Note, Head}
use Rattle.document_bookmarks.specs.Bookmarks.{AreFormedBookmarks}
use Rattle.doc_model.specs.declared.document.Document.{Document}
use Rattle.doc_model.specs.Marks.{HasFormedBookmarks}
use Rattle.doc_patch.specs.Changes.{changed, modified_item}
use Rattle.doc_patch.specs.Places.{HasText, HasRange}
use Rattle.doc_mends.specs.declared.mends.DeletedRange.{DeletedRange}
use Rattle.doc_mends.specs.Mends.{AreRanges, all_struck, can_strike, strike_of, striking, struck_ranges}
use Rattle.doc_mends.specs.UnitsStay.{units_of}
use Rattle.doc_mends.proofs.Public.{ranges_stay, filtered, length-map_range, modified_units}
use Rattle.file_rules.specs.FileRules.{FileText}
use Rattle.doc_mends.specs.declared.mends.Mend.{Mend}
use Rattle.deleted_text.specs.Ranges.{begins_of}
use Rattle.deleted_text.specs.Strikes.{IsStruck}
use Rattle.deleted_text.specs.Texts.{IsStruckText}
use Rattle.deleted_text.proofs.RangeLemmas.{ranges_there}

-- the main text is as long as it was
main_stays : (document : Document) (story : Story) (from to : ℕ) → HasText document story (HasRange from to) →
    length (changed (strike_of (record { story = story; from = from; to = to })) document).main ≡ length document.main
main_stays document Main from to there = length-map_range (modified_item striking) document.main from to there
main_stays document (Note n) from to there = refl
main_stays document (Head n) from to there = refl

bookmarks_stay : (document : Document) (story : Story) (from to : ℕ) →
    (changed (strike_of (record { story = story; from = from; to = to })) document).bookmarks ≡ document.bookmarks
bookmarks_stay document Main from to = refl
bookmarks_stay document (Note n) from to = refl
bookmarks_stay document (Head n) from to = refl

one_formed : (document : Document) (range : DeletedRange) →
    HasText document range.story (HasRange range.from range.to) → HasFormedBookmarks document →
    HasFormedBookmarks (changed (strike_of range) document)
one_formed document range there formed =
    let main = main_stays document range.story range.from range.to there in
    let marks = bookmarks_stay document range.story range.from range.to in
    subst (λ n. AreFormedBookmarks n (changed (strike_of range) document).bookmarks) (sym main)
    (subst (AreFormedBookmarks (length document.main)) (sym marks) formed)

all_formed : (ranges : List DeletedRange) (document : Document) → AreRanges document ranges →
    HasFormedBookmarks document → HasFormedBookmarks (all_struck ranges document)
all_formed [] document are formed = formed
all_formed (range ∷ ranges) document are formed =
    let Is : DeletedRange → Type 0 = λ r. HasText document r.story (HasRange r.from r.to) in
    let here = All-head Is range ranges are in
    let rest = All-tail Is range ranges are in
    all_formed ranges (changed (strike_of range) document) (ranges_stay document range ranges here rest)
    (one_formed document range here formed)

-- bookmarks stay formed
pub struck_formed : (text : FileText) (meant struck : Document) (mends : List Mend) → HasFormedBookmarks meant →
    IsStruckText text meant struck mends → HasFormedBookmarks struck
struck_formed text meant struck mends formed is =
    let there : AreRanges meant is.ranges =
    subst (AreRanges meant) (sym is.deleted.are) (ranges_there (begins_of text.wd) is.deleted.flags meant) in
    subst HasFormedBookmarks (sym is.is.document_is)
    (all_formed (struck_ranges meant is.ranges) meant (filtered (can_strike meant) meant is.ranges there) formed)

-- units stay
all_units : (ranges : List DeletedRange) (document : Document) (story : Story) → AreRanges document ranges →
    units_of (all_struck ranges document) story ≡ units_of document story
all_units [] document story are = refl
all_units (range ∷ ranges) document story are =
    let Is : DeletedRange → Type 0 = λ r. HasText document r.story (HasRange r.from r.to) in
    let here = All-head Is range ranges are in
    let rest = All-tail Is range ranges are in
    all_units ranges (changed (strike_of range) document) story (ranges_stay document range ranges here rest)
    ∙ modified_units document range.story story range.from range.to striking here

pub struck_units : (text : FileText) (meant struck : Document) (mends : List Mend) (story : Story) →
    IsStruckText text meant struck mends → units_of struck story ≡ units_of meant story
struck_units text meant struck mends story is =
    let there : AreRanges meant is.ranges =
    subst (AreRanges meant) (sym is.deleted.are) (ranges_there (begins_of text.wd) is.deleted.flags meant) in
    ap (λ (d : Document). units_of d story) is.is.document_is
    ∙ all_units (struck_ranges meant is.ranges) meant story (filtered (can_strike meant) meant is.ranges there)

-- where no range is, nothing is struck
pub no_strikes : (document : Document) (ranges : List DeletedRange) → length ranges ≡ 0 →
    IsStruck ranges document document []
no_strikes document [] none = record { document_is = refl; mends_are = refl }
no_strikes document (range ∷ ranges) none = absurd (omega (arith, none))
