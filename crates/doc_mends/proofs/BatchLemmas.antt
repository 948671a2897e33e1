-- Ranges of one text, and a document in which they are struck at once.
use Rattle.std.proofs.Common.{◌≡◌, ◌∙◌, ap, sym, refl, subst, ℕ, zero, suc, ◌<◌, ◌≤◌, arith}
use Rattle.std.proofs.Common.{List, [], ◌∷◌, ◌++◌, length, take, drop, Option, Some, None, slice_get, slice_set}
use Rattle.std.specs.Prelude.{All, MatchOption, ⊤}
use Rattle.std.specs.Option.{unwrap_or}
use Rattle.std.proofs.lemmas.List.{length-take-le, take-append-drop}
use Rattle.std.proofs.lemmas.List.Elements.{All-nil, All-cons, All-drop, All-head, All-tail, All-take}
use Rattle.doc_bits.specs.declared.places.Story.{Story}
use Rattle.doc_bits.specs.declared.places.Story.TheVariants.{Main, Note, Head}
use Rattle.doc_model.specs.declared.item.Item.{Item}
use Rattle.doc_model.specs.declared.document.Document.{Document}
use Rattle.doc_patch.specs.Changes.{changed_at, put_changed, text_changed, changed}
use Rattle.doc_patch.specs.Places.{story_text, items_at, HasText, HasRange}
use Rattle.doc_patch.proofs.Public.{any_text, put_more, such_text}
use Rattle.doc_mends.specs.declared.batches.Batch.{Batch}
use Rattle.doc_mends.specs.declared.mends.DeletedRange.{DeletedRange}
use Rattle.doc_mends.specs.Mends.{all_struck, strike_of, AreRanges}
use Rattle.doc_mends.specs.Batches.{RangesAscend, IsFirstBatch, IsNext, last_range_end}
use Rattle.doc_mends.specs.Striking.{items_struck, text_struck, IsRangeWithin}
use Rattle.doc_mends.proofs.MendLemmas.{all_ranges_stay}

-- ---- one range more

pub ascend_more : (story : Story) (at : ℕ) (ranges : List DeletedRange) (next : DeletedRange) → RangesAscend story at
    ranges →
    IsNext story (last_range_end at ranges) next → RangesAscend story at (ranges ++ next ∷ [])
ascend_more story at [] next ascend is = (is, tt)
ascend_more story at (range ∷ ranges) next ascend is =
    (ascend.0, ascend_more story range.to ranges next ascend.1 is)

pub last_more : (at : ℕ) (ranges : List DeletedRange) (next : DeletedRange) → last_range_end at (ranges ++ next ∷ []) ≡
    next.to
last_more at [] next = refl
last_more at (range ∷ ranges) next = last_more range.to ranges next

-- the first so many ranges
pub first_of : (ranges : List DeletedRange) (batch : Batch) (k : ℕ) (story : Story) → 0 < k → k ≤ length ranges →
    batch.story ≡ story → batch.ranges.now ≡ take k ranges → RangesAscend story 0 (take k ranges) →
    IsFirstBatch ranges batch
first_of ranges batch k story some within story_is are ascend =
    let long : length batch.ranges.now ≡ k = ap length are ∙ length-take-le k ranges within in
    record {
      some = omega (arith, long, some);
      within = omega (arith, long, within);
      front = are ∙ ap (λ (n : ℕ). take n ranges) (sym long);
      ascend = subst (λ (s : Story). RangesAscend s 0 batch.ranges.now) (sym story_is)
          (subst (RangesAscend story 0) (sym are) ascend);
    }

-- ---- an entry of a list, changed twice

changed_twice : {A : Type 0} (f g : A → A) (xs : List A) (k : ℕ) →
    changed_at (changed_at xs k g) k f ≡ changed_at xs k (λ x. f (g x))
changed_twice f g [] zero = refl
changed_twice f g [] (suc k) = refl
changed_twice f g (x ∷ xs) zero = refl
changed_twice {A = A} f g (x ∷ xs) (suc k) =
    ap (λ (t : List A). changed_at t (suc k) f) (put_more g x xs k (slice_get xs k))
    ∙ (put_more f x (changed_at xs k g) k (slice_get (changed_at xs k g) k)
    ∙ (ap (λ (t : List A). x ∷ t) (changed_twice f g xs k)
    ∙ sym (put_more (λ (y : A). f (g y)) x xs k (slice_get xs k))))

changed_same : {A : Type 0} (xs : List A) (k : ℕ) → changed_at xs k (λ x. x) ≡ xs
changed_same [] zero = refl
changed_same [] (suc k) = refl
changed_same (x ∷ xs) zero = refl
changed_same {A = A} (x ∷ xs) (suc k) =
    put_more (λ (y : A). y) x xs k (slice_get xs k) ∙ ap (λ (t : List A). x ∷ t) (changed_same xs k)

-- ---- a text of a document

with_twice : (f g : List Item → List Item) (story : Story) (document : Document) →
    text_changed f story (text_changed g story document) ≡ text_changed (λ text. f (g text)) story document
with_twice f g Main document = refl
with_twice f g (Note k) document =
    ap (λ (notes : List (List Item)). record document { notes = notes }) (changed_twice f g document.notes k)
with_twice f g (Head k) document =
    ap (λ (heads : List (List Item)). record document { heads = heads }) (changed_twice f g document.heads k)

with_same : (story : Story) (document : Document) → text_changed (λ text. text) story document ≡ document
with_same Main document = refl
with_same (Note k) document =
    ap (λ (notes : List (List Item)). record document { notes = notes }) (changed_same document.notes k)
with_same (Head k) document =
    ap (λ (heads : List (List Item)). record document { heads = heads }) (changed_same document.heads k)

-- ranges of one text are struck in it
pub batch_struck : (story : Story) (at : ℕ) (ranges : List DeletedRange) (document : Document) →
    RangesAscend story at ranges → all_struck ranges document ≡ text_changed (text_struck ranges) story document
batch_struck story at [] document ascend = sym (with_same story document)
batch_struck story at (range ∷ ranges) document ascend =
    let strike : List Item → List Item = λ text. items_struck text range in
    ap (λ (s : Story). all_struck ranges (text_changed strike s document)) ascend.0.story_is
    ∙ (batch_struck story range.to ranges (text_changed strike story document) ascend.1
    ∙ with_twice (text_struck ranges) strike story document)

entry_put : (f : List Item → List Item) (texts : List (List Item)) (k : ℕ) (made : List Item) (o : Option (List Item)) →
    MatchOption o ⊥ (λ _. ⊤) → made ≡ f (unwrap_or o []) →
    put_changed texts k (λ _. made) o ≡ put_changed texts k f o
entry_put f texts k made None there is = absurd there
entry_put f texts k made (Some text) there is = ap (λ (t : List Item). slice_set texts k t) is

-- what is made of a text is put in its place
text_put : (f : List Item → List Item) (story : Story) (document : Document) (made : List Item) →
    HasText document story (λ _. ⊤) → made ≡ f (items_at document story) →
    text_changed (λ _. made) story document ≡ text_changed f story document
text_put f Main document made there is = ap (λ (main : List Item). record document { main = main }) is
text_put f (Note k) document made there is =
    ap (λ (notes : List (List Item)). record document { notes = notes })
    (entry_put f document.notes k made (slice_get document.notes k) there is)
text_put f (Head k) document made there is =
    ap (λ (heads : List (List Item)). record document { heads = heads })
    (entry_put f document.heads k made (slice_get document.heads k) there is)

pub batch_put : (story : Story) (ranges : List DeletedRange) (document put : Document) (made : List Item) →
    RangesAscend story 0 ranges → HasText document story (λ _. ⊤) → made ≡ text_struck ranges (items_at document story)
    →
    put ≡ text_changed (λ _. made) story document → put ≡ all_struck ranges document
batch_put story ranges document put made ascend there is back =
    back
    ∙ (text_put (text_struck ranges) story document made there is ∙ sym (batch_struck story 0 ranges document ascend))

-- ---- the text is there

abbrev Is : Document → DeletedRange → Type 0
Is document range = HasText document range.story (HasRange range.from range.to)

in_story : (document : Document) (story : Story) (range : DeletedRange) → range.story ≡ story → Is document range →
    HasText document story (HasRange range.from range.to)
in_story document story range same there =
    subst (λ (s : Story). HasText document s (HasRange range.from range.to)) same there

pub batch_there : (document : Document) (story : Story) (at : ℕ) (ranges : List DeletedRange) →
    AreRanges document ranges → RangesAscend story at ranges → 0 < length ranges → HasText document story (λ _. ⊤)
batch_there document story at [] are ascend some = absurd (omega (arith, some))
batch_there document story at (range ∷ ranges) are ascend some =
    any_text document story (HasRange range.from range.to)
    (in_story document story range ascend.0.story_is (All-head (Is document) range ranges are))

-- the first of the ranges of a document are ranges of it
pub first_are : (document : Document) (ranges : List DeletedRange) (batch : Batch) → IsFirstBatch ranges batch →
    AreRanges document ranges → AreRanges document batch.ranges.now
first_are document ranges batch first are =
    subst (AreRanges document) (sym first.front) (All-take (Is document) (length batch.ranges.now) ranges are)

-- each is a range of it
pub batch_ranges : (document : Document) (story : Story) (at : ℕ) (ranges : List DeletedRange) (text : List Item) →
    story_text document story ≡ Some text → AreRanges document ranges → RangesAscend story at ranges →
    All (λ range. HasRange range.from range.to text) ranges
batch_ranges document story at [] text there are ascend =
    All-nil (λ (range : DeletedRange). HasRange range.from range.to text)
batch_ranges document story at (range ∷ ranges) text there are ascend =
    All-cons (λ (r : DeletedRange). HasRange r.from r.to text) range ranges
    (such_text document story (HasRange range.from range.to) text
    (in_story document story range ascend.0.story_is (All-head (Is document) range ranges are)) there)
    (batch_ranges document story range.to ranges text there (All-tail (Is document) range ranges are) ascend.1)

pub all_within : (text : List Item) (len : ℕ) (ranges : List DeletedRange) → length text ≡ len →
    All (λ range. HasRange range.from range.to text) ranges → All (IsRangeWithin len) ranges
all_within text len [] long all = All-nil (IsRangeWithin len)
all_within text len (range ∷ ranges) long all =
    let Has : DeletedRange → Type 0 = λ r. HasRange r.from r.to text in
    let here = All-head Has range ranges all in
    All-cons (IsRangeWithin len) range ranges (omega (arith, here.0), omega (arith, here.1, long))
    (all_within text len ranges long (All-tail Has range ranges all))

-- ---- one batch after the other

pub struck_joined : (front back : List DeletedRange) (document : Document) →
    all_struck (front ++ back) document ≡ all_struck back (all_struck front document)
struck_joined [] back document = refl
struck_joined (range ∷ front) back document = struck_joined front back (changed (strike_of range) document)

-- those that are left, once the first of them are struck
pub left_struck : (document made : Document) (ranges : List DeletedRange) (batch : Batch) → IsFirstBatch ranges batch →
    made ≡ all_struck batch.ranges.now document →
    all_struck (drop (length batch.ranges.now) ranges) made ≡ all_struck ranges document
left_struck document made ranges batch first is =
    let n = length batch.ranges.now in
    let parts : batch.ranges.now ++ drop n ranges ≡ ranges =
    ap (λ (l : List DeletedRange). l ++ drop n ranges) first.front ∙ take-append-drop n ranges in
    ap (all_struck (drop n ranges)) is
    ∙ (sym (struck_joined batch.ranges.now (drop n ranges) document)
    ∙ ap (λ (l : List DeletedRange). all_struck l document) parts)

pub left_are : (document made : Document) (ranges : List DeletedRange) (batch : Batch) → IsFirstBatch ranges batch →
    made ≡ all_struck batch.ranges.now document → AreRanges document ranges →
    AreRanges made (drop (length batch.ranges.now) ranges)
left_are document made ranges batch first is are =
    let n = length batch.ranges.now in
    subst (λ (d : Document). AreRanges d (drop n ranges)) (sym is)
    (all_ranges_stay document batch.ranges.now (drop n ranges) (first_are document ranges batch first are)
    (All-drop (Is document) n ranges are))

-- what is said of the items of a text that is there
pub items_such : (P : List Item → Type 0) (o : Option (List Item)) → MatchOption o ⊥ P → P (unwrap_or o [])
items_such P None there = absurd there
items_such P (Some text) there = there
