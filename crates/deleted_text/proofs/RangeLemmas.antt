-- Ranges of texts, one after the other.
use Rattle.std.specs.Prelude.{slice_get, MatchOption, if◌then◌else◌}
use Rattle.std.proofs.Common.{◌≡◌, ◌∙◌, sym, ap, subst, refl, ℕ, zero, suc, ◌+◌, ◌<◌, ◌≤◌, Bool, true, false}
use Rattle.std.proofs.Common.{List, [], ◌∷◌, ◌++◌, length, take, drop, get_or, Option, Some}
use Rattle.std.proofs.Common.{None, All, add-one, arith}
use Rattle.std.specs.Option.{unwrap_or}
use Rattle.std.specs.List.{filter_map, flat_map, prefix_len}
use Rattle.std.proofs.lemmas.List.{length-take, length-drop, drop-drop, get_or-drop}
use Rattle.std.proofs.lemmas.List.Elements.{All-nil, All-cons, All-append}
use Rattle.std.proofs.lemmas.List.Sums.{sum_by_more}
use Rattle.std.proofs.lemmas.Option.{slice_get_within, get_or_from_slice_get, slice_get-get_or}
use Rattle.doc_bits.specs.declared.places.Story.{Story}
use Rattle.doc_bits.specs.declared.places.Story.TheVariants.{Main}
use Rattle.doc_parts.specs.Tabulated.{tabulate}
use Rattle.doc_losses.proofs.Public.{joined_more}
use Rattle.doc_model.specs.declared.item.Item.{Item}
use Rattle.doc_model.specs.declared.document.Document.{Document}
use Rattle.plain_doc.specs.declared.rules_texts.Side.{Side}
use Rattle.plain_doc.specs.declared.rules_texts.Side.TheVariants.{Notes, Heads}
use Rattle.doc_patch.specs.Places.{story_text, HasText, HasRange}
use Rattle.doc_mends.specs.declared.mends.DeletedRange.{DeletedRange}
use Rattle.doc_mends.specs.Mends.{AreRanges}
use Rattle.doc_mends.specs.Sides.{side_name}
use Rattle.deleted_text.specs.declared.ranges.StoryBegins.{StoryBegins}
use Rattle.deleted_text.specs.Ranges.{begins_at, run_end, range_at, text_ranges, items_before, text_flags}
use Rattle.deleted_text.specs.Ranges.{texts_ranges, document_ranges}
use Rattle.doc_mends.proofs.Public.{listed_all}
use Rattle.doc_bits.proofs.Public.{and_first}

-- ---- what is behind a text

pub left_more : {A : Type 0} (flags : List A) (texts : List (List Item)) (number : ℕ) (text : List Item) →
    slice_get texts number ≡ Some text →
    drop (length text) (drop (items_before texts number) flags) ≡ drop (items_before texts (number + 1)) flags
left_more flags texts number text there =
    let low = slice_get_within texts number text there in
    let one : get_or texts number [] ≡ text = get_or_from_slice_get texts number text [] there in
    let more : items_before texts (number + 1) ≡ items_before texts number + length text =
    sum_by_more length texts number [] low ∙ ap (λ (t : List Item). items_before texts number + length t) one in
    drop-drop (length text) (items_before texts number) flags ∙ ap (λ n. drop n flags) (sym more)

-- ---- each range is one of its text

-- a run ends within the flags, and behind its begin
prefix_within : (xs : List Bool) → prefix_len (λ x. x) xs ≤ length xs
prefix_within [] = omega arith
prefix_within (true ∷ xs) = let rest = prefix_within xs in omega (arith, rest)
prefix_within (false ∷ xs) = omega arith

prefix_some : (xs : List Bool) → get_or xs 0 false ≡ true → 1 ≤ prefix_len (λ x. x) xs
prefix_some [] is = absurd (cc is)
prefix_some (true ∷ xs) is = omega arith
prefix_some (false ∷ xs) is = absurd (cc is)

-- a range of a text of so many items
pub record IsRangeOf (story : Story) (len : ℕ) (range : DeletedRange) : Type 0 where
  pub story_is : range.story ≡ story
  pub some : range.from < range.to
  pub within : range.to ≤ len

found_range : (found : Bool) (here range : DeletedRange) → (if found then Some here else None) ≡ Some range →
    (found ≡ true) × (here ≡ range)
found_range true here range is = (refl, cc is)
found_range false here range is = absurd (cc is)

range_within : (story : Story) (flags : List Bool) (at : ℕ) (range : DeletedRange) → at < length flags →
    range_at story flags at ≡ Some range → IsRangeOf story (length flags) range
range_within story flags at range low is =
    let here : DeletedRange = record { story = story; from = at; to = run_end flags at } in
    let found = found_range (begins_at flags at) here range is in
    let left = drop at flags in
    let len = length-drop at flags in
    let zero_more : at + 0 ≡ at = omega arith in
    let first : get_or left 0 false ≡ true =
    get_or-drop at flags 0 false ∙ (ap (λ n. get_or flags n false) zero_more ∙ and_first _ _ found.0) in
    let some = prefix_some left first in
    let most = prefix_within left in
    subst (IsRangeOf story (length flags)) found.1 (record {
      story_is = refl;
      some = omega (arith, some);
      within = omega (arith, most, len, low);
    })

-- ---- what holds of each of several

one_all : {A : Type 0} (P : A → Type 0) (o : Option A) → ((x : A) → o ≡ Some x → P x) →
    All P (filter_map (λ p. p) (o ∷ []))
one_all P None each = All-nil P
one_all P (Some x) each = All-cons P x [] (each x refl) (All-nil P)

pub all_joined : {A : Type 0} (P : A → Type 0) (f : ℕ → List A) (n : ℕ) → ((i : ℕ) → i < n → All P (f i)) →
    All P (flat_map (λ l. l) (tabulate f n))
unfolding tabulate
all_joined P f zero each = All-nil P
all_joined {A = A} P f (suc n) each =
    let front = all_joined P f n (λ i low. each i (omega (arith, low))) in
    subst (λ (l : List A). All P l) (sym (joined_more f n) ∙ ap (λ k. flat_map (λ (m : List A). m) (tabulate f k))
    (add-one n)) (All-append P (flat_map (λ l. l) (tabulate f n)) (f n) front (each n (omega arith)))

-- ---- the ranges of a document are ranges of it

range_there : (document : Document) (story : Story) (text : List Item) (range : DeletedRange) →
    story_text document story ≡ Some text → IsRangeOf story (length text) range →
    HasText document range.story (HasRange range.from range.to)
range_there document story text range there is =
    let such : HasText document story (HasRange range.from range.to) =
    subst (λ (o : Option (List Item)). MatchOption o ⊥ (HasRange range.from range.to)) (sym there)
    (is.some, is.within) in
    subst (λ (s : Story). HasText document s (HasRange range.from range.to)) (sym is.story_is) such

text_there : (document : Document) (story : Story) (text : List Item) (flags : List Bool) →
    story_text document story ≡ Some text → length flags ≤ length text → AreRanges document (text_ranges story flags)
text_there document story text flags there short =
    listed_all (λ (r : DeletedRange). HasText document r.story (HasRange r.from r.to)) (range_at story flags)
    (length flags) (λ at range low is.
    let found = range_within story flags at range low is in
    let within = found.within in
    range_there document story text range there (record {
      story_is = found.story_is;
      some = found.some;
      within = omega (arith, within, short);
    }))

texts_there : (document : Document) (side : Side) (texts : List (List Item)) (flags : List Bool) →
    ((i : ℕ) → story_text document (side_name side i) ≡ slice_get texts i) →
    AreRanges document (texts_ranges side flags texts)
texts_there document side texts flags named =
    all_joined (λ (r : DeletedRange). HasText document r.story (HasRange r.from r.to))
    (λ i. text_ranges (side_name side i) (text_flags flags texts i)) (length texts) (λ i low.
    let there = slice_get-get_or texts i [] low in
    let text = get_or texts i [] in
    let size : length (unwrap_or (slice_get texts i) []) ≡ length text =
    ap (λ (o : Option (List Item)). length (unwrap_or o [])) there in
    let most = length-take (length (unwrap_or (slice_get texts i) [])) (drop (items_before texts i) flags) in
    text_there document (side_name side i) text (text_flags flags texts i) (named i ∙ there)
    (omega (arith, most, size)))

pub ranges_there : (begins : StoryBegins) (flags : List Bool) (document : Document) →
    AreRanges document (document_ranges begins flags document)
ranges_there begins flags document =
    let Is : DeletedRange → Type 0 = λ r. HasText document r.story (HasRange r.from r.to) in
    let notes = drop begins.notes flags in
    let heads = drop begins.heads flags in
    let main = text_ranges Main (take (length document.main) flags) in
    All-append Is main (texts_ranges Notes notes document.notes ++ texts_ranges Heads heads document.heads)
    (text_there document Main document.main (take (length document.main) flags) refl
    (omega (arith, length-take (length document.main) flags)))
    (All-append Is (texts_ranges Notes notes document.notes) (texts_ranges Heads heads document.heads)
    (texts_there document Notes document.notes notes (λ i. refl))
    (texts_there document Heads document.heads heads (λ i. refl)))
