-- The text of a file by its runs: what a session begins with is bounded where the file is.
use Rattle.std.specs.Prelude.{slice_get, slice_index, IsSome, All}
use Rattle.std.specs.List.{filter_map, cons_option}
use Rattle.std.proofs.Common.{◌≡◌, ◌∙◌, refl, sym, ap, ℕ, zero, suc, ◌+◌, Bool, true, false, List, [], ◌∷◌}
use Rattle.std.proofs.Common.{◌++◌, length, map, Option, Some, None, arith, append_assoc, length-append}
use Rattle.std.proofs.lemmas.List.Elements.{All-head, All-tail, All-append}
use Rattle.std.proofs.lemmas.Option.{same_Some, none-some}
use Rattle.doc_model.specs.declared.item.Item.{Item}
use Rattle.doc_model.specs.declared.document.Document.{Document}
use Rattle.doc_model.specs.Collected.{joined_texts}
use Rattle.save_laws.specs.ByRuns.{slot_end, text_ends}
use Rattle.save_laws.specs.Slots.{Slot, shown, loose, last, StoryEnds, loose_if, story_slots, note_slots, head_slots}
use Rattle.save_laws.specs.Slots.{last_slots, document_slots, story_counts}
use Rattle.save_laws.proofs.Public.{story_ends, shown_ends}

-- ---- which marks are behind stories is told by the counts

loose_same : (one other : Bool) → length (loose_if one) ≡ length (loose_if other) → one ≡ other
loose_same true true same = refl
loose_same true false same = absurd (omega (arith, same))
loose_same false true same = absurd (omega (arith, same))
loose_same false false same = refl

story_same : (texts : List (List Item)) (one other : Bool) →
    length (story_slots texts one) ≡ length (story_slots texts other) → one ≡ other
story_same texts one other same =
    loose_same one other
    (omega (
      arith,
      same,
      length-append (map shown (joined_texts texts)) (loose_if one),
      length-append (map shown (joined_texts texts)) (loose_if other),
    ))

pub same_ends : (document : Document) (one other : StoryEnds) →
    story_counts document one ≡ story_counts document other → one ≡ other
same_ends document one other same =
    let notes = story_same document.notes one.notes other.notes (ap (λ (l : List ℕ). slice_index l 1) same) in
    let heads = story_same document.heads one.heads other.heads (ap (λ (l : List ℕ). slice_index l 2) same) in
    λ i. record { notes = notes i; heads = heads i }

-- ---- the end of a slot is at its place

index_in : (front behind : List Slot) (k : ℕ) (slot : Slot) (end : Bool) → All (λ s. IsSome (slot_end s)) front →
    ((j : ℕ) (s : Slot) → slice_get behind j ≡ Some s → slot_end s ≡ None) →
    slice_get (front ++ behind) k ≡ Some slot → slot_end slot ≡ Some end →
    slice_get (filter_map slot_end (front ++ behind)) k ≡ Some end
index_in [] behind k slot end all none here is = absurd (none-some end (sym (none k slot here) ∙ is))
index_in (s ∷ front) behind zero slot end all none here is =
    let same : slot_end s ≡ Some end = ap slot_end (same_Some s slot here) ∙ is in
    ap (λ (o : Option Bool). slice_get (cons_option o (filter_map slot_end (front ++ behind))) 0) same
index_in (shown item ∷ front) behind (suc k) slot end all none here is =
    index_in front behind k slot end (All-tail (λ s. IsSome (slot_end s)) (shown item) front all) none here is
index_in (loose ∷ front) behind (suc k) slot end all none here is =
    index_in front behind k slot end (All-tail (λ s. IsSome (slot_end s)) loose front all) none here is
index_in (last ∷ front) behind (suc k) slot end all none here is =
    absurd (grind (arith, All-head (λ s. IsSome (slot_end s)) last front all))

last_none : (slots : List Slot) (j : ℕ) (s : Slot) → slice_get (last_slots slots) j ≡ Some s → slot_end s ≡ None
last_none [] j s here = absurd (none-some s here)
last_none (slot ∷ slots) zero s here = ap slot_end (sym (same_Some last s here))
last_none (slot ∷ slots) (suc j) s here = absurd (none-some s here)

pub end_there : (document : Document) (ends : StoryEnds) (k : ℕ) (slot : Slot) (end : Bool) →
    slice_get (document_slots document ends) k ≡ Some slot → slot_end slot ≡ Some end →
    slice_get (text_ends (document_slots document ends)) k ≡ Some end
unfolding document_slots
end_there document ends k slot end here is =
    let main = map shown document.main in
    let notes = note_slots document ends in
    let heads = head_slots document ends in
    let behind = last_slots (notes ++ heads) in
    let front = main ++ (notes ++ heads) in
    let whole : main ++ (notes ++ (heads ++ behind)) ≡ front ++ behind =
    sym (append_assoc main (notes ++ heads) behind
    ∙ ap (λ (l : List Slot). main ++ l) (append_assoc notes heads behind))
    in
    let P : Slot → Type 0 = λ s. IsSome (slot_end s) in
    let all : All P front =
    All-append P main (notes ++ heads) (shown_ends document.main)
    (All-append P notes heads (story_ends document.notes ends.notes) (story_ends document.heads ends.heads)) in
    ap (λ (l : List Slot). slice_get (filter_map slot_end l) k) whole
    ∙ index_in front behind k slot end all (last_none (notes ++ heads))
    (ap (λ (l : List Slot). slice_get l k) (sym whole) ∙ here) is
