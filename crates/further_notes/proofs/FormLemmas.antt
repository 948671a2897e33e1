-- The texts of notes that were endnotes or comments.
use Rattle.std.proofs.Common.{◌≡◌, ◌≢◌, ◌∙◌, ap, sym, refl, subst, ℕ, ◌+◌, ◌-◌, ◌≤◌, Bool, true, false, List, [], ◌∷◌, ◌++◌, length}
use Rattle.std.proofs.Common.{take, drop, Some, arith, cond, append-nil, append_assoc}
use Rattle.std.specs.Prelude.{◌==◌, slice_get, slice_range}
use Rattle.std.specs.List.{splice}
use Rattle.std.proofs.lemmas.List.{take_all, drop_all, take_rest}
use Rattle.doc_bits.proofs.Public.{All_at}
use Rattle.doc_model.specs.declared.item.Item.{Item}
use Rattle.doc_model.specs.Document.{HasPropertyMaps, IsFormedItem, IsFormedText}
use Rattle.doc_mends.specs.declared.mends.NoteStory.{NoteStory}
use Rattle.further_notes.specs.Forms.{note_mark, story_mark, marks_by, own_marks, as_note_text, bracketed_units}

-- ---- marks

one_at_most : (has : Bool) (item : Item) (n : ℕ) → 1 ≤ n → length (cond has (item ∷ []) []) ≤ n
one_at_most true item n some = some
one_at_most false item n some = omega arith

pub marks_within : (story : NoteStory) (text : List Item) → length (own_marks story text) ≤ length text
marks_within story [] = omega arith
marks_within story (item ∷ text) =
    one_at_most (item.unit == story_mark story) (record item { unit = note_mark }) (length (item ∷ text))
    (omega arith)

-- the mark is there, or not
pub marked : (story : NoteStory) (text : List Item) (item : Item) → slice_get text 0 ≡ Some item →
    (item.unit == story_mark story) ≡ true → own_marks story text ≡ (record item { unit = note_mark }) ∷ []
marked story text item there is =
    ap (marks_by story) there
    ∙ ap (λ (b : Bool). cond b ((record item { unit = note_mark }) ∷ []) []) is

pub unmarked : (story : NoteStory) (text : List Item) (item : Item) → slice_get text 0 ≡ Some item →
    (item.unit == story_mark story) ≡ false → own_marks story text ≡ []
unmarked story text item there is =
    ap (marks_by story) there
    ∙ ap (λ (b : Bool). cond b ((record item { unit = note_mark }) ∷ []) []) is

pub nothing_marked : (story : NoteStory) (text : List Item) → length text ≡ 0 → own_marks story text ≡ []
nothing_marked story [] none = refl
nothing_marked story (item ∷ text) none = absurd (omega (arith, none))

-- its maps are those of the item
pub mark_maps : (text : List Item) (item made : Item) → IsFormedText text → slice_get text 0 ≡ Some item →
    made ≡ record item { unit = note_mark } → HasPropertyMaps made
mark_maps text item made formed there is =
    let maps = (All_at IsFormedItem text 0 item formed.each there).maps in
    subst HasPropertyMaps (sym is) (record { chp = maps.chp; pap = maps.pap; sect = maps.sect })

-- ---- titles

pub title_made : (initials made : List ℕ) → 0 ≢ length initials →
    made ≡ (((0x5B ∷ []) ++ initials) ++ 0x5D ∷ []) ++ 0x20 ∷ [] → made ≡ bracketed_units initials
title_made [] made some is = absurd (some refl)
title_made (unit ∷ units) made some is =
    is ∙ ap (λ (l : List ℕ). 0x5B ∷ l) (append_assoc (unit ∷ units) (0x5D ∷ []) (0x20 ∷ []))

-- ---- texts

pub spliced_behind : {A : Type 0} (xs ys : List A) (len : ℕ) → len ≡ length xs → splice xs len len ys ≡ xs ++ ys
spliced_behind {A = A} xs ys len is =
    let all : length xs ≤ len = omega (arith, is) in
    ap (λ (l : List A). l ++ (ys ++ drop len xs)) (take_all len xs all)
    ∙ (ap (λ (l : List A). xs ++ (ys ++ l)) (drop_all len xs all) ∙ ap (λ (l : List A). xs ++ l) (append-nil ys))

pub note_text_made : (story : NoteStory) (title text marks rest titled made : List Item) (from to : ℕ) →
    marks ≡ own_marks story text → from ≡ length marks → to ≡ length text → rest ≡ slice_range text from to →
    titled ≡ title ++ rest → made ≡ marks ++ titled → made ≡ as_note_text story title text
note_text_made story title text marks rest titled made from to marks_are from_is to_is rest_is titled_is made_is =
    let begin : from ≡ length (own_marks story text) = from_is ∙ ap length marks_are in
    let rest_there : rest ≡ drop (length (own_marks story text)) text =
    rest_is ∙ ((λ i. take (to_is i - begin i) (drop (begin i) text)) ∙ take_rest text (length (own_marks story text)))
    in
    let titled_there : titled ≡ title ++ drop (length (own_marks story text)) text =
    titled_is ∙ ap (λ (l : List Item). title ++ l) rest_there in
    made_is ∙ (λ i. marks_are i ++ titled_there i)
