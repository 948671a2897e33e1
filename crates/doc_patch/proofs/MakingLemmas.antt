-- A text of a document taken out, changed and put back.
use Rattle.std.proofs.Common.{◌≡◌, ◌∙◌, refl, sym, ap, subst, ℕ, zero, suc, ◌-◌, List, [], ◌∷◌, set, length, take}
use Rattle.std.proofs.Common.{Option, Some, None, arith}
use Rattle.std.proofs.Math.Seq.{take-length}
use Rattle.std.specs.Prelude.{slice_get, slice_range, MatchOption, ⊤}
use Rattle.std.specs.Option.{unwrap_or}
use Rattle.std.proofs.lemmas.Option.{same_Some}
use Rattle.doc_bits.specs.declared.places.Story.{Story}
use Rattle.doc_bits.specs.declared.places.Story.TheVariants.{Main, Note, Head}
use Rattle.doc_model.specs.declared.item.Item.{Item}
use Rattle.doc_model.specs.declared.document.Document.{Document}
use Rattle.doc_patch.specs.Places.{story_text, items_at}
use Rattle.doc_patch.specs.Places.{HasText}
use Rattle.doc_patch.specs.Changes.{changed_at, put_changed, text_changed}
use Rattle.doc_patch.proofs.MakeLemmas.{changed_back}

-- ---- an entry of a list

-- an entry that is there, and another in its place
pub put_there : {A : Type 0} (entries : List A) (at : ℕ) (entry other : A) → slice_get entries at ≡ Some entry →
    changed_at entries at (λ _. other) ≡ set entries at other
put_there entries at entry other there = ap (put_changed entries at (λ _. other)) there

pub set_there : {A : Type 0} (entries : List A) (at : ℕ) (entry other : A) → slice_get entries at ≡ Some entry →
    slice_get (set entries at other) at ≡ Some other
set_there [] at entry other there = absurd (cc (there))
set_there (x ∷ xs) zero entry other there = refl
set_there (x ∷ xs) (suc at) entry other there = set_there xs at entry other there

entry_back : {A : Type 0} (f : A → A) (entries : List A) (at : ℕ) (hole entry made : A) →
    slice_get entries at ≡ Some entry → made ≡ f entry
    → changed_at (changed_at entries at (λ _. hole)) at (λ _. made) ≡ changed_at entries at f
entry_back {A = A} f entries at hole entry made there is =
    ap (λ (t : List A). changed_at t at (λ _. made)) (put_there entries at entry hole there)
    ∙ put_there (set entries at hole) at hole made (set_there entries at entry hole there)
    ∙ changed_back f entries at hole entry made there is

-- ---- a text of a document

-- a text that is taken out, changed and put back is changed
pub text_back : (f : List Item → List Item) (story : Story) (document left put : Document) (text made : List Item) →
    story_text document story ≡ Some text → left ≡ text_changed (λ _. []) story document → made ≡ f text
    → put ≡ text_changed (λ _. made) story left → put ≡ text_changed f story document
text_back f Main document left put text made there out is back =
    back
    ∙ ap (text_changed (λ _. made) Main) out
    ∙ ap (λ (main : List Item). record document { main = main })
    (is ∙ ap f (sym (same_Some document.main text there)))
text_back f (Note k) document left put text made there out is back =
    back
    ∙ ap (text_changed (λ _. made) (Note k)) out
    ∙ ap (λ (notes : List (List Item)). record document { notes = notes })
    (entry_back f document.notes k [] text made there is)
text_back f (Head k) document left put text made there out is back =
    back
    ∙ ap (text_changed (λ _. made) (Head k)) out
    ∙ ap (λ (heads : List (List Item)). record document { heads = heads })
    (entry_back f document.heads k [] text made there is)

-- where it was taken out, an empty one is there
hole_there : (story : Story) (document : Document) (text : List Item) → story_text document story ≡ Some text →
    story_text (text_changed (λ _. []) story document) story ≡ Some []
hole_there Main document text there = refl
hole_there (Note k) document text there =
    ap (λ (t : List (List Item)). slice_get t k) (put_there document.notes k text [] there)
    ∙ set_there document.notes k text [] there
hole_there (Head k) document text there =
    ap (λ (t : List (List Item)). slice_get t k) (put_there document.heads k text [] there)
    ∙ set_there document.heads k text [] there

-- what is said of a text that is there, weaker
pub text_weaker : {A : Type 0} (o : Option A) (P Q : A → Type 0) → MatchOption o ⊥ P →
    ((x : A) → o ≡ Some x → P x → Q x) → MatchOption o ⊥ Q
text_weaker None P Q h more = h
text_weaker (Some x) P Q h more = more x refl h

-- a text that is there
pub has_any : (document : Document) (story : Story) (text : List Item) → story_text document story ≡ Some text →
    HasText document story (λ _. ⊤)
has_any document story text there = subst (λ (o : Option (List Item)). MatchOption o ⊥ (λ _. ⊤)) (sym there) tt

pub has_hole : (story : Story) (document left : Document) (text : List Item) → story_text document story ≡ Some text →
    left ≡ text_changed (λ _. []) story document → HasText left story (λ _. ⊤)
has_hole story document left text there out =
    has_any left story [] (ap (λ (d : Document). story_text d story) out ∙ hole_there story document text there)

pub any_text : (document : Document) (story : Story) (P : List Item → Type 0) → HasText document story P →
    HasText document story (λ _. ⊤)
any_text document story P has = text_weaker (story_text document story) P (λ _. ⊤) has (λ text is such. tt)

-- what is said of a text that is there
pub such_text : (document : Document) (story : Story) (P : List Item → Type 0) (text : List Item) →
    HasText document story P → story_text document story ≡ Some text → P text
such_text document story P text has there = subst (λ (o : Option (List Item)). MatchOption o ⊥ P) there has

-- its items
pub items_are : (document : Document) (story : Story) (text : List Item) → story_text document story ≡ Some text →
    items_at document story ≡ text
items_are document story text there = ap (λ (o : Option (List Item)). unwrap_or o []) there

-- ---- lists

-- a range of all entries
pub whole_range : {A : Type 0} (entries : List A) (len : ℕ) → len ≡ length entries → slice_range entries 0 len ≡ entries
whole_range entries len is =
    let n : len - 0 ≡ length entries = omega (arith, is) in
    ap (λ k. take k entries) n ∙ take-length entries
