-- When the texts and the bookmarks of a document by columns are right.
use Rattle.std.proofs.Common.{◌≡◌, ◌⊎◌, inl, inr, ℕ, ◌-◌, ◌≤◌, Bool, true, false, not, List, [], ◌∷◌, length, map}
use Rattle.std.proofs.Common.{Option, Some, None, refl, sym, ◌∙◌, ap, subst}
use Rattle.std.specs.Prelude.{slice_get, is_some, IsTrue}
use Rattle.std.specs.Option.{IfSome}
use Rattle.std.specs.List.{All}
use Rattle.std.proofs.lemmas.List.{length-map}
use Rattle.std.proofs.lemmas.List.Elements.{All-map}
use Rattle.std.proofs.lemmas.Option.{slice_get-map}
use Rattle.prop_map.specs.Settings.{Properties}
use Rattle.prop_map.specs.Formed.{IsPropertyMap, character_groups}
use Rattle.text_codes.specs.Paragraph.{paragraph_mark}
use Rattle.doc_bits.specs.declared.places.Where.{Where}
use Rattle.doc_bits.specs.Rules.{LeastOrNone}
use Rattle.document_bookmarks.specs.declared.bookmark_order.Bookmark.{Bookmark}
use Rattle.document_bookmarks.specs.Bookmarks.{AreFormedBookmarks}
use Rattle.document_bookmarks.specs.Names.{HasSameName}
use Rattle.doc_model.specs.declared.item.Item.{Item}
use Rattle.doc_model.specs.Document.{IsFormedItem}
use Rattle.plain_doc.specs.RulesOfTexts.{EndsRight, IsHead}
use Rattle.doc_model.specs.Marks.{most_bookmarks}
use Rattle.doc_columns.specs.Marks.{AreValidBookmarks}

-- the properties of formed items are of characters
pub chps_formed : (text : List Item) (chps : List Properties) → chps ≡ map (λ item. item.chp) text →
    All IsFormedItem text → All (IsPropertyMap character_groups) chps
chps_formed text chps is formed =
    subst (All (IsPropertyMap character_groups)) (sym is)
    (All-map (IsPropertyMap character_groups) (λ (item : Item). item.chp) text (λ k d h. (formed k d h).maps.chp))

no_items : (text : List Item) → map (λ item. item.unit) text ≡ [] → text ≡ []
no_items [] e = refl
no_items (item ∷ text) e = absurd (cc)

-- a text ends right where its units do
pub ends_of_units : (part : Where) (text : List Item) (units : List ℕ) → units ≡ map (λ item. item.unit) text →
    (slice_get units (length units - 1) ≡ Some paragraph_mark) ⊎ (IsHead part × (units ≡ [])) → EndsRight part text
ends_of_units part text units is (inr none) = inr (none.0, no_items text (sym is ∙ none.1))
ends_of_units part text units is (inl last) =
    let long : length units ≡ length text = ap length is ∙ length-map text (λ (item : Item). item.unit) in
    inl (
    sym (slice_get-map (λ (item : Item). item.unit) text (length text - 1))
    ∙ ap (λ (us : List ℕ). slice_get us (length text - 1)) (sym is)
    ∙ ap (λ (n : ℕ). slice_get units (n - 1)) (sym long)
    ∙ last
    )

-- ---- the document

-- what is found is as it is said of
pub taken : {A : Type 0} (P : A → Type 0) (found : Option A) (x : A) → found ≡ Some x → IfSome found P → P x
taken {A = A} P found x is said = subst (λ (o : Option A). IfSome o P) is said

-- they are right where they are formed, few, and no name is there twice
pub right_marks : (len : ℕ) (list : List Bookmark) (found : Option ℕ) (none : Bool) → AreFormedBookmarks len list →
    length list ≤ most_bookmarks → LeastOrNone (HasSameName list) found → is_some found ≡ not none → IsTrue none →
    AreValidBookmarks len list
right_marks len list None none formed few first is all = record { formed = formed; few = few; names = first }
right_marks len list (Some place) true formed few first is all = absurd (cc is)
right_marks len list (Some place) false formed few first is all = absurd (cc all)

-- what is said of it says more
pub some_more : {A : Type 0} (P Q : A → Type 0) (found : Option A) → ((x : A) → P x → Q x) → IfSome found P →
    IfSome found Q
some_more P Q None more said = tt
some_more P Q (Some x) more said = more x said
