-- Lists that are made as items and texts are gone through.
use Rattle.std.proofs.Common.{◌≡◌, ◌<◌, ◌≤◌, ◌+◌, ◌∙◌, ap, refl, sym, ℕ, suc, List, [], ◌∷◌, ◌++◌, length, map, drop}
use Rattle.std.proofs.Common.{get_or, Option, Some, None, arith}
use Rattle.std.proofs.lemmas.List.{append_assoc, length-append, append-nil, drop_all}
use Rattle.std.proofs.Math.Seq.{drop-cons}
use Rattle.doc_parts.specs.declared.lists.Fld.{Fld}
use Rattle.doc_model.specs.declared.item.Item.{Item}
use Rattle.doc_model.specs.Collected.{collected, entry_before, field_character, joined_texts, cuts_from}
use Rattle.doc_model.specs.TextLists.{cuts_of}
use Rattle.doc_model.proofs.Public.{collected-append}
use Rattle.full_save.specs.Lists.{fields_from, IsListedUpTo}

-- what is left of a list begins with what is there
pub drop_here : {A : Type 0} (xs : List A) (i : ℕ) (d : A) → i < length xs → drop i xs ≡ get_or xs i d ∷ drop (i + 1) xs
drop_here xs i d h = let e : suc i ≡ i + 1 = omega arith in drop-cons xs i d h ∙ ap (λ (n : ℕ). get_or xs i d ∷ drop n
    xs) e

-- what is left is that of the item, and that of the rest
left_here :
    {A : Type 0} (what : Item → Option A) (from : ℕ) (items : List Item) (i : ℕ) (d : Item) → i < length items →
    collected what (from + i) (drop i items)
    ≡ entry_before (what (get_or items i d)) (from + i) (collected what (from + (i + 1)) (drop (i + 1) items))
unfolding collected
left_here what from items i d h =
    let e : from + i + 1 ≡ from + (i + 1) = omega arith in
    ap (λ (rest : List Item). collected what (from + i) rest) (drop_here items i d h)
    ∙ ap (λ (n : ℕ). entry_before (what (get_or items i d)) (from + i) (collected what n (drop (i + 1) items))) e

pub listed_entry :
    {A B : Type 0} (what : Item → Option A) (entry : ℕ × A → B) (from : ℕ) (items : List Item) (i : ℕ) (d : Item)
    (value : A) (old mid new : List B) → i < length items → what (get_or items i d) ≡ Some value →
    new ≡ mid ++ entry (from + i, value) ∷ [] → IsListedUpTo what entry from items i old mid →
    IsListedUpTo what entry from items (i + 1) old new
listed_entry what entry from items i d value old mid new h has is listed =
    let more = collected what (from + (i + 1)) (drop (i + 1) items) in
    let left = left_here what from items i d h
    ∙ ap (λ (o : Option _). entry_before o (from + i) more) has in
    record {
      rest =
          ap (λ (xs : List _). xs ++ map entry more) is
          ∙ (append_assoc mid (entry (from + i, value) ∷ []) (map entry more)
          ∙ (ap (λ (xs : List (ℕ × _)). mid ++ map entry xs) (sym left) ∙ listed.rest));
    }

pub listed_nothing :
    {A B : Type 0} (what : Item → Option A) (entry : ℕ × A → B) (from : ℕ) (items : List Item) (i : ℕ) (d : Item)
    (old new : List B) → i < length items → what (get_or items i d) ≡ None →
    IsListedUpTo what entry from items i old new → IsListedUpTo what entry from items (i + 1) old new
listed_nothing what entry from items i d old new h has listed =
    let more = collected what (from + (i + 1)) (drop (i + 1) items) in
    let left = left_here what from items i d h
    ∙ ap (λ (o : Option _). entry_before o (from + i) more) has in
    record { rest = ap (λ (xs : List (ℕ × _)). new ++ map entry xs) (sym left) ∙ listed.rest }

-- at the end of the items the list has what all of them have
pub listed_all :
    {A B : Type 0} (what : Item → Option A) (entry : ℕ × A → B) (from : ℕ) (items : List Item) (i : ℕ)
    (old new : List B) → length items ≤ i → IsListedUpTo what entry from items i old new →
    new ≡ old ++ map entry (collected what from items)
unfolding collected
listed_all what entry from items i old new h listed =
    let none : drop i items ≡ [] = drop_all i items h in
    sym (append-nil new)
    ∙ (ap (λ (rest : List Item). new ++ map entry (collected what (from + i) rest)) (sym none) ∙ listed.rest)

-- the texts before a number are gone through, and the next one begins at a CP
pub record IsAtText (texts : List (List Item)) (k cp : ℕ) : Type 0 where
  pub place : cp + length (joined_texts (drop k texts)) ≡ length (joined_texts texts)

pub at_next :
    (texts : List (List Item)) (k cp : ℕ) → k < length texts → IsAtText texts k cp →
    IsAtText texts (k + 1) (cp + length (get_or texts k []))
at_next texts k cp h is =
    let rest = joined_texts (drop (k + 1) texts) in
    let e = ap (λ (more : List (List Item)). length (joined_texts more)) (drop_here texts k [] h) in
    let place = is.place in
    record { place = omega (arith, e, place, length-append (get_or texts k []) rest) }

pub text_fits :
    (texts : List (List Item)) (k cp : ℕ) → k < length texts → IsAtText texts k cp →
    cp + length (get_or texts k []) ≤ length (joined_texts texts)
text_fits texts k cp h is =
    let e = ap (λ (more : List (List Item)). length (joined_texts more)) (drop_here texts k [] h) in
    let place = is.place in
    omega (arith, e, place, length-append (get_or texts k []) (joined_texts (drop (k + 1) texts)))

pub at_last : (texts : List (List Item)) (k cp : ℕ) → length texts ≤ k → IsAtText texts k cp →
    cp ≡ length (joined_texts texts)
at_last texts k cp h is =
    let e = ap (λ (more : List (List Item)). length (joined_texts more)) (drop_all k texts h) in
    let place = is.place in
    omega (arith, e, place)

-- the CPs at which the texts before a number begin
pub record IsCutUpTo (texts : List (List Item)) (k cp : ℕ) (cuts : List ℕ) : Type 0 where
  pub rest : cuts ++ cuts_from cp (drop k texts) ≡ cuts_from 0 texts

pub cut_next :
    (texts : List (List Item)) (k cp : ℕ) (cuts more : List ℕ) → k < length texts → more ≡ cuts ++ cp ∷ [] →
    IsCutUpTo texts k cp cuts → IsCutUpTo texts (k + 1) (cp + length (get_or texts k [])) more
unfolding cuts_from
cut_next texts k cp cuts more h is cut =
    let rest = cuts_from (cp + length (get_or texts k [])) (drop (k + 1) texts) in
    record {
      rest =
          ap (λ (xs : List ℕ). xs ++ rest) is
          ∙ (append_assoc cuts (cp ∷ []) rest
          ∙ (ap (λ (xs : List (List Item)). cuts ++ cuts_from cp xs) (sym (drop_here texts k [] h)) ∙ cut.rest));
    }

pub cut_last :
    (texts : List (List Item)) (k cp : ℕ) (cuts : List ℕ) → length texts ≤ k → IsCutUpTo texts k cp cuts →
    cuts ++ cp ∷ [] ≡ cuts_from 0 texts
unfolding cuts_from
cut_last texts k cp cuts h cut =
    ap (λ (xs : List (List Item)). cuts ++ cuts_from cp xs) (sym (drop_all k texts h)) ∙ cut.rest

pub some_cut : (items : List Item) (texts : List (List Item)) → 1 ≤ length items → cuts_of items texts ≡ cuts_from 0
    texts
some_cut [] texts some = absurd (omega arith)
some_cut (item ∷ items) texts some = refl

-- the field characters of the texts before a number
pub record HasFieldsUpTo (texts : List (List Item)) (k cp : ℕ) (fields : List Fld) : Type 0 where
  pub rest : fields ++ fields_from cp (joined_texts (drop k texts)) ≡ fields_from 0 (joined_texts texts)

map-append : {A B : Type 0} (f : A → B) (xs ys : List A) → map f (xs ++ ys) ≡ map f xs ++ map f ys
map-append f [] ys = refl
map-append f (x ∷ xs) ys = ap (λ (zs : List _). f x ∷ zs) (map-append f xs ys)

fields-append : (cp : ℕ) (xs ys : List Item) → fields_from cp (xs ++ ys) ≡ fields_from cp xs ++ fields_from
    (cp + length xs) ys
fields-append cp xs ys =
    let entry : ℕ × (ℕ × ℕ) → Fld = λ e. record { cp = e.0; unit = e.1.0; byte = e.1.1 } in
    ap (λ (entries : List (ℕ × (ℕ × ℕ))). map entry entries) (collected-append field_character cp xs ys)
    ∙ map-append entry (collected field_character cp xs) (collected field_character (cp + length xs) ys)

pub fields_next :
    (texts : List (List Item)) (k cp : ℕ) (fields more : List Fld) → k < length texts →
    more ≡ fields ++ fields_from cp (get_or texts k []) → HasFieldsUpTo texts k cp fields →
    HasFieldsUpTo texts (k + 1) (cp + length (get_or texts k [])) more
fields_next texts k cp fields more h is has =
    let text = get_or texts k [] in
    let rest = joined_texts (drop (k + 1) texts) in
    record {
      rest =
          ap (λ (xs : List Fld). xs ++ fields_from (cp + length text) rest) is
          ∙ (append_assoc fields (fields_from cp text) (fields_from (cp + length text) rest)
          ∙ (ap (λ (xs : List Fld). fields ++ xs) (sym (fields-append cp text rest))
          ∙ (ap (λ (xs : List (List Item)). fields ++ fields_from cp (joined_texts xs)) (sym (drop_here texts k [] h))
          ∙ has.rest)));
    }

pub fields_last :
    (texts : List (List Item)) (k cp : ℕ) (fields : List Fld) → length texts ≤ k → HasFieldsUpTo texts k cp fields →
    fields ≡ fields_from 0 (joined_texts texts)
unfolding collected
fields_last texts k cp fields h has =
    sym (append-nil fields)
    ∙ (ap (λ (xs : List (List Item)). fields ++ fields_from cp (joined_texts xs)) (sym (drop_all k texts h)) ∙ has.rest)
