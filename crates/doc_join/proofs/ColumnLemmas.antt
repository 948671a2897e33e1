-- The columns of a joined document: runs whose values became others, and texts made of columns.
use Rattle.std.proofs.Common.{◌≡◌, ◌∙◌, refl, sym, ap, subst, ℕ, zero, suc, ◌+◌, ◌-◌, ◌<◌, ◌^◌, List, [], ◌∷◌}
use Rattle.std.proofs.Common.{◌++◌}
use Rattle.std.proofs.Common.{length, take, drop, map, get_or, Some, arith}
use Rattle.std.proofs.Math.Seq.{drop-cons}
use Rattle.std.specs.Prelude.{All, slice_get, replicate}
use Rattle.std.specs.List.{splice}
use Rattle.std.proofs.lemmas.List.{take_more, map-append, length-map, drop_all, take_all, append-nil}
use Rattle.std.proofs.lemmas.List.Elements.{All-map, All-weaker}
use Rattle.std.proofs.lemmas.Option.{get_or_from_slice_get}
use Rattle.prop_map.specs.Formed.{IsPropertyMap, character_groups}
use Rattle.prop_map.specs.Settings.{Properties}
use Rattle.run_lists.specs.declared.runs.Run.{Run}
use Rattle.run_lists.specs.Spread.{expanded, total_len}
use Rattle.run_lists.proofs.Public.{spread_push, length-spread, count_within}
use Rattle.doc_model.specs.declared.item.Item.{Item}
use Rattle.doc_model.specs.Document.{IsFormedItem, IsFormedText}
use Rattle.doc_columns.specs.declared.attached.Attached.{Attached}
use Rattle.doc_columns.specs.Attached.{attached_of}
use Rattle.doc_columns.specs.Columns.{item_of, items_of}
use Rattle.doc_columns.proofs.Public.{items_of-maps}
use Rattle.doc_join.specs.declared.renumbering.Renumbering.{Renumbering}
use Rattle.doc_join.specs.Settings.{renumbered_chp}
use Rattle.doc_join.specs.Texts.{renumbered_item, renumbered_text, ending_section, section_ended, HasOwnStyle}
use Rattle.doc_join.specs.Texts.{HaveOwnStyles}
use Rattle.doc_join.specs.JoinedColumns.{renumbered_attached, HasOwnMark}

-- ---- runs whose values became others

map-replicate : {A B : Type 0} (f : A → B) (n : ℕ) (x : A) → map f (replicate n x) ≡ replicate n (f x)
map-replicate f zero x = refl
map-replicate {B = B} f (suc n) x = ap (λ (rest : List B). f x ∷ rest) (map-replicate f n x)

-- one run more
pub runs_more : {A B : Type 0} (f : A → B) (runs : List (Run A)) (k : ℕ) (run : Run A) → k < length runs →
    run ≡ get_or runs k run
    → map f (expanded (take k runs)) ++ replicate run.count (f run.value) ≡ map f (expanded (take (k + 1) runs))
runs_more {A = A} {B = B} f runs k run within here =
    let front = take k runs in
    let more : expanded (take (k + 1) runs) ≡ expanded front ++ replicate run.count run.value =
    ap expanded (take_more runs k run within)
    ∙ (ap (λ (r : Run A). expanded (front ++ r ∷ [])) (sym here) ∙ spread_push front run) in
    sym (ap (map f) more
    ∙ (map-append f (expanded front) (replicate run.count run.value)
    ∙ ap (λ (rest : List B). map f (expanded front) ++ rest) (map-replicate f run.count run.value)))

-- it has room
pub run_fits : {A B : Type 0} (f : A → B) (runs : List (Run A)) (k : ℕ) (run : Run A) (made : List B) →
    k < length runs → run ≡ get_or runs k run → total_len runs < 2 ^ 32 → made ≡ map f (expanded (take k runs))
    → length made + run.count < 2 ^ 32
run_fits {A = A} f runs k run made within here few is =
    let long = ap length is ∙ (length-map (expanded (take k runs)) f ∙ length-spread (take k runs)) in
    let count : run.count ≡ (get_or runs k run).count = ap (λ (r : Run A). r.count) here in
    omega (arith, long, count, count_within runs k run within, few)

-- ---- what a text says of its columns

pub own_marks : (numbers : Renumbering) (text : List Item) (attachments : List Attached) → attachments ≡ map attached_of
    text →
    HaveOwnStyles numbers text → All (HasOwnMark numbers) attachments
own_marks numbers text attachments is own =
    subst (All (HasOwnMark numbers)) (sym is)
    (All-map (HasOwnMark numbers) attached_of text
    (All-weaker (HasOwnStyle numbers) (λ item. HasOwnMark numbers (attached_of item)) (λ item held. held) text own))

pub character_maps : (text : List Item) (chps : List Properties) → chps ≡ map (λ (item : Item). item.chp) text →
    IsFormedText text → All (IsPropertyMap character_groups) chps
character_maps text chps is formed =
    subst (All (IsPropertyMap character_groups)) (sym is)
    (All-map (IsPropertyMap character_groups) (λ (item : Item). item.chp) text
    (All-weaker IsFormedItem (λ item. IsPropertyMap character_groups item.chp) (λ item held. held.maps.chp) text
    formed.each))

pub column_few : {A : Type 0} (f : Item → A) (runs : List (Run A)) (text : List Item) → expanded runs ≡ map f text →
    IsFormedText text → total_len runs < 2 ^ 32
column_few f runs text is formed =
    let few = formed.few in
    omega (arith, length-spread runs, ap length is, length-map text f, few)

-- ---- the text of columns that became others

columns_renumbered : (numbers : Renumbering) (units : List ℕ) (chps : List Properties) (attachments : List Attached) →
    items_of units (map (renumbered_chp numbers) chps) (map (renumbered_attached numbers) attachments)
    ≡ map (renumbered_item numbers) (items_of units chps attachments)
columns_renumbered numbers [] chps attachments = refl
columns_renumbered numbers (unit ∷ units) [] attachments = refl
columns_renumbered numbers (unit ∷ units) (chp ∷ chps) [] = refl
columns_renumbered numbers (unit ∷ units) (chp ∷ chps) (attached ∷ attachments) =
    ap (λ (rest : List Item). renumbered_item numbers (item_of unit chp attached) ∷ rest)
    (columns_renumbered numbers units chps attachments)

pub text_renumbered : (numbers : Renumbering) (text : List Item) (units : List ℕ) (chps : List Properties)
    (attachments : List Attached) → units ≡ map (λ (item : Item). item.unit) text →
    chps ≡ map (renumbered_chp numbers) (map (λ (item : Item). item.chp) text)
    → attachments ≡ map (renumbered_attached numbers) (map attached_of text)
    → items_of units chps attachments ≡ renumbered_text numbers text
text_renumbered numbers text units chps attachments first second third =
    rw (first, second, third)
    (columns_renumbered numbers (map (λ (item : Item). item.unit) text) (map (λ (item : Item). item.chp) text)
    (map attached_of text)
    ∙ ap (renumbered_text numbers) (items_of-maps text))

-- ---- the end of the first main text

pub ended_splice : (text : List Item) (last : ℕ) (item : Item) → 0 < length text → last ≡ length text - 1 →
    slice_get text last ≡ Some item
    → splice text last (last + 1) (ending_section item ∷ []) ≡ section_ended text
ended_splice text last item some is here =
    let within : last < length text = omega (arith, some, is) in
    let end : drop (last + 1) text ≡ [] = drop_all (last + 1) text (omega (arith, some, is)) in
    let next : drop (suc last) text ≡ [] = drop_all (suc last) text (omega (arith, some, is)) in
    let rest : drop last text ≡ item ∷ [] =
    drop-cons text last item within
    ∙ (ap (λ (more : List Item). get_or text last item ∷ more) next
    ∙ ap (λ (x : Item). x ∷ []) (get_or_from_slice_get text last item item here)) in
    ap (λ (back : List Item). take last text ++ ending_section item ∷ back) end
    ∙ (ap (λ (more : List Item). take last text ++ map ending_section more) (sym rest)
    ∙ ap (λ (n : ℕ). take n text ++ map ending_section (drop n text)) is)

-- what is put in place of nothing at the end comes behind
pub splice_end : {A : Type 0} (xs fresh : List A) (len : ℕ) → len ≡ length xs → splice xs len len fresh ≡ xs ++ fresh
splice_end {A = A} xs fresh len is =
    ap (λ (front : List A). front ++ (fresh ++ drop len xs)) (take_all len xs (omega (arith, is)))
    ∙ ap (λ (back : List A). xs ++ back)
    (ap (λ (back : List A). fresh ++ back) (drop_all len xs (omega (arith, is))) ∙ append-nil fresh)
