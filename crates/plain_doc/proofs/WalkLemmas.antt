-- Going through field characters with the open fields in hand: fields leave what is open as it was.
use Rattle.std.proofs.Common.{◌≡◌, ℕ, zero, suc, ◌+◌, ◌<◌, ◌≤◌, true, false, List, [], ◌∷◌, ◌++◌, length, Option}
use Rattle.std.proofs.Common.{Some, None, refl, ◌∙◌, ap, append_assoc, arith}
use Rattle.std.specs.List.{All, flat_map}
use Rattle.std.proofs.lemmas.Bool.{lt-ltb}
use Rattle.std.proofs.lemmas.List.Concat.{flat_map-cons}
use Rattle.std.proofs.lemmas.List.Elements.{All-head, All-tail}
use Rattle.plain_doc.specs.Nesting.{result_part, IsField, AreNestedFields}
use Rattle.plain_doc.specs.OpenFields.{Open, after_field_character, after_next}
pub use Rattle.plain_doc.specs.OpenFields.{after_all}

pub after_both : (limit : ℕ) (front back : List ℕ) (fields : Option Open) →
    after_all limit (front ++ back) fields ≡ after_all limit back (after_all limit front fields)
after_both limit [] back fields = refl
after_both limit (unit ∷ front) back fields = after_both limit front back (after_next limit unit fields)

pub after_none : (limit : ℕ) (units : List ℕ) → after_all limit units None ≡ None
after_none limit [] = refl
after_none limit (unit ∷ units) = after_none limit units

-- a beginning where there is room
begins : (limit : ℕ) (fields : Open) → length fields < limit → after_field_character limit 0x13 fields ≡ Some (false ∷
    fields)
begins limit fields h = rw (lt-ltb (length fields) limit h) refl

-- fields leave what is open as it was, where there is room for them
result_passes : (limit depth : ℕ) (result : Option (List ℕ)) (rest : List ℕ) (fields : Open) →
    ((units rest : List ℕ) (fields : Open) → length fields + depth ≤ limit → AreNestedFields depth units →
    after_all limit (units ++ rest) (Some fields) ≡ after_all limit rest (Some fields)) →
    ((inner : List ℕ) → result ≡ Some inner → AreNestedFields depth inner) → suc (length fields) + depth ≤ limit →
    after_all limit (result_part result ++ 0x15 ∷ rest) (Some (false ∷ fields)) ≡ after_all limit rest (Some fields)
result_passes limit depth None rest fields inner_passes such room = refl
result_passes limit depth (Some inner) rest fields inner_passes such room =
    inner_passes inner (0x15 ∷ rest) (true ∷ fields) room (such inner refl)

field_passes : (limit depth : ℕ) (units rest : List ℕ) (fields : Open) →
    ((units rest : List ℕ) (fields : Open) → length fields + depth ≤ limit → AreNestedFields depth units →
    after_all limit (units ++ rest) (Some fields) ≡ after_all limit rest (Some fields)) →
    IsField (AreNestedFields depth) units → suc (length fields) + depth ≤ limit →
    after_all limit (units ++ rest) (Some fields) ≡ after_all limit rest (Some fields)
field_passes limit depth units rest fields inner_passes field room =
    let tail : List ℕ = result_part field.result ++ 0x15 ∷ [] in
    let joined : units ++ rest ≡ 0x13 ∷ (field.instruction ++ (tail ++ rest)) =
    ap (λ xs. xs ++ rest) field.spelt ∙ ap (λ xs. 0x13 ∷ xs) (append_assoc field.instruction tail rest) in
    let here : after_all limit (0x13 ∷ (field.instruction ++ (tail ++ rest))) (Some fields) ≡ after_all limit
    (field.instruction ++ (tail ++ rest)) (Some (false ∷ fields)) = ap
    (λ o. after_all limit (field.instruction ++ (tail ++ rest)) o) (begins limit fields (omega arith)) in
    let inner : after_all limit (field.instruction ++ (tail ++ rest)) (Some (false ∷ fields)) ≡ after_all limit
    (tail ++ rest) (Some (false ∷ fields)) = inner_passes field.instruction (tail ++ rest)
    (false ∷ fields) room field.instruction_is in
    let last : tail ++ rest ≡ result_part field.result ++ 0x15 ∷ rest =
    append_assoc (result_part field.result) (0x15 ∷ []) rest in
    let result : after_all limit (tail ++ rest) (Some (false ∷ fields)) ≡ after_all limit rest (Some fields) =
    ap (λ xs. after_all limit xs (Some (false ∷ fields))) last
    ∙ result_passes limit depth field.result rest fields inner_passes field.result_is room in
    ap (λ xs. after_all limit xs (Some fields)) joined ∙ here ∙ inner ∙ result

list_passes : (limit depth : ℕ) (list : List (List ℕ)) (rest : List ℕ) (fields : Open) →
    ((units rest : List ℕ) (fields : Open) → length fields + depth ≤ limit → AreNestedFields depth units →
    after_all limit (units ++ rest) (Some fields) ≡ after_all limit rest (Some fields)) →
    All (IsField (AreNestedFields depth)) list → suc (length fields) + depth ≤ limit →
    after_all limit (flat_map (λ field. field) list ++ rest) (Some fields) ≡ after_all limit rest (Some fields)
list_passes limit depth [] rest fields inner_passes each room = refl
list_passes limit depth (units ∷ list) rest fields inner_passes each room =
    let more : List ℕ = flat_map (λ field. field) list in
    let joined : flat_map (λ field. field) (units ∷ list) ++ rest ≡ units ++ (more ++ rest) =
    ap (λ xs. xs ++ rest) (flat_map-cons (λ field. field) units list) ∙ append_assoc units more rest in
    ap (λ xs. after_all limit xs (Some fields)) joined
    ∙ field_passes limit depth units (more ++ rest) fields inner_passes
    (All-head (IsField (AreNestedFields depth)) units list each) room
    ∙ list_passes limit depth list rest fields inner_passes (All-tail (IsField (AreNestedFields depth)) units list each)
    room

pub fields_pass : (limit depth : ℕ) (units rest : List ℕ) (fields : Open) → length fields + depth ≤ limit →
    AreNestedFields depth units → after_all limit (units ++ rest) (Some fields) ≡ after_all limit rest (Some fields)
unfolding AreNestedFields
fields_pass limit zero units rest fields room none = ap (λ xs. after_all limit (xs ++ rest) (Some fields)) none
fields_pass limit (suc depth) units rest fields room joins =
    ap (λ xs. after_all limit (xs ++ rest) (Some fields)) joins.joined
    ∙ list_passes limit depth joins.fields rest fields (fields_pass limit depth) joins.each (omega arith)
