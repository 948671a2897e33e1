-- What is read of a text has the keys of its objects in ascending order.
use Rattle.std.proofs.Common.{◌≡◌, ℕ, List, Option, Some, None, refl, ap, ◌∙◌, subst}
use Rattle.std.specs.Prelude.{⊤}
use Rattle.std.specs.Option.{option_map, option_and_then}
use Rattle.std.specs.Ordering.{match_ordering, nat_cmp, ordering_reverse}
use Rattle.std.specs.Cmp.Lexicographic.{slice_cmp}
use Rattle.std.specs.declared.cmp.Ordering.TheVariants.{Less, Equal, Greater}
use Rattle.std.proofs.lemmas.Cmp.{nat_list_cmp_total}
use Rattle.json.specs.Lex.{tokens}
use Rattle.json.specs.Json as json
use Rattle.serde_json.specs.Data.{Data, number, array, object, item, Members, no_members, member, put}
use Rattle.serde_json.specs.Read.{number_of, of_json, of_items, of_members, max_depth}
use Rattle.json_values.specs.Plain.{IsBelow, KeysAscend, HasKeysInOrder, ItemsHaveKeysInOrder, MembersHaveKeysInOrder}
use Rattle.json_values.specs.Plain.{ReadKeysAscend}

-- ---- of what was found

abbrev Of : {A : Type 0} → (A → Type 0) → Option A → Type 0
Of P None = ⊤
Of P (Some a) = P a

Of-map : {A B : Type 0} (P : A → Type 0) (Q : B → Type 0) (f : A → B) → ((a : A) → P a → Q (f a)) → (o : Option A) →
    Of P o → Of Q (option_map f o)
Of-map P Q f next None h = tt
Of-map P Q f next (Some a) h = next a h

Of-and_then : {A B : Type 0} (P : A → Type 0) (Q : B → Type 0) (f : A → Option B) → ((a : A) → P a → Of Q (f a)) →
    (o : Option A) → Of P o → Of Q (option_and_then f o)
Of-and_then P Q f next None h = tt
Of-and_then P Q f next (Some a) h = next a h

any : {A : Type 0} (o : Option A) → Of (λ a. ⊤) o
any None = tt
any (Some a) = tt

-- ---- one member more

-- the members are in order, and all that is in them
record AreInOrder (ms : Members) : Type 0 where
  inside : MembersHaveKeysInOrder ms
  ascend : KeysAscend ms

below : (one other : List ℕ) → slice_cmp nat_cmp one other ≡ Greater → slice_cmp nat_cmp other one ≡ Less
below one other greater = nat_list_cmp_total.antisymm other one ∙ ap ordering_reverse greater

IsBelow-less : (one other : List ℕ) (ms : Members) → slice_cmp nat_cmp one other ≡ Less → IsBelow other ms →
    IsBelow one ms
IsBelow-less one other no_members less h = tt
IsBelow-less one other (member name d ms) less h =
    (nat_list_cmp_total.trans one other name less h.0, IsBelow-less one other ms less h.1)

IsBelow-put : (low key : List ℕ) (d : Data) (ms : Members) → slice_cmp nat_cmp low key ≡ Less → IsBelow low ms →
    IsBelow low (put key d ms)
IsBelow-put low key d no_members less h = (less, tt)
IsBelow-put low key d (member name e ms) less h =
    elim (slice_cmp nat_cmp key name) as (λ o. IsBelow low (match_ordering o (member key d (member name e ms))
    (member name d ms) (member name e (put key d ms)))) [
      | Less ↦ (less, h)
      | Equal ↦ h
      | Greater ↦ (h.0, IsBelow-put low key d ms less h.1)
    ]

Ascend-put : (key : List ℕ) (d : Data) (ms : Members) → KeysAscend ms → KeysAscend (put key d ms)
Ascend-put key d no_members h = (tt, tt)
Ascend-put key d (member name e ms) h =
    elim (slice_cmp nat_cmp key name) as (λ o. slice_cmp nat_cmp key name ≡ o → KeysAscend (match_ordering o (member key
    d
    (member name e ms)) (member name d ms) (member name e (put key d ms)))) [
      | Less ↦ λ less. ((less, IsBelow-less key name ms less h.0), h)
      | Equal ↦ λ same. h
      | Greater ↦ λ greater. (IsBelow-put name key d ms (below key name greater) h.0, Ascend-put key d ms h.1)
    ] refl

inside_put : (key : List ℕ) (d : Data) (ms : Members) → HasKeysInOrder d → MembersHaveKeysInOrder ms →
    MembersHaveKeysInOrder (put key d ms)
inside_put key d no_members one h = (one, tt)
inside_put key d (member name e ms) one h =
    elim (slice_cmp nat_cmp key name) as (λ o. MembersHaveKeysInOrder (match_ordering o (member key d (member name e
    ms)) (member name d ms) (member name e (put key d ms)))) [
      | Less ↦ (one, h)
      | Equal ↦ (one, h.1)
      | Greater ↦ (h.0, inside_put key d ms one h.1)
    ]

-- ---- the value of a text

mutual
  order_of_json : (j : json.Json) → Of HasKeysInOrder (of_json j)
  order_of_json json.null = tt
  order_of_json (json.boolean b) = tt
  order_of_json (json.number s) = Of-map (λ n. ⊤) HasKeysInOrder number (λ n h. tt) (number_of s) (any (number_of s))
  order_of_json (json.string s) = tt
  order_of_json (json.array js) =
      Of-map ItemsHaveKeysInOrder HasKeysInOrder array (λ ds h. h) (of_items js) (order_of_items js)
  order_of_json (json.object ms) =
      Of-map AreInOrder HasKeysInOrder object (λ found h. (h.inside, h.ascend)) (of_members ms no_members)
      (order_of_members ms no_members (record { inside = tt; ascend = tt }))

  order_of_items : (js : json.Items) → Of ItemsHaveKeysInOrder (of_items js)
  order_of_items json.no_items = tt
  order_of_items (json.item j js) =
      Of-and_then HasKeysInOrder ItemsHaveKeysInOrder (λ d. option_map (item d) (of_items js))
      (λ d h. Of-map ItemsHaveKeysInOrder ItemsHaveKeysInOrder (item d) (λ ds more. (h, more)) (of_items js)
      (order_of_items js)) (of_json j) (order_of_json j)

  order_of_members : (ms : json.Members) (found : Members) → AreInOrder found → Of AreInOrder (of_members ms found)
  order_of_members json.no_members found are = are
  order_of_members (json.member key j ms) found are =
      Of-and_then HasKeysInOrder AreInOrder (λ d. of_members ms (put key d found))
      (λ d h. order_of_members ms (put key d found) (record {
        inside = inside_put key d found h are.inside;
        ascend = Ascend-put key d found are.ascend;
      })) (of_json j) (order_of_json j)

pub keys_ascend : ReadKeysAscend
keys_ascend text value is =
    let parsed = option_and_then (λ p. json.if_last p.0 p.1) (json.value max_depth (tokens text)) in
    subst (Of HasKeysInOrder) is (Of-and_then (λ j. ⊤) HasKeysInOrder of_json (λ j h. order_of_json j) parsed
    (any parsed))
