-- Properties are read as what they were written for, and no other values are.
use Rattle.std.proofs.Common.{◌≡◌, ◌⊎◌, inl, inr, ℕ, zero, suc, ◌<◌, T, List, [], ◌∷◌, ◌++◌}
use Rattle.std.proofs.Common.{Option, Some, None, refl, sym, ap, ◌∙◌, subst, arith, append_assoc, append-nil}
use Rattle.std.specs.Prelude.{⊤}
use Rattle.std.specs.List.{All}
use Rattle.std.specs.Option.{unwrap_or}
use Rattle.std.specs.Ordering.{nat_cmp}
use Rattle.std.specs.Cmp.{nat_cmp_total}
use Rattle.std.specs.Cmp.Lexicographic.{slice_cmp}
use Rattle.std.specs.declared.cmp.Ordering.TheVariants.{Greater}
use Rattle.std.specs.FinMap.{get}
use Rattle.std.proofs.Common.{get_or}
use Rattle.prop_map.specs.Formed.{IsPropertyMap}
use Rattle.std.specs.FinMap.{empty, insert, entries, entries_sorted, entries-insert, same_entries_map, put, is_sorted}
use Rattle.std.specs.FinMap.Entries.{below_all, by_order}
use Rattle.std.proofs.lemmas.Bool.{cases_order}
use Rattle.serde_json.specs.Data.{Data, null, boolean, number, string, array, object, Members, no_members, member}
use Rattle.serde_json.specs.Find.{as_object}
use Rattle.prop_map.specs.Settings.{Properties}
use Rattle.prop_map.proofs.Public.{less_from, both_first, both_second, cmp_greater, entries-empty, get-entry}
use Rattle.prop_map.proofs.Public.{same_bytes}
use Rattle.edit_script.specs.Json.{◌>>=◌}
use Rattle.edit_script.specs.Hex.{code_of_digits}
use Rattle.edit_script.specs.Values.{bytes_of, properties_put, properties_of}
use Rattle.json_values.specs.Plain.{IsBelow, KeysAscend, HasKeysInOrder, ArePlainMembers, MembersHaveTexts}
use Rattle.text_codes.specs.Digits.{word_text}
use Rattle.json_values.specs.Digits.{bytes_json}
use Rattle.json_values.specs.Settings.{properties_members, properties_json, IsSpeltEntry, AreSpelt, PropertiesAreOne}
use Rattle.json_values.proofs.PlainLemmas.{AreBelow, Follow, joined, Follow-joined, Follow-no_members}
use Rattle.json_values.proofs.HexLemmas.{code_back, code_is, digits_back, bytes_are, steps_find}
use Rattle.json_values.proofs.HexLemmas.{bytes_utf8, code_utf8}
use Rattle.json_values.proofs.CodeLemmas.{word_less}
use Rattle.edit_script.proofs.Public.{steps_found}

abbrev Entries : Type 0
Entries = List (ℕ × List ℕ)

-- ---- entries that are spelt

rest_of : (e : ℕ × List ℕ) (es : Entries) → All IsSpeltEntry (e ∷ es) → All IsSpeltEntry es
rest_of e es are k d within = are (suc k) d (omega (arith, within))

All-cons : (e : ℕ × List ℕ) (es : Entries) → IsSpeltEntry e → All IsSpeltEntry es → All IsSpeltEntry (e ∷ es)
All-cons e es first more zero d within = first
All-cons e es first more (suc k) d within = more k d (omega (arith, within))

-- ---- entries in order

-- each of the codes is below this one
abbrev AreUnder : Entries → ℕ → Type 0
AreUnder [] code = ⊤
AreUnder (e ∷ es) code = (e.0 < code) × AreUnder es code

-- each of the later codes is above all of the earlier
abbrev AreAfter : Entries → Entries → Type 0
AreAfter front [] = ⊤
AreAfter front (e ∷ es) = AreUnder front e.0 × AreAfter front es

AreUnder-push : (front : Entries) (e : ℕ × List ℕ) (code : ℕ) → AreUnder front code → e.0 < code →
    AreUnder (front ++ e ∷ []) code
AreUnder-push [] e code under less = (less, tt)
AreUnder-push (f ∷ front) e code under less = (under.0, AreUnder-push front e code under.1 less)

AreAfter-push : (front : Entries) (e : ℕ × List ℕ) (es : Entries) → AreAfter front es → T (below_all nat_cmp e.0 es) →
    AreAfter (front ++ e ∷ []) es
AreAfter-push front e [] after below = tt
AreAfter-push front e (f ∷ es) after below = (
  AreUnder-push front e f.0 after.0 (less_from e.0 f.0 (both_first _ _ below)),
  AreAfter-push front e es after.1 (both_second _ _ below),
)

AreAfter-nil : (es : Entries) → AreAfter [] es
AreAfter-nil [] = tt
AreAfter-nil (e ∷ es) = (tt, AreAfter-nil es)

-- an entry whose code is above all goes last
put_last : (front : Entries) (code : ℕ) (bytes : List ℕ) → AreUnder front code →
    put nat_cmp code bytes front ≡ front ++ (code, bytes) ∷ []
put_last [] code bytes under = refl
put_last (e ∷ front) code bytes under =
    ap (λ o. by_order o ((code, bytes) ∷ e ∷ front) ((e.0, bytes) ∷ front) (e ∷ put nat_cmp code bytes front))
    (cmp_greater code e.0 under.0)
    ∙ ap (λ es. e ∷ es) (put_last front code bytes under.1)

inserted : (set : Properties) (code : ℕ) (bytes : List ℕ) → AreUnder (entries set) code →
    entries (insert set code bytes) ≡ entries set ++ (code, bytes) ∷ []
inserted set code bytes under = entries-insert nat_cmp_total set code bytes ∙ put_last (entries set) code bytes under

-- ---- what was written is read

record IsReadOn (es : Entries) (set : Properties) : Type 0 where
  made : Properties
  read : properties_put (properties_members es) set ≡ Some made
  are : entries made ≡ entries set ++ es

read_on : (es : Entries) (set : Properties) → All IsSpeltEntry es → T (is_sorted nat_cmp es) → AreAfter (entries set) es
    →
    IsReadOn es set
read_on [] set spelt sorted after = record { made = set; read = refl; are = sym (append-nil (entries set)) }
read_on (e ∷ es) set spelt sorted after =
    let first = spelt zero e (omega arith) in
    let next = insert set e.0 e.1 in
    let grown = inserted set e.0 e.1 after.0 in
    let more = read_on es next (rest_of e es spelt) (both_second _ _ sorted) (subst (λ front. AreAfter front es)
    (sym grown) (AreAfter-push (entries set) e es after.1 (both_first _ _ sorted))) in
    record {
      made = more.made;
      read =
          steps_find (code_of_digits (word_text e.0)) (bytes_of (bytes_json e.1)) (λ code bytes. properties_put
          (properties_members es) (insert set code bytes)) e.0 e.1 (code_back e.0 first.code) (digits_back e.1
          first.value)
          ∙ more.read;
      are = more.are ∙ ap (λ front. front ++ es) grown ∙ append_assoc (entries set) (e ∷ []) es;
    }

read_back : (set : Properties) → AreSpelt set → properties_of (properties_json set) ≡ Some set
read_back set spelt =
    let on = read_on (entries set) empty spelt (entries_sorted set) (subst (λ front. AreAfter front (entries set))
    (sym entries-empty) (AreAfter-nil (entries set))) in
    on.read ∙ ap Some (same_entries_map on.made set (on.are ∙ ap (λ front. front ++ entries set) entries-empty))

-- ---- what is read was written so

-- a key that is above another has a code above the other's
over : (code other : ℕ) → (other ≡ code) ⊎ ((other < code) ⊎ (code < other)) →
    slice_cmp nat_cmp (word_text code) (word_text other) ≡ Greater → other < code
over code other (inl same) greater =
    absurd (cc (
      greater,
      ap (λ n. slice_cmp nat_cmp (word_text code) (word_text n)) same,
      same_bytes (word_text code),
    ))
over code other (inr (inl less)) greater = less
over code other (inr (inr more)) greater = absurd (cc (greater, word_less code other more))

AreBelow-codes : (front : Entries) (code : ℕ) → AreBelow (properties_members front) (word_text code) →
    AreUnder front code
AreBelow-codes [] code below = tt
AreBelow-codes (e ∷ front) code below =
    (over code e.0 (cases_order e.0 code) below.0, AreBelow-codes front code below.1)

members_push : (front : Entries) (e : ℕ × List ℕ) → properties_members (front ++ e ∷ []) ≡ joined (properties_members
    front) (member (word_text e.0) (bytes_json e.1) no_members)
members_push [] e = refl
members_push (f ∷ front) e = ap (member (word_text f.0) (bytes_json f.1)) (members_push front e)

-- the members are these entries, and they went behind the others
record AreEntries (ms : Members) (set made : Properties) : Type 0 where
  behind : Entries
  is : ms ≡ properties_members behind
  spelt : All IsSpeltEntry behind
  are : entries made ≡ entries set ++ behind

members_are : (ms : Members) (set made : Properties) → KeysAscend ms → Follow (properties_members (entries set)) ms →
    properties_put ms set ≡ Some made → AreEntries ms set made
members_are no_members set made ascend follow e = record {
  behind = [];
  is = refl;
  spelt = λ k d within. absurd (omega (arith, within));
  are = ap (λ (o : Option Properties). entries (unwrap_or o set)) (sym e) ∙ sym (append-nil (entries set));
}
members_are (member key d ms) set made ascend follow e =
    let k = steps_found (code_of_digits key) (bytes_of d) (λ code bytes. properties_put ms (insert set code bytes)) made
    e
    in
    let code = code_is key k.0 k.2 in
    let bytes = bytes_are d k.1 k.3 in
    let entry : ℕ × List ℕ = (k.0, k.1) in
    let front = properties_members (entries set) in
    let under = AreBelow-codes (entries set) k.0 (subst (AreBelow front) code.1 follow.0) in
    let grown = inserted set k.0 k.1 under in
    let alike : joined front (member key d no_members) ≡ properties_members (entries (insert set k.0 k.1)) =
    (λ i. joined front (member (code.1 i) (bytes.1 i) no_members)) ∙ sym (members_push (entries set) entry)
    ∙ ap properties_members (sym grown) in
    let more = members_are ms (insert set k.0 k.1) made ascend.1 (subst (λ before. Follow before ms) alike
    (Follow-joined front key d ms follow.1 ascend.0)) k.4 in
    record {
      behind = entry ∷ more.behind;
      is = λ i. member (code.1 i) (bytes.1 i) (more.is i);
      spelt = All-cons entry more.behind (record { code = code.0; value = bytes.0 }) more.spelt;
      are = more.are ∙ ap (λ es. es ++ more.behind) grown ∙ append_assoc (entries set) (entry ∷ []) more.behind;
    }

pub object_is : (value : Data) (ms : Members) → as_object value ≡ Some ms → value ≡ object ms
object_is null ms e = absurd (cc (e))
object_is (boolean b) ms e = absurd (cc (e))
object_is (number n) ms e = absurd (cc (e))
object_is (string s) ms e = absurd (cc (e))
object_is (array ds) ms e = absurd (cc (e))
object_is (object others) ms e = ap (λ o. object (unwrap_or o others)) e

pub step_found : {A B : Type 0} (o : Option A) (f : A → Option B) (made : B) → (o >>= f) ≡ Some made →
    (a : A) × (o ≡ Some a) × (f a ≡ Some made)
step_found None f made e = absurd (cc (e))
step_found (Some a) f made e = (a, refl, e)

read_one : (value : Data) (set : Properties) → HasKeysInOrder value → properties_of value ≡ Some set →
    AreSpelt set × (value ≡ properties_json set)
read_one value set order e =
    let k = step_found (as_object value) (λ ms. properties_put ms empty) set e in
    let is = object_is value k.0 k.1 in
    let ascend : KeysAscend k.0 = (subst HasKeysInOrder is order).1 in
    let follow = subst (λ es. Follow (properties_members es) k.0) (sym entries-empty) (Follow-no_members k.0) in
    let found = members_are k.0 empty set ascend follow k.2 in
    let all : found.behind ≡ entries set = sym (found.are ∙ ap (λ front. front ++ found.behind) entries-empty) in (
      subst (All IsSpeltEntry) all found.spelt,
      is ∙ ap object (found.is ∙ ap properties_members all),
    )

-- ---- the text is read back

plain_members : (es : Entries) → ArePlainMembers (properties_members es)
plain_members [] = tt
plain_members (e ∷ es) = (tt, plain_members es)

below_members : (code : ℕ) (es : Entries) → T (below_all nat_cmp code es) →
    IsBelow (word_text code) (properties_members es)
below_members code [] below = tt
below_members code (e ∷ es) below = (
  word_less code e.0 (less_from code e.0 (both_first _ _ below)),
  below_members code es (both_second _ _ below),
)

ascend_members : (es : Entries) → T (is_sorted nat_cmp es) → KeysAscend (properties_members es)
ascend_members [] sorted = tt
ascend_members (e ∷ es) sorted =
    (below_members e.0 es (both_first _ _ sorted), ascend_members es (both_second _ _ sorted))

-- ---- what a place may hold

formed_spelt : (groups : ℕ) (set : Properties) → IsPropertyMap groups set → AreSpelt set
formed_spelt groups set formed k d within =
    let held = formed (get_or (entries set) k d).0 (get_or (entries set) k d).1 (get-entry set k d within) in
    record { code = omega (arith, held.property.entry.word); value = held.bytes }

texts_members : (es : Entries) → All IsSpeltEntry es → MembersHaveTexts (properties_members es)
texts_members [] spelt = tt
texts_members (e ∷ es) spelt =
    let first = spelt zero e (omega arith) in
    (code_utf8 e.0 first.code, (bytes_utf8 e.1 first.value, texts_members es (rest_of e es spelt)))

pub properties_one : PropertiesAreOne
properties_one = record {
  back = read_back;
  one = read_one;
  plain = λ set spelt. (plain_members (entries set), ascend_members (entries set) (entries_sorted set));
  texts = λ set spelt. texts_members (entries set) spelt;
  formed = formed_spelt;
}
