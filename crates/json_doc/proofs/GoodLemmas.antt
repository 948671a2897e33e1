-- Values whose text is read back, and how deep they are: built from their parts.
use Rattle.std.proofs.Common.{◌≡◌, ◌≤◌, ◌<◌, ◌^◌, ℕ, zero, suc, Bool, false, ◌||◌, List, [], ◌∷◌, Option, Some, None}
use Rattle.std.proofs.Common.{map, refl, subst, arith, All}
use Rattle.std.specs.Prelude.{IsUtf8, option_map}
use Rattle.std.specs.Option.{ForSome}
use Rattle.std.proofs.lemmas.Option.{none-some, same_Some}
use Rattle.std.specs.Ordering.{nat_cmp}
use Rattle.std.specs.declared.cmp.Ordering.TheVariants.{Less}
use Rattle.std.specs.Cmp.Lexicographic.{slice_cmp}
use Rattle.serde_json.specs.Data.{unsigned, negative, float, Data, null, boolean, number, string, array, object}
use Rattle.serde_json.specs.Data.{Items, no_items, item, Members, no_members, member, depth, items_depth}
use Rattle.serde_json.specs.Data.{members_depth}
use Rattle.serde_json.specs.View.{items_of}
use Rattle.serde_json.specs.Written.{has_float, items_have_float, members_have_float}
use Rattle.json_values.specs.Plain.{IsBelow, KeysAscend, IsPlain, ArePlainItems, ArePlainMembers, HasTexts}
use Rattle.json_values.specs.Plain.{ItemsHaveTexts, MembersHaveTexts, HasKeysInOrder, ItemsHaveKeysInOrder}
use Rattle.json_values.specs.Plain.{MembersHaveKeysInOrder}
use Rattle.json_values.specs.Rows.{number_json, member_if}

-- its text is read back, and it is at most so deep
pub record IsGood (deep : ℕ) (d : Data) : Type 0 where
  pub plain : IsPlain d
  pub texts : HasTexts d
  pub shallow : depth d ≤ deep

pub record AreGoodMembers (deep : ℕ) (ms : Members) : Type 0 where
  pub plain : ArePlainMembers ms
  pub texts : MembersHaveTexts ms
  pub shallow : members_depth ms ≤ deep

pub record AreGoodItems (deep : ℕ) (ds : Items) : Type 0 where
  pub plain : ArePlainItems ds
  pub texts : ItemsHaveTexts ds
  pub shallow : items_depth ds ≤ deep

pub good_null : (n : ℕ) → IsGood n null
good_null n = record { plain = tt; texts = tt; shallow = omega arith }

pub good_number : (n m : ℕ) → m < 2 ^ 64 → IsGood n (number_json m)
good_number n m small = record { plain = small; texts = tt; shallow = omega arith }

pub good_string : (n : ℕ) (s : List ℕ) → IsUtf8 s → IsGood n (string s)
good_string n s utf8 = record { plain = tt; texts = utf8; shallow = omega arith }

-- ---- items

pub no_good_items : (n : ℕ) → AreGoodItems n no_items
no_good_items n = record { plain = tt; texts = tt; shallow = omega arith }

pub good_item : (n : ℕ) (d : Data) (ds : Items) → IsGood n d → AreGoodItems n ds → AreGoodItems n (item d ds)
good_item n d ds one more = record {
  plain = (one.plain, more.plain);
  texts = (one.texts, more.texts);
  shallow = let a = one.shallow in let b = more.shallow in omega (arith, a, b);
}

pub good_all : {A : Type 0} (n : ℕ) (json : A → Data) (Is : A → Type 0) → ((x : A) → Is x → IsGood n (json x)) →
    (xs : List A) → All Is xs → AreGoodItems n (items_of (map json xs))
good_all n json Is each [] all = no_good_items n
good_all n json Is each (x ∷ xs) all =
    good_item n (json x) (items_of (map json xs)) (each x (all zero x (omega arith)))
    (good_all n json Is each xs (λ k d less. all (suc k) d (omega (arith, less))))

pub good_array : (n : ℕ) (ds : Items) → AreGoodItems n ds → IsGood (suc n) (array ds)
good_array n ds good = record {
  plain = good.plain;
  texts = good.texts;
  shallow = let a = good.shallow in omega (arith, a);
}

pub good_list : {A : Type 0} (n : ℕ) (json : A → Data) (Is : A → Type 0) → ((x : A) → Is x → IsGood n (json x)) →
    (xs : List A) → All Is xs → IsGood (suc n) (array (items_of (map json xs)))
good_list n json Is each xs all = good_array n (items_of (map json xs)) (good_all n json Is each xs all)

-- ---- members

pub no_good_members : (n : ℕ) → AreGoodMembers n no_members
no_good_members n = record { plain = tt; texts = tt; shallow = omega arith }

pub good_member : (n : ℕ) (key : List ℕ) (d : Data) (ms : Members) → IsUtf8 key → IsGood n d → AreGoodMembers n ms →
    AreGoodMembers n (member key d ms)
good_member n key d ms utf8 one more = record {
  plain = (one.plain, more.plain);
  texts = (utf8, (one.texts, more.texts));
  shallow = let a = one.shallow in let b = more.shallow in omega (arith, a, b);
}

pub good_member_if : (n : ℕ) (key : List ℕ) (d : Option Data) (ms : Members) → IsUtf8 key → ForSome d (IsGood n) →
    AreGoodMembers n ms → AreGoodMembers n (member_if key d ms)
good_member_if n key None ms utf8 one more = more
good_member_if n key (Some d) ms utf8 one more = good_member n key d ms utf8 (one d refl) more

-- what may be there and is good
pub good_if : {A : Type 0} (n : ℕ) (json : A → Data) (Is : A → Type 0) → ((x : A) → Is x → IsGood n (json x)) →
    (o : Option A) → ForSome o Is → ForSome (option_map json o) (IsGood n)
good_if n json Is each None is d e = absurd (none-some d e)
good_if n json Is each (Some x) is d e = subst (IsGood n) (same_Some (json x) d e) (each x (is x refl))

pub good_object : (n : ℕ) (ms : Members) → KeysAscend ms → AreGoodMembers n ms → IsGood (suc n) (object ms)
good_object n ms ascend good = record {
  plain = (good.plain, ascend);
  texts = good.texts;
  shallow = let a = good.shallow in omega (arith, a);
}

pub below_if : (key other : List ℕ) (d : Option Data) (ms : Members) → slice_cmp nat_cmp key other ≡ Less →
    IsBelow key ms → IsBelow key (member_if other d ms)
below_if key other None ms less below = below
below_if key other (Some d) ms less below = (less, below)

pub ascend_if : (key : List ℕ) (d : Option Data) (ms : Members) → IsBelow key ms → KeysAscend ms →
    KeysAscend (member_if key d ms)
ascend_if key None ms below ascend = ascend
ascend_if key (Some d) ms below ascend = (below, ascend)

-- a value may be less deep
pub wider : (m n : ℕ) (d : Data) → m ≤ n → IsGood m d → IsGood n d
wider m n d more good = record {
  plain = good.plain;
  texts = good.texts;
  shallow = let a = good.shallow in omega (arith, a, more);
}

-- ---- plain values have their keys in order, and no float

mutual
  pub plain_order : (d : Data) → IsPlain d → HasKeysInOrder d
  plain_order null plain = tt
  plain_order (boolean b) plain = tt
  plain_order (number n) plain = tt
  plain_order (string s) plain = tt
  plain_order (array ds) plain = items_order ds plain
  plain_order (object ms) plain = (members_order ms plain.0, plain.1)

  items_order : (ds : Items) → ArePlainItems ds → ItemsHaveKeysInOrder ds
  items_order no_items plain = tt
  items_order (item d ds) plain = (plain_order d plain.0, items_order ds plain.1)

  members_order : (ms : Members) → ArePlainMembers ms → MembersHaveKeysInOrder ms
  members_order no_members plain = tt
  members_order (member key d ms) plain = (plain_order d plain.0, members_order ms plain.1)

either : (a b : Bool) → a ≡ false → b ≡ false → (a || b) ≡ false
either a b e f = (λ i. e i || f i)

mutual
  pub plain_whole : (d : Data) → IsPlain d → has_float d ≡ false
  plain_whole null plain = refl
  plain_whole (boolean b) plain = refl
  plain_whole (number (unsigned n)) plain = refl
  plain_whole (number (negative z)) plain = absurd plain
  plain_whole (number (float x)) plain = absurd plain
  plain_whole (string s) plain = refl
  plain_whole (array ds) plain = items_whole ds plain
  plain_whole (object ms) plain = members_whole ms plain.0

  items_whole : (ds : Items) → ArePlainItems ds → items_have_float ds ≡ false
  items_whole no_items plain = refl
  items_whole (item d ds) plain =
      either (has_float d) (items_have_float ds) (plain_whole d plain.0) (items_whole ds plain.1)

  members_whole : (ms : Members) → ArePlainMembers ms → members_have_float ms ≡ false
  members_whole no_members plain = refl
  members_whole (member key d ms) plain =
      either (has_float d) (members_have_float ms) (plain_whole d plain.0) (members_whole ms plain.1)
