-- The text of a plain value is read back as the value.
use Rattle.std.proofs.Common.{◌≡◌, ℕ, List, [], Some, option_map, option_and_then, refl, sym, ap, ap₂, ◌∙◌}
use Rattle.std.proofs.Common.{arith, append-nil}
use Rattle.std.specs.Prelude.{max, suc, ⊤}
use Rattle.std.specs.Ordering.{match_ordering, nat_cmp, ordering_reverse}
use Rattle.std.specs.Cmp.Lexicographic.{slice_cmp}
use Rattle.std.specs.declared.cmp.Ordering.TheVariants.{Less, Greater}
use Rattle.std.proofs.lemmas.Cmp.{nat_list_cmp_total}
use Rattle.json.specs.Lex.{tokens}
use Rattle.json.specs.Json as json
use Rattle.json.specs.Tree as tree
use Rattle.json.proofs.Printed.Decimals.{IsNumber-decimal}
use Rattle.json.proofs.Printed.Tokens.{tokens-print}
use Rattle.json.proofs.Printed.Trees.{value-json_tokens, ArePrintable-json_tokens}
use Rattle.json.specs.Print.{IsNumber}
use Rattle.serde_json.specs.Data.{Num, unsigned, negative, float, Data, null, boolean, number, string, array, object}
use Rattle.serde_json.specs.Data.{Items, no_items, item, Members, no_members, member, put}
use Rattle.serde_json.specs.Data.{depth, items_depth, members_depth}
use Rattle.serde_json.specs.Read.{number_of, of_json, of_items, of_members, max_depth}
use Rattle.serde_json.specs.Written.{number_text, outline, items_outline, members_outline, compact_text}
use Rattle.serde_json.proofs.Numbers.{number_of-decimal}
use Rattle.serde_json.proofs.Texts.{print-outline}
use Rattle.json_values.specs.Plain.{IsBelow, KeysAscend, IsPlainNumber, IsPlain, ArePlainItems, ArePlainMembers}
use Rattle.json_values.specs.Plain.{PlainValuesAreRead}

-- ---- members that go in behind the others

-- one list of members behind the other
abbrev pub joined : Members → Members → Members
joined no_members later = later
joined (member name value more) later = member name value (joined more later)

-- each of the members has a key below this one
abbrev pub AreBelow : Members → List ℕ → Type 0
AreBelow no_members key = ⊤
AreBelow (member name value more) key = (slice_cmp nat_cmp key name ≡ Greater) × AreBelow more key

-- each of the members has a key above those before
abbrev pub Follow : Members → Members → Type 0
Follow before no_members = ⊤
Follow before (member key value more) = AreBelow before key × Follow before more

pub above : (one other : List ℕ) → slice_cmp nat_cmp one other ≡ Less → slice_cmp nat_cmp other one ≡ Greater
above one other less = nat_list_cmp_total.antisymm other one ∙ ap ordering_reverse less

pub AreBelow-joined : (before : Members) (key : List ℕ) (d : Data) (next : List ℕ) → AreBelow before next →
    slice_cmp nat_cmp key next ≡ Less → AreBelow (joined before (member key d no_members)) next
AreBelow-joined no_members key d next below less = (above key next less, tt)
AreBelow-joined (member name e before) key d next below less = (below.0, AreBelow-joined before key d next below.1 less)

pub Follow-joined : (before : Members) (key : List ℕ) (d : Data) (ms : Members) → Follow before ms → IsBelow key ms →
    Follow (joined before (member key d no_members)) ms
Follow-joined before key d no_members follow below = tt
Follow-joined before key d (member name e ms) follow below =
    (AreBelow-joined before key d name follow.0 below.0, Follow-joined before key d ms follow.1 below.1)

pub Follow-no_members : (ms : Members) → Follow no_members ms
Follow-no_members no_members = tt
Follow-no_members (member key d ms) = (tt, Follow-no_members ms)

pub joined-no_members : (ms : Members) → joined ms no_members ≡ ms
joined-no_members no_members = refl
joined-no_members (member key d ms) = ap (member key d) (joined-no_members ms)

pub joined-joined : (before : Members) (key : List ℕ) (d : Data) (ms : Members) →
    joined (joined before (member key d no_members)) ms ≡ joined before (member key d ms)
joined-joined no_members key d ms = refl
joined-joined (member name e before) key d ms = ap (member name e) (joined-joined before key d ms)

-- a key above all others goes in behind them
pub put_behind : (ms : Members) (key : List ℕ) (d : Data) → AreBelow ms key →
    put key d ms ≡ joined ms (member key d no_members)
put_behind no_members key d below = refl
put_behind (member name e ms) key d below =
    ap (λ o. match_ordering o (member key d (member name e ms)) (member name d ms) (member name e (put key d ms)))
    below.0
    ∙ ap (member name e) (put_behind ms key d below.1)

-- ---- the value of the outline

number_read : (n : Num) → IsPlainNumber n → number_of (number_text n) ≡ Some n
number_read (unsigned n) plain = number_of-decimal n plain
number_read (negative z) plain = absurd plain
number_read (float x) plain = absurd plain

mutual
  pub value_read : (d : Data) → IsPlain d → of_json (outline d) ≡ Some d
  value_read null plain = refl
  value_read (boolean b) plain = refl
  value_read (number n) plain = ap (option_map number) (number_read n plain)
  value_read (string s) plain = refl
  value_read (array ds) plain = ap (option_map array) (items_read ds plain)
  value_read (object ms) plain =
      ap (option_map object) (members_read no_members ms plain.0 plain.1 (Follow-no_members ms))

  items_read : (ds : Items) → ArePlainItems ds → of_items (items_outline ds) ≡ Some ds
  items_read no_items plain = refl
  items_read (item d ds) plain =
      ap (option_and_then (λ e. option_map (item e) (of_items (items_outline ds)))) (value_read d plain.0)
      ∙ ap (option_map (item d)) (items_read ds plain.1)

  members_read : (before ms : Members) → ArePlainMembers ms → KeysAscend ms → Follow before ms →
      of_members (members_outline ms) before ≡ Some (joined before ms)
  members_read before no_members plain ascend follow = ap Some (sym (joined-no_members before))
  members_read before (member key d ms) plain ascend follow =
      ap (option_and_then (λ e. of_members (members_outline ms) (put key e before))) (value_read d plain.0)
      ∙ ap (of_members (members_outline ms)) (put_behind before key d follow.0)
      ∙ members_read (joined before (member key d no_members)) ms plain.1 ascend.1 (Follow-joined before key d ms
      follow.1 ascend.0)
      ∙ ap Some (joined-joined before key d ms)

-- ---- the tokens of the text

number_is : (n : Num) → IsPlainNumber n → IsNumber (number_text n)
number_is (unsigned n) plain = IsNumber-decimal n plain
number_is (negative z) plain = absurd plain
number_is (float x) plain = absurd plain

mutual
  has_numbers : (d : Data) → IsPlain d → tree.HasNumbers (outline d)
  has_numbers null plain = tt
  has_numbers (boolean b) plain = tt
  has_numbers (number n) plain = number_is n plain
  has_numbers (string s) plain = tt
  has_numbers (array ds) plain = items_have_numbers ds plain
  has_numbers (object ms) plain = members_have_numbers ms plain.0

  items_have_numbers : (ds : Items) → ArePlainItems ds → tree.ItemsHaveNumbers (items_outline ds)
  items_have_numbers no_items plain = tt
  items_have_numbers (item d ds) plain = (has_numbers d plain.0, items_have_numbers ds plain.1)

  members_have_numbers : (ms : Members) → ArePlainMembers ms → tree.MembersHaveNumbers (members_outline ms)
  members_have_numbers no_members plain = tt
  members_have_numbers (member key d ms) plain = (has_numbers d plain.0, members_have_numbers ms plain.1)

mutual
  depth_same : (d : Data) → tree.depth (outline d) ≡ depth d
  depth_same null = refl
  depth_same (boolean b) = refl
  depth_same (number n) = refl
  depth_same (string s) = refl
  depth_same (array ds) = ap suc (items_depth_same ds)
  depth_same (object ms) = ap suc (members_depth_same ms)

  items_depth_same : (ds : Items) → tree.items_depth (items_outline ds) ≡ items_depth ds
  items_depth_same no_items = refl
  items_depth_same (item d ds) = ap₂ max (depth_same d) (items_depth_same ds)

  members_depth_same : (ms : Members) → tree.members_depth (members_outline ms) ≡ members_depth ms
  members_depth_same no_members = refl
  members_depth_same (member key d ms) = ap₂ max (depth_same d) (members_depth_same ms)

tokens_of : (d : Data) → IsPlain d → tokens (compact_text d) ≡ tree.json_tokens (outline d)
tokens_of d plain =
    ap tokens (sym (print-outline d))
    ∙ tokens-print (tree.json_tokens (outline d)) (ArePrintable-json_tokens (outline d) (has_numbers d plain))

pub plain_read : PlainValuesAreRead
plain_read d plain shallow =
    ap (λ found. option_and_then of_json (option_and_then (λ p. json.if_last p.0 p.1) found))
    (ap (json.value max_depth) (tokens_of d plain ∙ sym (append-nil (tree.json_tokens (outline d))))
    ∙ value-json_tokens (outline d) max_depth [] (omega (arith, depth_same d, shallow)))
    ∙ value_read d plain
