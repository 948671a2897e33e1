-- Going through the items of a text, the first one that breaks the nesting of its fields.
use Rattle.std.proofs.Common.{◌≡◌, inl, inr, ℕ, ◌+◌, ◌-◌, ◌<◌, ◌≤◌, Bool, true, false, List, [], ◌∷◌, ◌++◌, length}
use Rattle.std.proofs.Common.{take, drop, get_or, map, reverse, Option, Some, None, refl, sym, ◌∙◌, ap, subst}
use Rattle.std.proofs.Common.{append_assoc, arith}
use Rattle.std.specs.Prelude.{is_some}
use Rattle.std.specs.List.{filter}
use Rattle.std.proofs.Math.Seq.{take-add, take-length}
use Rattle.std.proofs.lemmas.Bool.{cases_lt}
use Rattle.std.proofs.lemmas.List.{append-nil, map-append, reverse-append, take_more}
use Rattle.std.proofs.lemmas.List.Elements.{filter-append}
use Rattle.doc_bits.specs.Rules.{IsLeast, Nowhere}
use Rattle.doc_model.specs.declared.item.Item.{Item}
use Rattle.plain_doc.specs.Nesting.{AreNestedFields, CanBecomeFields, field_characters, most_open, BreaksNesting}
use Rattle.plain_doc.specs.OpenFields.{Open, field_ended, after_field_character}
use Rattle.plain_doc.proofs.WalkLemmas.{after_all, after_both}
use Rattle.plain_doc.proofs.EndLemmas.{fields_nest}
use Rattle.plain_doc.proofs.NestingLemmas.{nest_passes, walked_on, stuck}

-- the last of the first entries comes first when they are turned round
turned : (list : List Bool) (at : ℕ) → at < length list →
    reverse (take (at + 1) list) ≡ get_or list at false ∷ reverse (take at list)
turned list at h = ap reverse (take_more list at false h) ∙ reverse-append (take at list) (get_or list at false ∷ [])

-- the innermost field is the last entry
pub ended_last : (list : List Bool) (depth : ℕ) → 0 < depth → depth ≤ length list →
    field_ended (reverse (take depth list)) ≡ Some (reverse (take (depth - 1) list))
ended_last list depth some fits =
    let e : depth ≡ (depth - 1) + 1 = omega arith in
    ap (λ n. field_ended (reverse (take n list))) e ∙ ap field_ended (turned list (depth - 1) (omega arith))

pub characters-append : (front back : List Item) →
    field_characters (front ++ back) ≡ field_characters front ++ field_characters back
characters-append front back =
    ap (λ items. map (λ item. item.unit) items) (filter-append (λ item. is_some item.fld) front back)
    ∙ map-append (λ item. item.unit) (filter (λ item. is_some item.fld) front) (filter (λ item. is_some item.fld) back)

-- after one item more
characters_more : (text : List Item) (i : ℕ) (item : Item) → i < length text → item ≡ get_or text i item →
    field_characters (take (i + 1) text) ≡ field_characters (take i text) ++ field_characters (item ∷ [])
characters_more text i item h is =
    ap field_characters (take_more text i item h ∙ ap (λ x. take i text ++ x ∷ []) (sym is))
    ∙ characters-append (take i text) (item ∷ [])

one_character : (item : Item) → is_some item.fld ≡ true → field_characters (item ∷ []) ≡ item.unit ∷ []
one_character item e = rw e refl

pub no_character : (item : Item) → is_some item.fld ≡ false → field_characters (item ∷ []) ≡ []
no_character item e = rw e refl

-- what is open after an item that is a field character, and after one that is none
pub open_after : (text : List Item) (i : ℕ) (item : Item) (fields : Open) → i < length text →
    item ≡ get_or text i item → is_some item.fld ≡ true →
    after_all most_open (field_characters (take i text)) (Some []) ≡ Some fields →
    after_all most_open (field_characters (take (i + 1) text)) (Some []) ≡ after_field_character most_open item.unit
    fields
open_after text i item fields h is has before =
    ap (λ units. after_all most_open units (Some []))
    (characters_more text i item h is ∙ ap (λ units. field_characters (take i text) ++ units)
    (one_character item has))
    ∙ after_both most_open (field_characters (take i text)) (item.unit ∷ []) (Some [])
    ∙ ap (λ o. after_all most_open (item.unit ∷ []) o) before

pub open_still : (text : List Item) (i : ℕ) (item : Item) (fields : Open) → i < length text →
    item ≡ get_or text i item → is_some item.fld ≡ false →
    after_all most_open (field_characters (take i text)) (Some []) ≡ Some fields →
    after_all most_open (field_characters (take (i + 1) text)) (Some []) ≡ Some fields
open_still text i item fields h is has before =
    ap (λ units. after_all most_open units (Some []))
    (characters_more text i item h is ∙ ap (λ units. field_characters (take i text) ++ units)
    (no_character item has) ∙ append-nil (field_characters (take i text)))
    ∙ before

-- the front of units that can become fields can
shorter : (limit : ℕ) (front back : List ℕ) → CanBecomeFields limit (front ++ back) → CanBecomeFields limit front
shorter limit front back can =
    record {
      rest = back ++ can.rest;
      nests = subst (AreNestedFields limit) (append_assoc front back can.rest) can.nests;
    }

-- no item before one up to which nothing was wrong
passed : (text : List Item) (n i : ℕ) → i < n → CanBecomeFields most_open (field_characters (take n text)) →
    CanBecomeFields most_open (field_characters (take (i + 1) text))
passed text n i h can =
    let e : (i + 1) + (n - (i + 1)) ≡ n = omega arith in
    let parts : take n text ≡ take (i + 1) text ++ take (n - (i + 1)) (drop (i + 1) text) =
    ap (λ m. take m text) (sym e) ∙ take-add (i + 1) (n - (i + 1)) text in
    shorter most_open (field_characters (take (i + 1) text)) (field_characters (take (n - (i + 1)) (drop (i + 1) text)))
    (subst (CanBecomeFields most_open) (ap field_characters parts
    ∙ characters-append (take (i + 1) text) (take (n - (i + 1)) (drop (i + 1) text))) can)

-- an item at which the walk stops is the first wrong one
pub stops_at : (text : List Item) (i : ℕ) (fields : Open) → i < length text →
    after_all most_open (field_characters (take i text)) (Some []) ≡ Some fields →
    after_all most_open (field_characters (take (i + 1) text)) (Some []) ≡ None →
    IsLeast (λ a b. a ≤ b) (BreaksNesting text) i
stops_at text i fields h before after = record {
  broken = inl (h, stuck most_open (field_characters (take (i + 1) text)) after);
  least = λ p broken. elim broken [
    | inl item ↦ elim (cases_lt p i) [
      | inl low ↦
          absurd (item.1 (passed text i p low (walked_on most_open (field_characters (take i text)) fields before)))
      | inr high ↦ high
    ]
    | inr end ↦ let e = end.0 in omega arith
  ];
}

whole : (text : List Item) (o : Option Open) →
    after_all most_open (field_characters (take (length text) text)) (Some []) ≡ o →
    after_all most_open (field_characters text) (Some []) ≡ o
whole text o e = ap (λ items. after_all most_open (field_characters items) (Some [])) (sym (take-length text)) ∙ e

-- a text that is gone through with nothing open breaks nothing
pub nothing_open : (text : List Item) →
    after_all most_open (field_characters (take (length text) text)) (Some []) ≡ Some [] →
    Nowhere (BreaksNesting text)
nothing_open text e = λ p broken. elim broken [
  | inl item ↦
      item.1 (passed text (length text) p item.0 (walked_on most_open
      (field_characters (take (length text) text)) [] e))
  | inr end ↦ end.1 (fields_nest most_open (field_characters text) (whole text (Some []) e))
]

-- one that is gone through with a field open is wrong at its end
pub still_open : (text : List Item) (fields : Open) → (fields ≡ [] → ⊥) →
    after_all most_open (field_characters (take (length text) text)) (Some []) ≡ Some fields →
    IsLeast (λ a b. a ≤ b) (BreaksNesting text) (length text)
still_open text fields some e = record {
  broken =
      inr (
        refl,
        λ nests. some (let a = nest_passes most_open (field_characters text) nests in let b = whole text
            (Some fields) e in cc),
      );
  least = λ p broken. elim broken [
    | inl item ↦
        absurd (item.1 (passed text (length text) p item.0
        (walked_on most_open (field_characters (take (length text) text)) fields e)))
    | inr end ↦ let same = end.0 in omega arith
  ];
}
