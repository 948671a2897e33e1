-- Going through field characters until nothing is open: they are fields.
use Rattle.std.proofs.Common.{◌≡◌, ◌⊎◌, inl, inr, ℕ, zero, suc, ◌+◌, Bool, true, false, List, [], ◌∷◌, ◌++◌, length}
use Rattle.std.proofs.Common.{Option, Some, None, refl, sym, ◌∙◌, ap, subst, append_assoc, arith}
use Rattle.std.proofs.lemmas.Bool.{cases_eq, ne_eqb, lt-ltb, le-ltb}
use Rattle.std.proofs.lemmas.List.Concat.{flat_map-cons}
use Rattle.std.proofs.lemmas.List.Elements.{All-nil, All-cons}
use Rattle.plain_doc.specs.Nesting.{result_part, IsField, AreNestedFields}
use Rattle.plain_doc.specs.OpenFields.{Open, begun, separated, field_ended, after_field_character}
use Rattle.plain_doc.proofs.WalkLemmas.{after_all, after_none}

-- no fields nest, however deep they may be
no_fields : (depth : ℕ) → AreNestedFields depth []
unfolding AreNestedFields
no_fields zero = refl
no_fields (suc depth) = record { fields = []; each = All-nil (IsField (AreNestedFields depth)); joined = refl }

-- a field and then fields are fields
field_and_fields : (depth : ℕ) (units rest : List ℕ) → IsField (AreNestedFields depth) units → AreNestedFields (suc
    depth) rest →
    AreNestedFields (suc depth) (units ++ rest)
unfolding AreNestedFields
field_and_fields depth units rest field joined = record {
  fields = units ∷ joined.fields;
  each = All-cons (IsField (AreNestedFields depth)) units joined.fields field joined.each;
  joined = ap (λ xs. units ++ xs) joined.joined ∙ sym (flat_map-cons (λ f. f) units joined.fields);
}

-- From the walk to fields: units that end all open fields are, for each of them, its rest and then what is around it.

record Ends (such around : List ℕ → Type 0) (is_separated : Bool) (units : List ℕ) : Type 0 where
  inner : List ℕ
  result : Option (List ℕ)
  rest : List ℕ
  once : is_separated ≡ true → result ≡ None
  inner_is : such inner
  result_is : (others : List ℕ) → result ≡ Some others → such others
  rest_is : around rest
  spelt : units ≡ inner ++ (result_part result ++ 0x15 ∷ rest)

-- with room for so many more
EndAll : ℕ → Open → List ℕ → Type 0
EndAll room [] units = AreNestedFields room units
EndAll room (is_separated ∷ fields) units = Ends (AreNestedFields room) (EndAll (suc room) fields) is_separated units

-- a field before them
field_first : (room : ℕ) (fields : Open) (units rest : List ℕ) → IsField (AreNestedFields room) units →
    EndAll (suc room) fields rest → EndAll (suc room) fields (units ++ rest)
unfolding EndAll
field_first room [] units rest field more = field_and_fields room units rest field more
field_first room (is_separated ∷ fields) units rest field more = record {
  inner = units ++ more.inner;
  result = more.result;
  rest = more.rest;
  once = more.once;
  inner_is = field_and_fields room units more.inner field more.inner_is;
  result_is = more.result_is;
  rest_is = more.rest_is;
  spelt =
      ap (λ xs. units ++ xs) more.spelt ∙ sym (append_assoc units more.inner
      (result_part more.result ++ 0x15 ∷ more.rest));
}

-- after a beginning
after_begun : (room : ℕ) (fields : Open) (units : List ℕ) → EndAll room (false ∷ fields) units →
    EndAll (suc room) fields (0x13 ∷ units)
unfolding EndAll
after_begun room fields units ends =
    let tail : List ℕ = result_part ends.result ++ 0x15 ∷ [] in
    let field : IsField (AreNestedFields room) (0x13 ∷ (ends.inner ++ tail)) =
    record {
      instruction = ends.inner;
      result = ends.result;
      instruction_is = ends.inner_is;
      result_is =
          ends.result_is;
      spelt = refl;
    } in
    let last : tail ++ ends.rest ≡ result_part ends.result ++ 0x15 ∷ ends.rest =
    append_assoc (result_part ends.result) (0x15 ∷ []) ends.rest in
    let joined : (0x13 ∷ (ends.inner ++ tail)) ++ ends.rest ≡ 0x13 ∷ units =
    ap (λ xs. 0x13 ∷ xs) (append_assoc ends.inner tail ends.rest ∙ ap (λ xs. ends.inner ++ xs) last
    ∙ sym ends.spelt) in
    subst (EndAll (suc room) fields) joined (field_first room fields
    (0x13 ∷ (ends.inner ++ tail)) ends.rest field ends.rest_is)

-- after a separator
after_separated : (room : ℕ) (fields : Open) (units : List ℕ) → EndAll room (true ∷ fields) units →
    EndAll room (false ∷ fields) (0x14 ∷ units)
unfolding EndAll
after_separated room fields units ends = record {
  inner = [];
  result = Some ends.inner;
  rest = ends.rest;
  once = λ e. absurd (cc);
  inner_is = no_fields room;
  result_is = λ others e. let same : ends.inner ≡ others = cc in subst (AreNestedFields room) same ends.inner_is;
  rest_is = ends.rest_is;
  spelt =
      ap (λ xs. 0x14 ∷ xs) (ends.spelt ∙ ap (λ o. ends.inner ++ (result_part o ++ 0x15 ∷ ends.rest))
      (ends.once refl));
}

-- after an end
after_ended : (room : ℕ) (is_separated : Bool) (fields : Open) (units : List ℕ) → EndAll (suc room) fields units →
    EndAll room (is_separated ∷ fields) (0x15 ∷ units)
unfolding EndAll
after_ended room is_separated fields units ends = record {
  inner = [];
  result = None;
  rest = units;
  once = λ _. refl;
  inner_is = no_fields room;
  result_is = λ others e. absurd (cc);
  rest_is = ends;
  spelt = refl;
}

no_end : (limit : ℕ) (units : List ℕ) → after_all limit units None ≡ Some [] → ⊥
no_end limit units e = let none = after_none limit units in cc

end_begun : (limit room : ℕ) (fields : Open) (units : List ℕ) →
    ((room : ℕ) (fields : Open) → room + length fields ≡ limit → after_all limit units (Some fields) ≡ Some [] →
    EndAll room fields units) → room + length fields ≡ limit →
    after_all limit units (begun limit fields) ≡ Some [] → EndAll room fields (0x13 ∷ units)
end_begun limit zero fields units later count e =
    absurd (no_end limit units (rw (le-ltb (length fields) limit (omega arith)) at e))
end_begun limit (suc room) fields units later count e =
    after_begun room fields units (later room (false ∷ fields) (omega arith)
    (rw (lt-ltb (length fields) limit (omega arith)) at e))

end_separated : (limit room : ℕ) (fields : Open) (units : List ℕ) →
    ((room : ℕ) (fields : Open) → room + length fields ≡ limit → after_all limit units (Some fields) ≡ Some [] →
    EndAll room fields units) → room + length fields ≡ limit → after_all limit units (separated fields) ≡ Some [] →
    EndAll room fields (0x14 ∷ units)
end_separated limit room [] units later count e = absurd (no_end limit units e)
end_separated limit room (true ∷ fields) units later count e = absurd (no_end limit units e)
end_separated limit room (false ∷ fields) units later count e =
    after_separated room fields units (later room (true ∷ fields) count e)

end_ended : (limit room : ℕ) (fields : Open) (units : List ℕ) →
    ((room : ℕ) (fields : Open) → room + length fields ≡ limit → after_all limit units (Some fields) ≡ Some [] →
    EndAll room fields units) → room + length fields ≡ limit → after_all limit units (field_ended fields) ≡ Some [] →
    EndAll room fields (0x15 ∷ units)
end_ended limit room [] units later count e = absurd (no_end limit units e)
end_ended limit room (field ∷ fields) units later count e =
    after_ended room field fields units (later (suc room) fields (omega arith) e)

-- the three characters, and any other
character_cases : (unit : ℕ) →
    (unit ≡ 0x13) ⊎ ((unit ≡ 0x14) ⊎ ((unit ≡ 0x15) ⊎
    ((limit : ℕ) (fields : Open) → after_field_character limit unit fields ≡ None)))
character_cases unit = elim (cases_eq unit 0x13) [
  | inl begin ↦ inl begin
  | inr a ↦ elim (cases_eq unit 0x14) [
    | inl middle ↦ inr (inl middle)
    | inr b ↦ elim (cases_eq unit 0x15) [
      | inl end ↦ inr (inr (inl end))
      | inr c ↦ inr (inr (inr (λ limit fields. rw (ne_eqb unit 0x13 a, ne_eqb unit 0x14 b, ne_eqb unit 0x15 c) refl)))
    ]
  ]
]

end_all : (limit : ℕ) (units : List ℕ) (room : ℕ) (fields : Open) → room + length fields ≡ limit →
    after_all limit units (Some fields) ≡ Some [] → EndAll room fields units
unfolding EndAll
end_all limit [] room [] count e = no_fields room
end_all limit [] room (field ∷ fields) count e = absurd (cc)
end_all limit (unit ∷ units) room fields count e = elim (character_cases unit) [
  | inl begin ↦
      subst (λ u. EndAll room fields (u ∷ units)) (sym begin)
      (end_begun limit room fields units (end_all limit units) count
      (subst (λ u. after_all limit units (after_field_character limit u fields) ≡ Some []) begin e))
  | inr more ↦ elim more [
    | inl middle ↦
        subst (λ u. EndAll room fields (u ∷ units)) (sym middle)
        (end_separated limit room fields units (end_all limit units) count
        (subst (λ u. after_all limit units (after_field_character limit u fields) ≡ Some []) middle e))
    | inr last ↦ elim last [
      | inl end ↦
          subst (λ u. EndAll room fields (u ∷ units)) (sym end)
          (end_ended limit room fields units (end_all limit units) count
          (subst (λ u. after_all limit units (after_field_character limit u fields) ≡ Some []) end e))
      | inr other ↦ absurd (no_end limit units (subst (λ o. after_all limit units o ≡ Some []) (other limit fields) e))
    ]
  ]
]

pub fields_nest : (limit : ℕ) (units : List ℕ) → after_all limit units (Some []) ≡ Some [] → AreNestedFields limit units
unfolding EndAll
fields_nest limit units e = end_all limit units limit [] (omega arith) e
