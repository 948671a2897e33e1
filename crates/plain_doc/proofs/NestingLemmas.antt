-- Going through the field characters with the open fields in hand finds exactly what nests.
use Rattle.std.proofs.Common.{◌≡◌, ℕ, List, [], ◌∷◌, ◌++◌, Some, None, refl, sym, ◌∙◌, ap, arith}
use Rattle.std.proofs.lemmas.List.{append-nil}
use Rattle.plain_doc.specs.Nesting.{AreNestedFields, CanBecomeFields}
use Rattle.plain_doc.specs.OpenFields.{Open}
use Rattle.plain_doc.proofs.WalkLemmas.{after_all, after_both, after_none, fields_pass}
use Rattle.plain_doc.proofs.EndLemmas.{fields_nest}

-- What nests is exactly what the walk comes through with nothing open.

pub nest_passes : (limit : ℕ) (units : List ℕ) → AreNestedFields limit units → after_all limit units (Some []) ≡ Some []
nest_passes limit units fields =
    ap (λ xs. after_all limit xs (Some [])) (sym (append-nil units))
    ∙ fields_pass limit limit units [] [] (omega arith) fields

-- the ends of all that is open
ends_of : Open → List ℕ
ends_of [] = []
ends_of (field ∷ fields) = 0x15 ∷ ends_of fields

ends_close : (limit : ℕ) (fields : Open) → after_all limit (ends_of fields) (Some fields) ≡ Some []
unfolding ends_of
ends_close limit [] = refl
ends_close limit (field ∷ fields) = ends_close limit fields

pub walked_on : (limit : ℕ) (units : List ℕ) (fields : Open) → after_all limit units (Some []) ≡ Some fields →
    CanBecomeFields limit units
walked_on limit units fields e = record {
  rest = ends_of fields;
  nests =
      fields_nest limit (units ++ ends_of fields) (after_both limit units (ends_of fields) (Some [])
      ∙ ap (λ o. after_all limit (ends_of fields) o) e ∙ ends_close limit fields);
}

pub stuck : (limit : ℕ) (units : List ℕ) → after_all limit units (Some []) ≡ None → CanBecomeFields limit units → ⊥
stuck limit units e can =
    let whole : after_all limit (units ++ can.rest) (Some []) ≡ Some [] =
    nest_passes limit (units ++ can.rest) can.nests in
    let none : after_all limit (units ++ can.rest) (Some []) ≡ None =
    after_both limit units can.rest (Some []) ∙ ap (λ o. after_all limit can.rest o) e
    ∙ after_none limit can.rest in
    absurd (cc)
