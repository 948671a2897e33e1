-- The maps that lists and modifiers make are there.
use Rattle.std.proofs.Common.{◌≡◌, ◌∙◌, inl, inr, refl, sym, ap, ℕ, Bool, true, false, cond, ◌&&◌, ◌||◌, ◌==◌, List}
use Rattle.std.proofs.Common.{[], ◌∷◌, Option, None}
use Rattle.std.proofs.lemmas.Bool.{cases_Bool}
use Rattle.std.specs.Cmp.{nat_cmp_total}
use Rattle.std.specs.List.{last_or}
use Rattle.std.specs.FinMap.{get, insert, get-insert}
use Rattle.sprm_table.specs.Codes.{is_held, class_of, is_property, is_clear}
use Rattle.sprm_table.specs.Sprm.{Prl}
use Rattle.prop_map.specs.declared.modifiers.Modifier.{Modifier}
use Rattle.prop_map.specs.Settings.{Properties}
use Rattle.prop_map.specs.Acting.{is_kept_by_plain, left_by, value_after, ArePropertiesAfter}
use Rattle.prop_map.specs.Modifiers.{IsCharacterAfter, IsMarkAfter}
use Rattle.prop_map.specs.Overlay.{cleared, modified_characters, modified_paragraph}
use Rattle.prop_map.proofs.ActingLemmas.{value_after-append, value_after-set, value_after-clear, sets_not_clears}
use Rattle.prop_map.proofs.ChangeLemmas.{get-retained}
use Rattle.prop_map.proofs.MapLemmas.{is_modified_characters, is_modified_paragraph}

-- ---- a list of sprms

-- a map after the list
pub record ComesAfter (list : List Prl) (groups : ℕ) (old : Properties) : Type 0 where
  pub new : Properties
  pub after : ArePropertiesAfter list groups old new

-- an entry that does nothing
nothing_said : (b kept : Bool) (prl : Prl) (before : Option (List ℕ)) → before ≡ left_by (last_or None
    (cond ((b && false) || false) (prl ∷ []) [])) before
nothing_said true kept prl before = refl
nothing_said false kept prl before = refl

after_one : (prl : Prl) (groups : ℕ) (old : Properties) → ComesAfter (prl ∷ []) groups old
after_one prl groups old = elim (cases_Bool (is_held groups prl.0)) [
  | inr other ↦ record { new = old; after = λ code. rw other refl }
  | inl held ↦ elim (cases_Bool (is_property (class_of prl.0))) [
    | inl sets ↦ record {
      new = insert old prl.0 prl.1;
      after = λ code.
          get-insert nat_cmp_total old prl.0 prl.1 code
          ∙ value_after-set groups code prl.0 prl.1 (get old code) held sets (sets_not_clears (class_of prl.0) sets);
    }
    | inr sets ↦ elim (cases_Bool (is_clear (class_of prl.0))) [
      | inl clears ↦ record {
        new = cleared old;
        after = λ code. get-retained old is_kept_by_plain code ∙ value_after-clear groups code prl.0 prl.1 (get old
            code) held
            sets clears;
      }
      | inr clears ↦ record {
        new = old;
        after = λ code. rw (held, sets, clears) (nothing_said (code == prl.0)
            (is_kept_by_plain code) prl (get old code));
      }
    ]
  ]
]

pub after_list : (list : List Prl) (groups : ℕ) (old : Properties) → ComesAfter list groups old
after_list [] groups old = record { new = old; after = λ code. refl }
after_list (prl ∷ prls) groups old =
    let first = after_one prl groups old in
    let rest = after_list prls groups first.new in
    record {
      new = rest.new;
      after = λ code.
          rest.after code ∙ (ap (value_after prls groups code) (first.after code)
          ∙ sym (value_after-append (prl ∷ []) prls groups code (get old code)));
    }

-- ---- a map over another

-- a character's map after a modifier, and a mark's
pub record HasCharacterAfter (modifier : Modifier) (old : Properties) : Type 0 where
  pub new : Properties
  pub after : IsCharacterAfter modifier old new

pub character_after : (modifier : Modifier) (old : Properties) → HasCharacterAfter modifier old
character_after modifier old = record {
  new = modified_characters modifier old;
  after = is_modified_characters
      modifier old;
}

pub record HasMarkAfter (modifier : Modifier) (old : Properties) : Type 0 where
  pub new : Properties
  pub after : IsMarkAfter modifier old new

pub mark_after : (modifier : Modifier) (old : Properties) → HasMarkAfter modifier old
mark_after modifier old = record { new = modified_paragraph modifier old; after = is_modified_paragraph modifier old }
