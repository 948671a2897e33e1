-- The modifiers of the pieces: a Prm names a list of sprms, and the modifier is what that list does.
use Rattle.std.specs.Prelude.{◌≡◌, ℕ, List, [], ◌∷◌, Some, slice_get}
use Rattle.sprm_table.specs.Prms.{code_of_isprm}
use Rattle.sprm_table.specs.Sprm.{Prl, SpellsSprmList}
use Rattle.prop_map.specs.declared.modifiers.Modifier.{Modifier}
use Rattle.prop_map.specs.Modifiers.{IsModifierOf}
use Rattle.piece_table.specs.declared.pcd.Prm.{Prm}
use Rattle.piece_table.specs.declared.pcd.Prm.TheVariants.{Nothing, Sprm, Prc}

-- the list that a Prm names: no sprm, one with its operand, or those of a Prc
abbrev pub NamesSprms : List (List ℕ) → Prm → List Prl → Type 0
NamesSprms prcs Nothing sprms = sprms ≡ []
NamesSprms prcs (Sprm isprm operand) sprms =
    (code : ℕ) × ((code_of_isprm isprm ≡ Some code) × (sprms ≡ (code, operand ∷ []) ∷ []))
NamesSprms prcs (Prc number) sprms =
    (grpprl : List ℕ) × ((slice_get prcs number ≡ Some grpprl) × SpellsSprmList grpprl sprms)

-- the modifier of a Prm is that of the list
pub record IsPrmModifier (prcs : List (List ℕ)) (prm : Prm) (modifier : Modifier) : Type 0 where
  pub sprms : List Prl
  pub named : NamesSprms prcs prm sprms
  pub does : IsModifierOf sprms modifier
