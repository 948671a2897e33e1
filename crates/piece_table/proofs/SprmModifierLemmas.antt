-- The modifier of one sprm with an operand of one byte.
use Rattle.std.proofs.Common.{◌≡◌, ℕ, ◌/◌, ◌%◌, slice_index_or, List, [], ◌∷◌, ◌++◌, refl, sym, ap, subst, ◌∙◌}
use Rattle.std.proofs.lemmas.List.Elements.{All-nil, All-cons}
use Rattle.std.proofs.lemmas.List.{append-nil}
use Rattle.doc_bits.specs.Number.{number_bytes}
use Rattle.sprm_table.specs.Operands.{size_of, operand_bytes}
use Rattle.sprm_table.specs.Codes.{IsRefusedIn}
use Rattle.sprm_table.specs.Prms.{IsPrmCode}
use Rattle.sprm_table.specs.Sprm.{Prl, IsPrl, SpellsSprmList, IsAcceptedList, spelling}
use Rattle.sprm_table.proofs.Public.{spells_joined}
use Rattle.prop_map.specs.Formed.{prc_groups}
use Rattle.prop_map.specs.Modifiers.{IsModifierOf, IsFormedModifier, no_modifier}
use Rattle.prop_map.specs.Formed.{character_groups, paragraph_groups}
use Rattle.prop_map.proofs.Public.{IsPropertyMap-empty}

-- the bytes of the sprm
pub sprm_spelt : (code operand : ℕ) (bytes : List ℕ) → IsPrmCode code → bytes ≡ number_bytes 2 code ++ operand ∷ [] →
    SpellsSprmList bytes ((code, operand ∷ []) ∷ [])
sprm_spelt code operand bytes is e =
    let body : operand_bytes (size_of code) (operand ∷ []) ≡ operand ∷ [] = ap (λ size. operand_bytes size
    (operand ∷ [])) is.size in
    let joined : bytes ≡ spelling (code, operand ∷ []) ++ [] = e ∙ (ap (λ l. number_bytes 2 code ++ l) (sym body) ∙
    sym (append-nil (spelling (code, operand ∷ [])))) in
    subst (λ b. SpellsSprmList b ((code, operand ∷ []) ∷ [])) (sym joined) (spells_joined ((code, operand ∷ []) ∷ [])
    (All-cons IsPrl (code, operand ∷ []) [] (is.entry operand) (All-nil IsPrl)))

pub sprm_accepted : (code operand : ℕ) (bytes : List ℕ) → IsPrmCode code → bytes ≡ number_bytes 2 code ++ operand ∷
    [] → IsAcceptedList bytes prc_groups
sprm_accepted code operand bytes is e = record {
  list = (code, operand ∷ []) ∷ [];
  spelt = sprm_spelt code operand bytes is e;
  accepted = All-cons (λ (prl : Prl). ¬ (IsRefusedIn prc_groups prl.0)) (code, operand ∷ []) [] (λ refused. is.read
      refused.1) (All-nil (λ (prl : Prl). ¬ (IsRefusedIn prc_groups prl.0)));
}

-- the bytes that are read
pub sprm_bytes : (word : List ℕ) (code operand : ℕ) → word ≡ code % 256 ∷ code / 256 % 256 ∷ [] → slice_index_or word
    0 0 ∷ slice_index_or word 1 0 ∷ operand ∷ [] ≡ number_bytes 2 code ++ operand ∷ []
unfolding number_bytes
sprm_bytes word code operand e = rw e refl

-- no sprms do nothing
pub none_does : IsModifierOf [] no_modifier
none_does = record { style = refl; marks = λ code. refl; clear = refl; characters = λ code. refl }

pub none_formed : IsFormedModifier no_modifier
none_formed = record { chp = IsPropertyMap-empty character_groups; pap = IsPropertyMap-empty paragraph_groups }
