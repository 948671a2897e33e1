-- The layers are well formed where the sheet and the direct properties are.
use Rattle.std.proofs.Common.{◌≡◌, ℕ, zero, suc, ◌≤◌, ◌==◌, true, false, List, [], ◌∷◌, ◌++◌, length, get_or, Option}
use Rattle.std.proofs.Common.{Some, None, refl, sym, arith, subst, inl, inr}
use Rattle.std.proofs.lemmas.List.Elements.{All-nil, All-cons, All-append, All-map}
use Rattle.std.proofs.lemmas.Bool.{cases_lt, eqb-true, eq-eqb}
use Rattle.std.specs.List.{All}
use Rattle.std.specs.FinMap.{empty}
use Rattle.prop_map.specs.Settings.{Properties}
use Rattle.prop_map.specs.Formed.{IsPropertyMap, character_groups, paragraph_groups}
use Rattle.style_sheet.specs.declared.styles.Style.{Style}
use Rattle.style_sheet.specs.declared.styles.Kind.{Kind}
use Rattle.style_sheet.specs.declared.styles.Kind.TheVariants.{Para, Char, Other}
use Rattle.style_sheet.specs.Sheet.{Sheet, style_at}
use Rattle.style_sheet.specs.Chain.{style_kind_at}
use Rattle.style_sheet.specs.Formed.{IsFormedKind, IsFormedSlot, IsFormedSheet}
use Rattle.style_sheet.specs.Changes.{kind_characters, pap_of_style}
use Rattle.effective_props.specs.Layers.{paragraph_properties, character_properties, AreChainLayers, AreNamedLayers}
use Rattle.effective_props.specs.Layers.{named_style, AreCharacterLayers, AreParagraphLayers}
use Rattle.prop_map.proofs.Public.{IsPropertyMap-empty}

past_end : {X : Type 0} → (xs : List X) (i : ℕ) (d : X) → length xs ≤ i → get_or xs i d ≡ d
past_end [] i d l = refl
past_end (x ∷ xs) zero d l = absurd (omega arith)
past_end (x ∷ xs) (suc i) d l = past_end xs i d (omega arith)

formed_slot : (sheet : Sheet) (istd : ℕ) → IsFormedSheet sheet → IsFormedSlot (style_at sheet istd)
formed_slot sheet istd h =
    elim (cases_lt istd (length sheet.styles)) [
      | inl less ↦ h.styles istd None less
      | inr past ↦ subst IsFormedSlot (sym (past_end sheet.styles istd None past)) tt
    ]

pub chp_formed : (style : Option Style) → IsFormedSlot style → IsPropertyMap character_groups (character_properties
    style)
chp_formed None h = IsPropertyMap-empty character_groups
chp_formed (Some style) h = of_kind style.kind h.kind
  where
    of_kind : (kind : Kind) → IsFormedKind kind → IsPropertyMap character_groups (kind_characters kind)
    of_kind (Para pap chp) h = h.1
    of_kind (Char chp) h = h
    of_kind (Other stk upxes) h = IsPropertyMap-empty character_groups

pub pap_formed : (style : Option Style) → IsFormedSlot style → IsPropertyMap paragraph_groups (paragraph_properties
    style)
pap_formed None h = IsPropertyMap-empty paragraph_groups
pap_formed (Some style) h = of_kind style.kind h.kind
  where
    of_kind : (kind : Kind) → IsFormedKind kind → IsPropertyMap paragraph_groups (pap_of_style kind)
    of_kind (Para pap chp) h = h.0
    of_kind (Char chp) h = IsPropertyMap-empty paragraph_groups
    of_kind (Other stk upxes) h = IsPropertyMap-empty paragraph_groups

chain_formed : (groups : ℕ) (properties : Option Style → Properties) (sheet : Sheet) (istd : ℕ) (layers : List
    Properties) →
    ((style : Option Style) → IsFormedSlot style → IsPropertyMap groups (properties style)) → IsFormedSheet sheet →
    AreChainLayers properties sheet istd layers → All (IsPropertyMap groups) layers
chain_formed groups properties sheet istd layers formed h are =
    subst (All (IsPropertyMap groups)) (sym are.are) (All-map (IsPropertyMap groups) (λ number. properties
    (style_at sheet number)) are.chain (λ k d l. formed (style_at sheet (get_or are.chain k d)) (formed_slot sheet
    (get_or are.chain k d) h)))

named_formed : (sheet : Sheet) (named : Option ℕ) (layers : List Properties) → IsFormedSheet sheet →
    AreNamedLayers sheet named layers → All (IsPropertyMap character_groups) layers
named_formed sheet None layers h are = subst (All (IsPropertyMap character_groups)) (sym are)
    (All-nil (IsPropertyMap character_groups))
named_formed sheet (Some istd) layers h are =
    elim (style_kind_at sheet istd == 2) as (λ b. (style_kind_at sheet istd == 2) ≡ b → All (IsPropertyMap
    character_groups)
    layers) [
      | true ↦ λ e. chain_formed character_groups character_properties sheet istd layers chp_formed h
          (are.0 (eqb-true (style_kind_at sheet istd) 2 e))
      | false ↦ λ e. subst (All (IsPropertyMap character_groups))
          (sym (are.1 (λ is. absurd (cc (eq-eqb (style_kind_at sheet istd) 2 is, e)))))
          (All-nil (IsPropertyMap character_groups))
    ] refl

pub character_formed : (sheet : Sheet) (istd : ℕ) (direct : Properties) (layers : List Properties) → IsFormedSheet sheet
    →
    IsPropertyMap character_groups direct → AreCharacterLayers sheet istd direct layers →
    All (IsPropertyMap character_groups) layers
character_formed sheet istd direct layers h d are =
    let P = IsPropertyMap character_groups in
    let last = All-cons P direct [] d (All-nil P) in
    let named = All-append P are.of_named (direct ∷ []) (named_formed sheet (named_style direct) are.of_named h
    are.named) last in
    subst (All P) (sym are.are) (All-append P are.of_style (are.of_named ++ direct ∷ []) (chain_formed
    character_groups character_properties sheet istd are.of_style chp_formed h are.style) named)

pub paragraph_formed : (sheet : Sheet) (istd : ℕ) (direct : Properties) (layers : List Properties) → IsFormedSheet sheet
    →
    IsPropertyMap paragraph_groups direct → AreParagraphLayers sheet istd direct layers →
    All (IsPropertyMap paragraph_groups) layers
paragraph_formed sheet istd direct layers h d are =
    let P = IsPropertyMap paragraph_groups in
    let last = All-cons P direct [] d (All-nil P) in
    subst (All P) (sym are.are) (All-append P are.of_style (direct ∷ []) (chain_formed paragraph_groups
    paragraph_properties sheet istd are.of_style pap_formed h are.style) last)
