-- The bases of styles. No base is followed: a chain is a list that has each base before the style that names it.
use Rattle.std.specs.Prelude.{◌≡◌, ◌≢◌, ◌⊎◌, ℕ, ◌+◌, ◌-◌, ◌<◌, List, length, slice_index, Option, Some, None}
use Rattle.style_sheet.specs.declared.styles.Style.{Style}
use Rattle.style_sheet.specs.declared.styles.Kind.{Kind}
use Rattle.style_sheet.specs.declared.styles.Kind.TheVariants.{Para, Char, Other}
use Rattle.style_sheet.specs.Sheet.{Sheet, style_at}

-- [MS-DOC] stk of the kinds that have properties: 1 paragraph, 2 character; 0 for the others
abbrev pub properties_kind : Kind → ℕ
properties_kind (Para pap chp) = 1
properties_kind (Char chp) = 2
properties_kind (Other stk upxes) = 0

abbrev pub style_kind_in : Option Style → ℕ
style_kind_in None = 0
style_kind_in (Some style) = properties_kind style.kind

-- the number of the kind of the style there: 1 paragraph, 2 character; 0 of another kind, and where no style is
abbrev pub style_kind_at : Sheet → ℕ → ℕ
style_kind_at sheet istd = style_kind_in (style_at sheet istd)

abbrev pub base_in : Option Style → Option ℕ
base_in None = None
base_in (Some style) = style.base

-- the base of the style there, where there is a style that has one
abbrev pub base_at : Sheet → ℕ → Option ℕ
base_at sheet istd = base_in (style_at sheet istd)

-- two styles are there, both of paragraphs or both of characters
pub record AreOfOneKind (sheet : Sheet) (istd other : ℕ) : Type 0 where
  pub properties : 0 < style_kind_at sheet istd
  pub same : style_kind_at sheet other ≡ style_kind_at sheet istd

-- the style numbers from the root to the style: the first has no base, each other's base is the one before it, all
-- are of
-- the style's kind, and no number is there twice
pub record IsBaseChain (sheet : Sheet) (istd : ℕ) (chain : List ℕ) : Type 0 where
  pub some : 0 < length chain
  pub last : slice_index chain (length chain - 1) ≡ istd
  pub root : base_at sheet (slice_index chain 0) ≡ None
  pub links : (i : ℕ) → i + 1 < length chain → base_at sheet (slice_index chain (i + 1)) ≡ Some (slice_index chain i)
  pub kind : (i : ℕ) → i < length chain → AreOfOneKind sheet istd (slice_index chain i)
  pub once : (i j : ℕ) → i < j → j < length chain → slice_index chain i ≢ slice_index chain j

-- style 0 is of kind Para, and each style of kind Para or Char has a chain of bases
pub record HasSoundBases (sheet : Sheet) : Type 0 where
  pub normal : style_kind_at sheet 0 ≡ 1
  pub chains : (istd : ℕ) → 0 < style_kind_at sheet istd → (chain : List ℕ) × IsBaseChain sheet istd chain

-- the style of kind Para or Char has no chain of bases
pub record HasNoChain (sheet : Sheet) (istd : ℕ) : Type 0 where
  pub properties : 0 < style_kind_at sheet istd
  pub none : (chain : List ℕ) → ¬ IsBaseChain sheet istd chain

-- the style breaks the rule of bases: it is style 0 and not of kind Para, or it has no chain
abbrev pub BreaksBases : Sheet → ℕ → Type 0
BreaksBases sheet istd = ((istd ≡ 0) × (style_kind_at sheet 0 ≢ 1)) ⊎ HasNoChain sheet istd

-- the style meets the rule of bases: style 0 is of kind Para, and one of kind Para or Char has a chain
pub record HasSoundBase (sheet : Sheet) (istd : ℕ) : Type 0 where
  pub normal : istd ≡ 0 → style_kind_at sheet 0 ≡ 1
  pub chain : 0 < style_kind_at sheet istd → (chain : List ℕ) × IsBaseChain sheet istd chain

-- a style has one chain of bases at most
abbrev pub BaseChainIsOne : Type 0
BaseChainIsOne = (sheet : Sheet) (istd : ℕ) (one other : List ℕ) → IsBaseChain sheet istd one → IsBaseChain sheet istd
    other → one ≡ other

-- where no style breaks the rule of bases, the bases are sound
abbrev pub UnbrokenBasesAreSound : Type 0
UnbrokenBasesAreSound = (sheet : Sheet) → ((istd : ℕ) → ¬ (BreaksBases sheet istd)) → HasSoundBases sheet
