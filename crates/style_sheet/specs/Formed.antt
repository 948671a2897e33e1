-- What a sheet of styles may hold.
use Rattle.std.specs.Prelude.{◌≡◌, ◌⊎◌, ℕ, ◌<◌, ◌≤◌, length, Option, Some, None, ⊤}
use Rattle.std.specs.List.{All}
use Rattle.doc_bits.specs.Number.{AreBytes}
use Rattle.prop_map.specs.Formed.{IsPropertyMap, character_groups, paragraph_groups}
use Rattle.style_sheet.specs.declared.styles.Style.{Style}
use Rattle.style_sheet.specs.declared.styles.Kind.{Kind}
use Rattle.style_sheet.specs.declared.styles.Kind.TheVariants.{Para, Char, Other}
use Rattle.style_sheet.specs.Sheet.{Sheet}

-- properties of the kind's places, or stk 3 or 4 and at most 15 upxes of bytes
abbrev pub IsFormedKind : Kind → Type 0
IsFormedKind (Para pap chp) = IsPropertyMap paragraph_groups pap × IsPropertyMap character_groups chp
IsFormedKind (Char chp) = IsPropertyMap character_groups chp
IsFormedKind (Other stk upxes) = ((stk ≡ 3) ⊎ (stk ≡ 4)) × ((length upxes ≤ 15) × All AreBytes upxes)

-- 12 bits, where all of them set mean that there is no base
abbrev pub IsFormedBase : Option ℕ → Type 0
IsFormedBase None = ⊤
IsFormedBase (Some base) = base < 4095

-- each number has the bits that an STD has for it
pub record IsFormedStyle (style : Style) : Type 0 where
  pub sti : style.sti < 4096
  pub flags : style.flags < 16
  pub base : IsFormedBase style.base
  pub next : style.next < 4096
  pub grfstd : style.grfstd < 65536
  pub name : All (λ unit. unit < 65536) style.name
  pub kind : IsFormedKind style.kind

abbrev pub IsFormedSlot : Option Style → Type 0
IsFormedSlot None = ⊤
IsFormedSlot (Some style) = IsFormedStyle style

-- seven numbers of 16 bits, 1 to 4,094 slots, and what each holds
pub record IsFormedSheet (sheet : Sheet) : Type 0 where
  pub head : length sheet.head ≡ 7
  pub words : All (λ number. number < 65536) sheet.head
  pub some : 1 ≤ length sheet.styles
  pub few : length sheet.styles ≤ 4094
  pub styles : All IsFormedSlot sheet.styles
