-- What layers of properties make of a format, whatever it was.
use Rattle.std.specs.Prelude.{◌≡◌, ℕ, ◌==◌, ◌<◌, List, [], ◌∷◌, length, Option, Some, None, if◌then◌else◌}
use Rattle.std.specs.FinMap.{get}
use Rattle.prop_map.specs.Settings.{Properties}
use Rattle.effective_props.specs.ValueSteps.{layer_over}
use Rattle.char_formats.specs.declared.change.Change.{Change}
use Rattle.char_formats.specs.Formats.{font_of, is_nonzero_value, position_of, symbol_of}
use Rattle.char_formats.specs.Flags.{code_at, flag_at, does}

-- what is made of the value so far, at each code
abbrev pub Act : Type 0
Act = ℕ → Option (List ℕ) → Option (List ℕ)

-- nothing
abbrev pub no_act : Act
no_act code before = before

-- what one layer makes of it, after another act
abbrev pub with_layer : Properties → Act → Act
with_layer layer act code before = layer_over code (act code before) (get layer code)

-- what one value makes of it, after another act
abbrev pub with_value : ℕ → List ℕ → Act → Act
with_value code value act other before =
    if other == code then layer_over other (act other before) (Some value) else act other before

-- what layers make of it, the first one first
abbrev pub over_all : List Properties → Act
over_all [] code before = before
over_all (layer ∷ layers) code before = over_all layers code (layer_over code before (get layer code))

-- what is put in place of something, if anything is
abbrev pub instead : {A : Type 0} → Option A → A → A
instead None before = before
instead (Some after) before = after

-- the change is what the act comes to
pub record IsChangeOf (act : Act) (change : Change) : Type 0 where
  pub count : length change.flags ≡ 12
  pub flags :
      (i : ℕ) → i < 12 → (before : Option (List ℕ)) →
      is_nonzero_value (act (code_at i) before) ≡ does (flag_at change.flags i) (is_nonzero_value before)
  pub position : (before : Option (List ℕ)) → position_of (act 0x2A48 before) ≡ instead change.position (position_of
      before)
  pub symbol : (before : Option (List ℕ)) → symbol_of (act 0x6A09 before) ≡ instead change.symbol (symbol_of before)
  pub font : (before : Option (List ℕ)) → font_of (act 0x4A51 before) ≡ instead change.font (font_of before)
