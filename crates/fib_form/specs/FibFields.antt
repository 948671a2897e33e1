-- The fields of a FIB as one value, and the values that it may have.
use Rattle.std.specs.Prelude.{◌≡◌, ℕ, ◌+◌, ◌^◌, ◌<◌, ◌≤◌, ◌==◌, min, List, [], ◌∷◌, replicate, sum, take, length}
use Rattle.std.specs.Prelude.{slice_index, slice_index_or, Bool, All}
use Rattle.fib_form.specs.declared.fib.KeptFib.{KeptFib}
use Rattle.fib_form.specs.declared.form.Form.{Form}
use Rattle.fib_form.specs.Fib.{kept_pairs, fib_form, kept_flags, fib_flags, fib_lid, fib_lid_fe, fib_quick_saves}
use Rattle.fib_form.specs.Fib.{fib_complex, fib_which_table, fib_cb_mac, fib_ccp_text, fib_ccp_ftn, fib_ccp_hdd}
use Rattle.fib_form.specs.Fib.{fib_pairs}

-- what this profile keeps of a FIB; `ccps` are those of the main text, the notes and the header texts
pub record FibFields : Type 0 where
  pub form : Form
  pub kept : KeptFib
  pub quick_saves : ℕ
  pub complex : Bool
  pub which_table : ℕ
  pub cb_mac : ℕ
  pub ccps : List ℕ
  pub pairs : List (ℕ × ℕ)

-- the fields that a stream has
abbrev pub fib_fields : List ℕ → FibFields
fib_fields wd = record {
  form = fib_form wd;
  kept = record { lid = fib_lid wd; lid_fe = fib_lid_fe wd; flags = kept_flags (fib_flags wd) };
  quick_saves = fib_quick_saves wd;
  complex = fib_complex wd == 1;
  which_table = fib_which_table wd;
  cb_mac = fib_cb_mac wd;
  ccps = fib_ccp_text wd ∷ fib_ccp_ftn wd ∷ fib_ccp_hdd wd ∷ [];
  pairs = fib_pairs wd;
}

-- pairs of parts that are all empty
unfoldable pub empty_pairs : List (ℕ × ℕ)
empty_pairs = replicate kept_pairs (0, 0)

-- a pair of the list
abbrev pub listed_pair : List (ℕ × ℕ) → ℕ → ℕ × ℕ
listed_pair pairs n = slice_index_or pairs n (0, 0)

-- the CP at which a story begins: the main text, the notes and the header texts are one after the other
abbrev pub story_start : List ℕ → ℕ → ℕ
story_start ccps story = sum (take story ccps)

-- the number of CPs: where there are notes or header texts, one more paragraph mark follows at the end
abbrev pub text_length : List ℕ → ℕ
text_length ccps = sum ccps + min 1 (slice_index ccps 1 + slice_index ccps 2)

-- only bits that are kept
abbrev pub IsKeptFlags : ℕ → Type 0
IsKeptFlags flags = flags ≡ kept_flags flags

-- counts of characters that a FIB may have
pub record AreFibCcps (ccps : List ℕ) : Type 0 where
  pub three : length ccps ≡ 3
  pub main : 1 ≤ slice_index ccps 0
  pub all : sum ccps ≤ 500000

-- pairs that a FIB may have. Profile: no drawings in the main text or in the header texts, and no endnotes
pub record ArePairs (pairs : List (ℕ × ℕ)) : Type 0 where
  pub count : length pairs ≡ kept_pairs
  pub main_drawings : (listed_pair pairs 40).1 ≤ 4
  pub header_drawings : (listed_pair pairs 41).1 ≤ 4
  pub endnotes : (listed_pair pairs 46).1 ≤ 4

-- fc and lcb are 32-bit numbers
abbrev pub IsWidePair : ℕ × ℕ → Type 0
IsWidePair pair = (pair.0 < 2 ^ 32) × (pair.1 < 2 ^ 32)

-- the values that a FIB may have
pub record IsFib (fib : FibFields) : Type 0 where
  pub languages : (fib.kept.lid < 2 ^ 16) × (fib.kept.lid_fe < 2 ^ 16)
  pub flags : IsKeptFlags fib.kept.flags
  pub quick_saves : fib.quick_saves < 16
  pub which_table : fib.which_table < 2
  pub cb_mac : fib.cb_mac < 2 ^ 32
  pub counts : AreFibCcps fib.ccps
  pub pairs : ArePairs fib.pairs
  pub wide : All IsWidePair fib.pairs
