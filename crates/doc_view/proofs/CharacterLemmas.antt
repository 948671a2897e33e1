-- Characters and glyphs of a page are no controls.
use Rattle.std.proofs.Common.{◌≡◌, ◌∙◌, ℕ, ◌+◌, ◌/◌, ◌%◌, ◌<◌, ◌≤◌, Bool, true, false, not, ◌||◌, ◌&&◌, ◌⊎◌, List, [], ◌∷◌}
use Rattle.std.proofs.Common.{◌++◌, zero, suc, refl, arith, Option, Some, None, inl, inr}
use Rattle.std.specs.Prelude.{if◌then◌else◌, nat_le, nat_lt, ◌==◌, codes}
use Rattle.std.specs.Fmt.{decimal, digit_glyph, digits, digits_onto}
use Rattle.std.specs.List.{All}
use Rattle.std.proofs.lemmas.Bool.{false≢true}
use Rattle.std.proofs.lemmas.Bool.Decides.{nat_tests}
use Rattle.std.proofs.lemmas.List.Elements.{All-nil, All-cons, All-append, All-head, All-tail}
use Rattle.text_codes.specs.Compressed.{compressed_text, unit_by, compressed_unit}
use Rattle.text_codes.specs.Shown.{pair_code}
use Rattle.char_formats.specs.declared.format.CharFormat.{CharFormat}
use Rattle.symbol_fonts.specs.declared.fonts.SymbolFonts.{SymbolFonts}
use Rattle.view_places.specs.declared.glyph.Glyph.{Glyph}
use Rattle.view_places.specs.declared.glyph.Glyph.TheVariants.{Unit, Tab, LineBreak, PageBreak, NoteMark, Picture, Object}
use Rattle.doc_view.specs.Glyphs.{are_halves, control_glyph, drawn_unit, visible_glyph, glyph_text, glyphs_text}
use Rattle.doc_view.specs.Glyphs.{is_stand_in}
use Rattle.doc_view.specs.Glyphs.{is_windows, stand_in_glyph, unit_glyph, halves_text}
use Rattle.doc_view.specs.Glyphs.{windows_unit}
use Rattle.doc_view.specs.Laws.{is_control_in_page}
use Rattle.doc_bits.proofs.Public.{both_true}
use Rattle.text_codes.specs.Halves.{replacement, is_surrogate}

-- a text without controls
abbrev pub ArePlain : List ℕ → Type 0
ArePlain text = All (λ code. is_control_in_page code ≡ false) text

pub none_plain : ArePlain []
none_plain = All-nil (λ (code : ℕ). is_control_in_page code ≡ false)

pub more_plain : (code : ℕ) (text : List ℕ) → is_control_in_page code ≡ false → ArePlain text → ArePlain (code ∷ text)
more_plain code text one are = All-cons (λ (c : ℕ). is_control_in_page c ≡ false) code text one are

pub both_plain : (one other : List ℕ) → ArePlain one → ArePlain other → ArePlain (one ++ other)
both_plain one other a b = All-append (λ (code : ℕ). is_control_in_page code ≡ false) one other a b

pub one_plain : (code : ℕ) → is_control_in_page code ≡ false → ArePlain (code ∷ [])
one_plain code is = more_plain code [] is none_plain

pub either_plain : (test : Bool) (one other : List ℕ) → ArePlain one → ArePlain other →
    ArePlain (if test then one else other)
either_plain true one other a b = a
either_plain false one other a b = b

-- ---- characters

high_plain : (code : ℕ) → 160 ≤ code → is_control_in_page code ≡ false
high_plain code high = grind (arith, nat_tests)

digit_plain : (code : ℕ) → 48 ≤ code → code ≤ 57 → is_control_in_page code ≡ false
digit_plain code low high = grind (arith, nat_tests)

one_code : (test : Bool) (one other : ℕ) → is_control_in_page one ≡ false → is_control_in_page other ≡ false →
    is_control_in_page (if test then one else other) ≡ false
one_code true one other a b = a
one_code false one other a b = b

-- ---- numbers

figure : (digit : ℕ) → digit < 10 → is_control_in_page (digit_glyph false digit) ≡ false
figure digit small =
    let e : nat_lt digit 10 ≡ true = grind (arith, nat_tests) in
    (λ i. is_control_in_page (if e i then 48 + digit else 87 + digit)) ∙ digit_plain (48 + digit) (omega arith) (omega
    arith)

figures : (test : Bool) (one other : List ℕ) → ArePlain one → ArePlain other → ArePlain (if test then one else other)
figures test one other a b = either_plain test one other a b

digits_plain : (k n : ℕ) (text : List ℕ) → ArePlain text → ArePlain (digits_onto k 10 false n text)
digits_plain zero n text are = are
digits_plain (suc k) n text are =
    let one = figure (n % 10) (omega arith) in
    figures (n / 10 == 0) (digit_glyph false (n % 10) ∷ text)
    (digits_onto k 10 false (n / 10) (digit_glyph false (n % 10) ∷ text))
    (more_plain (digit_glyph false (n % 10)) text one are)
    (digits_plain k (n / 10) (digit_glyph false (n % 10) ∷ text) (more_plain (digit_glyph false (n % 10)) text one are))

pub decimal_plain : (n : ℕ) → ArePlain (decimal n)
unfolding digits
decimal_plain n = digits_plain 64 n [] none_plain

-- ---- texts that are known

unfoldable pub are_plain : List ℕ → Bool
are_plain [] = true
are_plain (code ∷ more) = not (is_control_in_page code) && are_plain more

tested : (one more : Bool) → (not one && more) ≡ true → (one ≡ false) × (more ≡ true)
tested true more is = absurd (false≢true is)
tested false more is = (refl, is)

pub known_plain : (text : List ℕ) → are_plain text ≡ true → ArePlain text
unfolding are_plain
known_plain [] is = none_plain
known_plain (code ∷ more) is =
    let both = tested (is_control_in_page code) (are_plain more) is in more_plain code more both.0 (known_plain more
    both.1)

-- ---- Windows-1252

all_high : List (ℕ × ℕ) → Bool
all_high [] = true
all_high (entry ∷ entries) = nat_le 160 entry.1 && all_high entries

high_by : (code : ℕ) → nat_le 160 code ≡ true → is_control_in_page code ≡ false
high_by code is = grind (arith, nat_tests)

IsFound : ℕ → ℕ → Type 0
IsFound byte unit = (unit ≡ byte) ⊎ (is_control_in_page unit ≡ false)

one_found : (test : Bool) (byte one other : ℕ) → is_control_in_page one ≡ false → IsFound byte other →
    IsFound byte (if test then one else other)
unfolding IsFound
one_found true byte one other a b = inr a
one_found false byte one other a b = b

found : (entries : List (ℕ × ℕ)) (byte : ℕ) → all_high entries ≡ true → IsFound byte (unit_by entries byte)
unfolding IsFound all_high
found [] byte is = inl refl
found (entry ∷ entries) byte is =
    let both = both_true (nat_le 160 entry.1) (all_high entries) is in
    one_found (byte == entry.0) byte entry.1 (unit_by entries byte) (high_by entry.1 both.0) (found entries byte both.1)

drawn_plain : (byte unit : ℕ) → IsFound byte unit → is_control_in_page (if unit == byte then replacement else unit) ≡
    false
unfolding IsFound
drawn_plain byte unit (inl same) =
    let test : (unit == byte) ≡ true = grind (arith, nat_tests) in
    λ i. is_control_in_page (if test i then replacement else unit)
drawn_plain byte unit (inr plain) = one_code (unit == byte) replacement unit refl plain

windows_plain : (unit : ℕ) → is_control_in_page (windows_unit unit) ≡ false
unfolding all_high
windows_plain unit =
    one_code (unit == 0x80) 0x20AC
    (if unit == 0x8E then 0x017D else if unit == 0x9E then 0x017E else
    if compressed_unit unit == unit then replacement else compressed_unit unit)
    refl
    (one_code (unit == 0x8E) 0x017D
    (if unit == 0x9E then 0x017E else if compressed_unit unit == unit then replacement else compressed_unit unit)
    refl
    (one_code (unit == 0x9E) 0x017E (if compressed_unit unit == unit then replacement else compressed_unit unit) refl
    (drawn_plain unit (compressed_unit unit) (found compressed_text unit refl))))

-- ---- glyphs

-- the character of a glyph that is a unit; another glyph has one that is known
abbrev pub glyph_code : Glyph → ℕ
glyph_code (Unit unit) = unit
glyph_code Tab = 32
glyph_code LineBreak = 32
glyph_code PageBreak = 32
glyph_code (NoteMark number) = 32
glyph_code (Picture place) = 32
glyph_code Object = 32

abbrev pub IsPlainGlyph : Glyph → Type 0
IsPlainGlyph glyph = is_control_in_page (glyph_code glyph) ≡ false

abbrev pub code_in : Option Glyph → ℕ
code_in None = 32
code_in (Some glyph) = glyph_code glyph

abbrev pub IsPlainIn : Option Glyph → Type 0
IsPlainIn glyph = is_control_in_page (code_in glyph) ≡ false

pub either_glyph : (test : Bool) (one other : Option Glyph) → IsPlainIn one → IsPlainIn other →
    IsPlainIn (if test then one else other)
either_glyph true one other a b = a
either_glyph false one other a b = b

control_plain : (unit : ℕ) (ends_section : Bool) → IsPlainIn (control_glyph unit ends_section)
control_plain unit ends_section =
    either_glyph (unit == 0x09) (Some Tab)
    (if unit == 0x0B || unit == 0x0E then Some LineBreak else
    if unit == 0x0C && not ends_section then Some PageBreak else if unit == 0x1E then Some (Unit 0x2011) else None)
    refl
    (either_glyph (unit == 0x0B || unit == 0x0E) (Some LineBreak)
    (if unit == 0x0C && not ends_section then Some PageBreak else if unit == 0x1E then Some (Unit 0x2011) else None)
    refl
    (either_glyph (unit == 0x0C && not ends_section) (Some PageBreak)
    (if unit == 0x1E then Some (Unit 0x2011) else None) refl
    (either_glyph (unit == 0x1E) (Some (Unit 0x2011)) None refl refl)))

itself_plain : (unit : ℕ) → nat_lt unit 0x20 ≡ false → is_windows unit ≡ false → is_control_in_page unit ≡ false
itself_plain unit text other = grind (arith, nat_tests)

pub unit_by_tests : (unit : ℕ) (ends_section low windows : Bool) → nat_lt unit 0x20 ≡ low → is_windows unit ≡ windows →
    IsPlainIn (if low then control_glyph unit ends_section else
    Some (Unit (if windows then windows_unit unit else unit)))
unit_by_tests unit ends_section true windows is of_windows = control_plain unit ends_section
unit_by_tests unit ends_section false true is of_windows = windows_plain unit
unit_by_tests unit ends_section false false is of_windows = itself_plain unit is of_windows

pub glyph_plain : (fonts : SymbolFonts) (format : CharFormat) (ends_section : Bool) (unit : ℕ) →
    IsPlainIn (visible_glyph fonts format ends_section unit)
glyph_plain fonts format ends_section unit =
    let drawn = drawn_unit fonts format unit in
    either_glyph (is_stand_in format unit) (stand_in_glyph format) (unit_glyph drawn ends_section)
    (either_glyph format.of_field None (if format.object then Some Object else Some (Picture format.picture)) refl
    (either_glyph format.object (Some Object) (Some (Picture format.picture)) refl refl))
    (unit_by_tests drawn ends_section (nat_lt drawn 0x20) (is_windows drawn) refl refl)

whole_plain : (one next : Glyph) → ArePlain (halves_text one next)
whole_plain (Unit first) (Unit second) =
    one_plain (pair_code first second) (high_plain (pair_code first second) (omega arith))
whole_plain (Unit first) Tab = none_plain
whole_plain (Unit first) LineBreak = none_plain
whole_plain (Unit first) PageBreak = none_plain
whole_plain (Unit first) (NoteMark number) = none_plain
whole_plain (Unit first) (Picture place) = none_plain
whole_plain (Unit first) Object = none_plain
whole_plain Tab next = none_plain
whole_plain LineBreak next = none_plain
whole_plain PageBreak next = none_plain
whole_plain (NoteMark number) next = none_plain
whole_plain (Picture place) next = none_plain
whole_plain Object next = none_plain

own_plain : (in_cell : Bool) (glyph : Glyph) → IsPlainGlyph glyph → ArePlain (glyph_text in_cell glyph)
unfolding are_plain
own_plain in_cell (Unit unit) plain =
    one_plain (if is_surrogate unit then replacement else unit) (one_code (is_surrogate unit) replacement unit refl plain)
own_plain in_cell Tab plain = one_plain (if in_cell then 32 else 9) (one_code in_cell 32 9 refl refl)
own_plain in_cell LineBreak plain = one_plain (if in_cell then 32 else 10) (one_code in_cell 32 10 refl refl)
own_plain in_cell PageBreak plain = one_plain (if in_cell then 32 else 12) (one_code in_cell 32 12 refl refl)
own_plain in_cell (NoteMark number) plain =
    more_plain 91 (decimal number ++ 93 ∷ []) refl
    (both_plain (decimal number) (93 ∷ []) (decimal_plain number) (one_plain 93 refl))
own_plain in_cell (Picture place) plain = known_plain (codes "[picture]") refl
own_plain in_cell Object plain = known_plain (codes "[object]") refl

pub glyphs_plain : (in_cell : Bool) (glyphs : List Glyph) → All IsPlainGlyph glyphs → ArePlain (glyphs_text in_cell glyphs)
unfolding glyphs_text
glyphs_plain in_cell [] are = none_plain
glyphs_plain in_cell (one ∷ []) are = own_plain in_cell one (All-head IsPlainGlyph one [] are)
glyphs_plain in_cell (one ∷ next ∷ more) are =
    let first = All-head IsPlainGlyph one (next ∷ more) are in
    let rest = All-tail IsPlainGlyph one (next ∷ more) are in
    either_plain (are_halves one next) (halves_text one next ++ glyphs_text in_cell more)
    (glyph_text in_cell one ++ glyphs_text in_cell (next ∷ more))
    (both_plain (halves_text one next) (glyphs_text in_cell more) (whole_plain one next)
    (glyphs_plain in_cell more (All-tail IsPlainGlyph next more rest)))
    (both_plain (glyph_text in_cell one) (glyphs_text in_cell (next ∷ more)) (own_plain in_cell one first)
    (glyphs_plain in_cell (next ∷ more) rest))
