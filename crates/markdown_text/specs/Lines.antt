-- Where a line is, and which characters are markup there: a part of CommonMark's block starts and inlines, with the
-- tables, the strikethrough and the footnotes of GFM.
use Rattle.std.specs.Prelude.{ℕ, Bool, ◌&&◌, ◌||◌, ◌==◌, nat_le, List, [], ◌∷◌, codes, if◌then◌else◌}
use Rattle.std.specs.List.{list_any}
use Rattle.markdown_text.specs.declared.line.LineState.{LineState}
use Rattle.markdown_text.specs.declared.line.LineState.TheVariants.{Start, Digits, Within, Bracket, Colon}

-- the character is one of these
abbrev pub is_among : List ℕ → ℕ → Bool
is_among marks code = list_any (λ mark. code == mark) marks

-- the end of a line
abbrev pub is_break : ℕ → Bool
is_break code = is_among (10 ∷ 13 ∷ []) code

-- markup wherever it is: escapes, code, emphasis, links, tags, references, columns, strikethrough, headings, images, and
-- notes; and the dollar, which other readers take for mathematics
abbrev pub is_always_special : ℕ → Bool
is_always_special code = is_break code || is_among (codes "\\`*_[]<>&|~$#!^") code

-- where a block may begin also: items of lists, lines below headings and between rows; spaces and tabs, which would be
-- taken away
abbrev pub is_start_special : ℕ → Bool
is_start_special code = is_among (codes "+-=: \t") code

-- markup there, unless it is escaped: behind digits the end of an item's number, behind a closing bracket what would
-- make it a link or the beginning of a note, behind a colon and a name another colon, since some readers take a name
-- between colons for a picture
abbrev pub is_special : LineState → ℕ → Bool
is_special Start code = is_always_special code || is_start_special code
is_special Digits code = is_always_special code || is_among (codes ".)") code
is_special Within code = is_always_special code
is_special Bracket code = is_always_special code || is_among (codes "(:") code
is_special Colon code = is_always_special code || is_among (codes ":") code

abbrev pub is_digit : ℕ → Bool
is_digit code = nat_le 48 code && nat_le code 57

-- a character of such a name
abbrev pub is_name : ℕ → Bool
is_name code =
    is_digit code || ((nat_le 65 code && nat_le code 90) || ((nat_le 97 code && nat_le code 122)
    || is_among (codes "+-") code))

-- behind a character within text
abbrev pub after_text : ℕ → LineState
after_text code = if code == 58 then Colon else Within

-- behind a character that is text
abbrev pub after_character : LineState → ℕ → LineState
after_character Start code = if is_digit code then Digits else Within
after_character Digits code = if is_digit code then Digits else after_text code
after_character Within code = after_text code
after_character Bracket code = Within
after_character Colon code = if is_name code then Colon else Within

-- behind a tag: a closing bracket, or a colon, counts right behind it alone
abbrev pub after_tag : LineState → LineState
after_tag Start = Start
after_tag Digits = Digits
after_tag Within = Within
after_tag Bracket = Within
after_tag Colon = Within

-- behind markup: a block may begin behind the end of a line, a bar between cells, the marker of an item or of a note
abbrev pub after_special : LineState → ℕ → LineState
after_special state code =
    if is_break code || is_among (codes "|.):") code then Start else
    if code == 93 then Bracket else after_tag state

-- behind a character that the page itself writes
abbrev pub after_markup : LineState → ℕ → LineState
after_markup state code = if is_special state code then after_special state code else after_character state code

abbrev pub after_markups : LineState → List ℕ → LineState
after_markups state [] = state
after_markups state (code ∷ text) = after_markups (after_markup state code) text
