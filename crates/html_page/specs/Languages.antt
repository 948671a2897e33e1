-- The language of a page.
use Rattle.std.specs.Prelude.{ℕ, ◌+◌, ◌*◌, ◌-◌, ◌%◌, nat_le, ◌&&◌, List, [], ◌∷◌, codes, slice_range}
use Rattle.std.specs.Prelude.{Option, None, Some, if◌then◌else◌}
use Rattle.html_page.specs.Tags.{attribute}

-- [ISO 639-1] the codes of the primary languages 1 to 45 of [MS-LCID]
abbrev pub language_codes : List ℕ
language_codes =
    codes "arbgcazhcsdadeelenesfifrhehuisitjakonlnoplptrmrorushsksqsvthtruridukbesletlvlttgfavihyazeu"

-- the code of the primary language with this number, from 0
abbrev pub language_code : ℕ → List ℕ
language_code number = slice_range language_codes (2 * number) (2 * number + 2)

-- [MS-LCID] the ten low bits of a language identifier are the primary language
-- Profile: where it is spoken is left out, and of one without a code nothing is said
abbrev pub language_attributes : Option ℕ → List (List ℕ)
language_attributes None = []
language_attributes (Some identifier) =
    let primary = identifier % 1024 in
    if nat_le 1 primary && nat_le primary 45 then attribute (codes "lang") (language_code (primary - 1)) ∷ [] else []
