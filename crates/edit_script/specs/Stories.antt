-- The words that name the texts of a document.
use Rattle.std.specs.Prelude.{ℕ, ◌^◌, nat_lt, List, length, take, drop, bytes_eq, decimal, codes, Option, Some, None}
use Rattle.std.specs.Prelude.{option_map, if◌then◌else◌}
use Rattle.std.specs.Option.{option_or}
use Rattle.std.specs.Str.Parse.{digits_value}
use Rattle.doc_bits.specs.declared.places.Story.{Story}
use Rattle.doc_bits.specs.declared.places.Story.TheVariants.{Main, Note, Head}

-- the number, where it is below the limit
abbrev pub below : ℕ → ℕ → Option ℕ
below limit number = if nat_lt number limit then Some number else None

-- a number below 2 ^ 32, as it is written: decimal digits without leading zeros
abbrev pub number_written : List ℕ → Option ℕ
number_written digits =
    if bytes_eq digits (decimal (digits_value 10 digits)) then below (2 ^ 32) (digits_value 10 digits) else None

-- the number that is behind the prefix
abbrev pub number_after : List ℕ → List ℕ → Option ℕ
number_after prefix word =
    if bytes_eq (take (length prefix) word) prefix then number_written (drop (length prefix) word) else None

-- `main`, or `note:` or `head:` and a number
abbrev pub story_with_name : List ℕ → Option Story
story_with_name word =
    if bytes_eq word (codes "main") then Some Main else
    option_or (option_map Note (number_after (codes "note:") word)) (option_map Head (number_after (codes "head:")
    word))
