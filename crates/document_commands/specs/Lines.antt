-- The lines that a run prints.
use Rattle.std.specs.Prelude.{ℕ, false, List, [], ◌∷◌, ◌++◌, length, codes}
use Rattle.std.specs.List.{flat_map}
use Rattle.std.specs.Fmt.{decimal}
use Rattle.text_codes.specs.Shown.{shown_text}
use Rattle.text_codes.specs.Shown.{line}
use Rattle.cfb_streams.specs.Contents.{Stream}

-- the commands that are built
abbrev pub usage_line : List ℕ
usage_line = line (codes "usage: docbin text FILE | streams FILE | check FILE | show FILE | props FILE POS" ++ (codes
    " | full FILE OUT | equal A B | edit FILE SCRIPT OUT | gen N OUT | outline FILE | title FILE" ++ codes
    " | retitle FILE TEXT OUT | export FILE OUT | import FILE OUT | join A B OUT"))

-- a position that the main text does not have, and the length that it has
abbrev pub position_line : ℕ → ℕ → List ℕ
position_line pos len = line (codes "position " ++ (decimal pos ++ (codes " of " ++ decimal len)))

-- the bytes that the command of this word made
abbrev pub bytes_line : (word : List ℕ) → ℕ → List ℕ
bytes_line word count = line (word ++ (codes ": " ++ (decimal count ++ codes " bytes")))

-- the sectors that its bytes would need, which no file has
abbrev pub needs_sectors_line : (word : List ℕ) → ℕ → List ℕ
needs_sectors_line word sectors = line (word ++ (codes ": too large, needs " ++ (decimal sectors ++ codes " sectors")))

-- two documents are equal, or not
abbrev pub equal_line : List ℕ
equal_line = line (codes "equal")

abbrev pub different_line : List ℕ
different_line = line (codes "different")

-- a stream: its size, and its name as it is shown
abbrev pub stream_line : Stream → List ℕ
stream_line stream = line (decimal (length stream.bytes) ++ (32 ∷ [] ++ shown_text false stream.name))

-- the streams of a file, one on each line
abbrev pub stream_lines : List Stream → List ℕ
stream_lines streams = flat_map stream_line streams
