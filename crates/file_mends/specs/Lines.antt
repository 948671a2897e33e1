-- The line of each mend of a file.
use Rattle.std.specs.Prelude.{ℕ, List, [], ◌∷◌, ◌++◌, codes}
use Rattle.std.specs.Fmt.{decimal}
use Rattle.fib_versions.specs.PartNames.{name_of_part}
use Rattle.file_mends.specs.declared.mends.FileMend.{FileMend}
use Rattle.file_mends.specs.declared.mends.FileMend.TheVariants.{LastSectorFilled, PartEmptied, StyleEmptied, StylesCut}
use Rattle.file_mends.specs.declared.mends.FileMend.TheVariants.{StopsRead}

-- how many bytes were missing
abbrev pub sector_line : ℕ → List ℕ
sector_line missing = codes "sector " ++ (decimal missing ++ (codes ": filled" ++ 10 ∷ []))

-- the part by its number and its name
abbrev pub part_line : ℕ → List ℕ
part_line n = codes "part " ++ (decimal n ++ (32 ∷ [] ++ (name_of_part n ++ (codes ": emptied" ++ 10 ∷ []))))

-- the style by its number
abbrev pub emptied_style_line : ℕ → List ℕ
emptied_style_line istd = codes "style " ++ (decimal istd ++ (codes ": emptied" ++ 10 ∷ []))

-- the first style that is gone, and all behind it
abbrev pub cut_styles_line : ℕ → List ℕ
cut_styles_line istd = codes "styles " ++ (decimal istd ++ (codes ": cut" ++ 10 ∷ []))

-- how many changes of tab stops are read
abbrev pub stops_line : ℕ → List ℕ
stops_line count = codes "stops " ++ (decimal count ++ (codes ": read" ++ 10 ∷ []))

abbrev pub file_mend_line : FileMend → List ℕ
file_mend_line (LastSectorFilled missing) = sector_line missing
file_mend_line (PartEmptied n) = part_line n
file_mend_line (StyleEmptied istd) = emptied_style_line istd
file_mend_line (StylesCut istd) = cut_styles_line istd
file_mend_line (StopsRead count) = stops_line count
