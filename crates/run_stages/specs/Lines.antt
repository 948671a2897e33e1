-- The lines that all programs over files print.
use Rattle.std.specs.Prelude.{ℕ, List, [], ◌∷◌, ◌++◌, codes}
use Rattle.std.specs.Fmt.{decimal}
use Rattle.doc_bits.specs.declared.places.Where.{Where}
use Rattle.doc_bits.specs.declared.places.Where.TheVariants.{File, Wd, Table, Sheet, Main, Note, Head}
use Rattle.doc_bits.specs.Places.{Place}
use Rattle.text_codes.specs.Shown.{line}

-- how a place is named
abbrev pub place_name : Where → List ℕ
place_name File = codes "File"
place_name Wd = codes "WordDocument"
place_name Table = codes "Table"
place_name Sheet = codes "Sheet"
place_name Main = codes "Main"
place_name (Note number) = codes "Note " ++ decimal number
place_name (Head number) = codes "Head " ++ decimal number

-- the first broken rule, and its least place
abbrev pub rule_line : List ℕ → ℕ → Place → List ℕ
rule_line name rule place =
    line
    (name ++ (codes ": rule " ++ (decimal rule ++ (32 ∷ [] ++ (place_name place.0 ++ (32 ∷ [] ++ decimal place.1))))))

abbrev pub missing_line : List ℕ → List ℕ
missing_line name = line (name ++ codes ": missing")

abbrev pub shelf_fault_line : List ℕ
shelf_fault_line = line (codes "shelf fault")
