-- The lines that docfit prints, beside those of what is left out.
use Rattle.std.specs.Prelude.{ℕ, List, ◌++◌, codes}
use Rattle.std.specs.Fmt.{decimal}
use Rattle.text_codes.specs.Shown.{line}

-- the bytes that are put, and how many features are left out and mended
abbrev pub fit_line : ℕ → ℕ → ℕ → List ℕ
fit_line bytes left_out mended =
    line
    (codes "fit: "
    ++ (decimal bytes
    ++ (codes " bytes, left out " ++ (decimal left_out ++ (codes ", mended " ++ decimal mended)))))

-- the document needs more sectors than a file has
abbrev pub needs_line : ℕ → List ℕ
needs_line sectors = line (codes "fit: needs " ++ (decimal sectors ++ codes " sectors"))
