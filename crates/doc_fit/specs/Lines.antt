-- The lines on files that are not opened, beside that of a rule.
use Rattle.std.specs.Prelude.{ℕ, List, ◌++◌, codes}
use Rattle.text_codes.specs.Digits.{word_text}
use Rattle.text_codes.specs.Shown.{line}

-- [MS-DOC] FibBase: wIdent and nFib of another program
abbrev pub not_word_line : List ℕ → ℕ → ℕ → List ℕ
not_word_line name ident version =
    line
    ((((name ++ codes ": not of Word 97 to 2007: wIdent ") ++ word_text ident) ++ codes " nFib ")
    ++ word_text version)

abbrev pub encrypted_line : List ℕ → List ℕ
encrypted_line name = line (name ++ codes ": encrypted")
