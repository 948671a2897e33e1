-- What the definitions imply.
use Rattle.std.specs.Prelude.{◌≡◌, ℕ, true, List, map}
use Rattle.markdown_text.specs.declared.line.LineState.TheVariants.{Start}
use Rattle.markdown_text.specs.Tokens.{Token, Character, printed, are_valid}
use Rattle.markdown_text.specs.Reading.{read, all_as_read}

-- a page is read as what it was printed of: its characters as characters, and no markup but its own
abbrev pub MarkdownIsReadBack : Type 0
MarkdownIsReadBack = (tokens : List Token) → are_valid Start tokens ≡ true → read (printed tokens) ≡ all_as_read Start
    tokens

-- a text is read as its characters, and as nothing else
abbrev pub TextsAreReadBack : Type 0
TextsAreReadBack = (text : List ℕ) → read (printed (map Character text)) ≡ map Character text
