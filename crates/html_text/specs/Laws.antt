-- What the definitions imply.
use Rattle.std.specs.Prelude.{◌≡◌, ℕ, true, List, map}
use Rattle.std.specs.List.{list_all}
use Rattle.html_text.specs.Tokens.{Token, Character, escaped_text, printed, is_closed_token}
use Rattle.html_text.specs.Reading.{read}
use Rattle.html_text.specs.Safe.{is_safe}

-- a page is read as what it was printed of, where no tag has a > of its own
abbrev pub HtmlIsReadBack : Type 0
HtmlIsReadBack = (tokens : List Token) → list_all is_closed_token tokens ≡ true → read (printed tokens) ≡ tokens

-- a text is read as its characters, and as nothing else
abbrev pub TextsAreReadBack : Type 0
TextsAreReadBack = (text : List ℕ) → read (escaped_text text) ≡ map Character text

-- what is printed for a text has no <, no > and no quote, so that it is also the value of one attribute
abbrev pub TextsAreNoMarkup : Type 0
TextsAreNoMarkup = (text : List ℕ) → list_all is_safe (escaped_text text) ≡ true
