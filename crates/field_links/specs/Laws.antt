-- What the definitions imply.
use Rattle.std.specs.Prelude.{◌≡◌, ℕ, true, ◌||◌, ◌==◌, List, ◌∷◌, Some, ◌⊎◌}
use Rattle.std.specs.List.{list_all}
use Rattle.field_links.specs.Instructions.{Target}
use Rattle.field_links.specs.Characters.{is_utf16}
use Rattle.field_links.specs.Urls.{url_text, anchor_name, has_scheme, is_url_character, is_anchor_character}

-- a URL of one of the five schemes
pub record IsSchemeUrl (url : List ℕ) : Type 0 where
  pub scheme : has_scheme url ≡ true
  pub characters : list_all is_url_character url ≡ true

-- a URL in the page itself: full stops are round the numbers of characters
pub record IsLocalUrl (url : List ℕ) : Type 0 where
  pub name : List ℕ
  pub begins : url ≡ 35 ∷ name
  pub characters : list_all (λ code. is_anchor_character code || code == 46) name ≡ true

-- each URL is one of these
abbrev pub UrlsAreAllowed : Type 0
UrlsAreAllowed = (target : Target) (url : List ℕ) → url_text target ≡ Some url → IsSchemeUrl url ⊎ IsLocalUrl url

-- bookmarks of different names have different anchors, where no name has half a character
abbrev pub AnchorsDiffer : Type 0
AnchorsDiffer =
    (one other : List ℕ) → is_utf16 one ≡ true → is_utf16 other ≡ true → anchor_name one ≡ anchor_name other → one ≡ other
