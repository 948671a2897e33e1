-- What the definitions imply.
use Rattle.std.specs.Prelude.{◌≡◌, []}
use Rattle.std.specs.List.{All}
use Rattle.html_text.specs.Reading.{read}
use Rattle.html_page.specs.Sources.{PageSource}
use Rattle.html_page.specs.Pages.{Head, Places, page_tokens, page_text}
use Rattle.html_page.specs.Known.{IsKnownToken}
use Rattle.html_page.specs.Brackets.{AreBrackets}

-- a page is read as the characters and tags that it was printed of
abbrev pub PagesAreReadBack : Type 0
PagesAreReadBack =
    (source : PageSource) (head : Head) (places : Places) →
    read (page_text source head places) ≡ page_tokens source head places

-- each tag that is read of a page is one of a closed list, in which links lead to allowed URLs alone, and images are files
-- of its pictures
abbrev pub TagsAreKnown : Type 0
TagsAreKnown = (source : PageSource) (head : Head) (places : Places) →
    All (IsKnownToken source.images) (read (page_text source head places))

-- the tags that are read of a page nest, and at its end nothing is open
abbrev pub PagesNest : Type 0
PagesNest = (source : PageSource) (head : Head) (places : Places) → AreBrackets [] (read (page_text source head places)) []
