-- A page in Markdown while it is printed.
use Rattle.std.specs.Prelude.{◌≡◌, ℕ, List}
use Rattle.doc_outer.specs.declared.sink.Sink.{Ghosts}
use Rattle.page_out.specs.Printed.{Prints}
use Rattle.markdown_text.specs.Tokens.{Token, after_tokens, printed_from}
use Rattle.view_paths.specs.Paths.{last_path}
use Rattle.view_paths.specs.Events.{events_up_to}
use Rattle.view_places.specs.declared.element.Element.{Element}
use Rattle.view_places.specs.Same.{same}
use Rattle.markdown_page.specs.declared.pen.Pen.{Pen}
use Rattle.markdown_page.specs.declared.printer.MarkdownPage.{MarkdownPage}
use Rattle.markdown_page.specs.Pages.{Events, State, state_behind, tokens_from}
use Rattle.markdown_page.specs.Shape.{Places, all_shaped}

-- tokens were printed
pub record PutsTokens {K : Type 0} (sink : Ghosts K) (before : K) (pen : Pen) (after : K) (left : Pen)
    (tokens : List Token) : Type 0 where
  pub prints : Prints sink before pen.page after left.page (printed_from pen.line tokens)
  pub line : left.line ≡ after_tokens pen.line tokens

abbrev pub state_in : MarkdownPage → State
state_in page = record { document = page.document.now; line = page.pen.line; context = page.context }

-- events were printed; then this path is open
pub record PutsEvents {K : Type 0} (sink : Ghosts K) (before : K) (page : MarkdownPage) (after : K)
    (left : MarkdownPage) (events : Events) (to : List Element) : Type 0 where
  pub prints : Prints sink before page.pen.page after left.pen.page (printed_from page.pen.line (tokens_from (state_in
      page) events))
  pub state : state_in left ≡ state_behind (state_in page) events
  pub path : left.path ≡ to

-- places were printed, the last of which stays open
abbrev pub PutsPlaces : {K : Type 0} → Ghosts K → K → MarkdownPage → K → MarkdownPage → Places → Type 0
PutsPlaces sink before page after left places =
    PutsEvents sink before page after left (events_up_to same page.path (all_shaped places))
    (last_path page.path (all_shaped places))
