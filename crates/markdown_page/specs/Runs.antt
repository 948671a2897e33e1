-- Units that are put together: each is written as it is, on the path of the one before it.
use Rattle.std.specs.Prelude.{◌≡◌, ℕ, ◌==◌, Bool, true, false, not, ◌&&◌, ◌||◌, List, Option, None, Some, if◌then◌else◌}
use Rattle.std.specs.List.{list_any}
use Rattle.markdown_text.specs.declared.line.LineState.{LineState}
use Rattle.markdown_text.specs.declared.line.LineState.TheVariants.{Start, Digits, Within, Bracket, Colon}
use Rattle.markdown_text.specs.Lines.{is_special}
use Rattle.view_places.specs.declared.element.Element.{Element}
use Rattle.markdown_page.specs.declared.context.Seam.{Seam}
use Rattle.markdown_page.specs.declared.context.Seam.TheVariants.{Other, Word, Closed}
use Rattle.markdown_page.specs.declared.context.Context.{Context}
use Rattle.markdown_page.specs.declared.shape.Kind.{Kind}
use Rattle.markdown_page.specs.declared.shape.Kind.TheVariants.{Block, ToNote, FromNote, Emphasis, Tagged, Unmarked}
use Rattle.markdown_page.specs.Shape.{inner_kind, is_from_note, is_white, element_kind}

-- a character that is written as it is within a line, and leaves it so
abbrev pub is_plain : ℕ → Bool
is_plain code = not (is_special Within code) && not (code == 58)

abbrev pub IsPlainCharacter : ℕ → Type 0
IsPlainCharacter code = is_plain code ≡ true

abbrev pub is_emphasis : Kind → Bool
is_emphasis Block = false
is_emphasis ToNote = false
is_emphasis FromNote = false
is_emphasis Emphasis = true
is_emphasis Tagged = false
is_emphasis Unmarked = false

abbrev pub is_emphasis_in : Option Element → Bool
is_emphasis_in None = false
is_emphasis_in (Some element) = is_emphasis (element_kind element)

-- white space is outside of an element
abbrev pub has_emphasis : List Element → Bool
has_emphasis path = list_any (λ element. is_emphasis (element_kind element)) path

-- a unit goes on behind one that is white space or none, in emphasis or not
abbrev pub goes_on : Bool → Bool → ℕ → Bool
goes_on in_emphasis space unit =
    is_plain unit && (not in_emphasis || (if space then is_white unit else not (is_white unit)))

abbrev pub is_within_line : LineState → Bool
is_within_line Start = false
is_within_line Digits = false
is_within_line Within = true
is_within_line Bracket = false
is_within_line Colon = false

abbrev pub is_closed_seam : Seam → Bool
is_closed_seam Other = false
is_closed_seam Word = false
is_closed_seam Closed = true

abbrev pub is_none : Option ℕ → Bool
is_none None = true
is_none (Some unit) = false

-- within a line, where no half of a character waits, and no emphasis ended
abbrev pub is_open_line : LineState → Context → Bool
is_open_line line context = is_within_line line && (is_none context.half && not (is_closed_seam context.seam))
