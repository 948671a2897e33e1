-- A page while it is put: what is before a text and before its paragraphs, and what the glyphs of a paragraph come to
-- one by
-- one, where the first half of a character waits for the other one.
use Rattle.std.specs.Prelude.{◌≡◌, ℕ, Bool, true, false, ◌&&◌, ◌||◌, not, if◌then◌else◌}
use Rattle.std.specs.Prelude.{List, [], ◌∷◌, ◌++◌, Option, Some, None, option_map}
use Rattle.text_codes.specs.Shown.{is_pair, pair_code}
use Rattle.view_places.specs.declared.glyph.Glyph.{Glyph}
use Rattle.view_places.specs.declared.glyph.Glyph.TheVariants.{Unit, Tab, LineBreak, PageBreak, NoteMark, Picture, Object}
use Rattle.doc_view.specs.declared.line.Lead.{Lead}
use Rattle.doc_view.specs.declared.line.Title.{Title}
use Rattle.doc_view.specs.declared.line.Title.TheVariants as title
use Rattle.doc_view.specs.declared.line.Line.{Line}
use Rattle.doc_view.specs.declared.paragraph.Saying.{Saying}
use Rattle.doc_view.specs.declared.standing.Standing.{Standing}
use Rattle.doc_view.specs.Glyphs.{glyph_text, glyphs_text}
use Rattle.doc_view.specs.Labels.{opening_text}
use Rattle.doc_view.specs.Layout.{front_at, row_goes_on, closes_cell}
use Rattle.doc_view.specs.Notes.{note_label}
use Rattle.doc_view.specs.Headers.{header_title}
use Rattle.doc_view.specs.declared.reading.Seen.{Seen}
use Rattle.doc_view.specs.Seen.{some_shown, glyphs_in}
use Rattle.text_codes.specs.Halves.{replacement, is_high, half_text, first_half}

abbrev pub title_text : Title → List ℕ
title_text title.Bare = []
title_text (title.Note number) = note_label (Some number)
title_text (title.Header number) = header_title number

abbrev pub lead_text : Lead → List ℕ
lead_text lead = (if lead.is_apart then 10 ∷ [] else []) ++ title_text lead.title

-- behind one more paragraph
abbrev pub line_after : Line → Standing → Bool → Line
line_after line standing here = record {
  some = here || line.some;
  in_row = row_goes_on standing && (here || line.in_row);
  in_cell = row_goes_on standing && (not (closes_cell standing) && (here || line.in_cell));
  later = row_goes_on standing && (closes_cell standing || line.later);
}

-- a half that waits, as a glyph, and its text where no other one follows
abbrev pub waiting : Option ℕ → List Glyph
waiting None = []
waiting (Some unit) = Unit unit ∷ []

-- a unit that no half waits for
abbrev pub first_unit_said : ℕ → List ℕ
first_unit_said unit = if is_high unit then [] else glyph_text false (Unit unit)

abbrev pub unit_said : Option ℕ → ℕ → List ℕ
unit_said None unit = first_unit_said unit
unit_said (Some first) unit = if is_pair first unit then pair_code first unit ∷ [] else replacement ∷ [] ++
    first_unit_said unit

abbrev pub unit_waits : Option ℕ → ℕ → Option ℕ
unit_waits None unit = first_half unit
unit_waits (Some first) unit = if is_pair first unit then None else first_half unit

-- the unit that a glyph is
abbrev pub unit_in : Glyph → Option ℕ
unit_in (Unit unit) = Some unit
unit_in Tab = None
unit_in LineBreak = None
unit_in PageBreak = None
unit_in (NoteMark number) = None
unit_in (Picture place) = None
unit_in Object = None

-- a glyph that is no unit
abbrev pub other_said : Bool → Glyph → List ℕ
other_said in_table (Unit unit) = []
other_said in_table Tab = glyph_text in_table Tab
other_said in_table LineBreak = glyph_text in_table LineBreak
other_said in_table PageBreak = glyph_text in_table PageBreak
other_said in_table (NoteMark number) = glyph_text in_table (NoteMark number)
other_said in_table (Picture place) = glyph_text in_table (Picture place)
other_said in_table Object = glyph_text in_table Object

abbrev pub glyph_said : Bool → Option ℕ → Glyph → List ℕ
glyph_said in_table half (Unit unit) = unit_said half unit
glyph_said in_table half Tab = half_text half ++ glyph_text in_table Tab
glyph_said in_table half LineBreak = half_text half ++ glyph_text in_table LineBreak
glyph_said in_table half PageBreak = half_text half ++ glyph_text in_table PageBreak
glyph_said in_table half (NoteMark number) = half_text half ++ glyph_text in_table (NoteMark number)
glyph_said in_table half (Picture place) = half_text half ++ glyph_text in_table (Picture place)
glyph_said in_table half Object = half_text half ++ glyph_text in_table Object

abbrev pub waits_after : Option ℕ → Glyph → Option ℕ
waits_after half (Unit unit) = unit_waits half unit
waits_after half Tab = None
waits_after half LineBreak = None
waits_after half PageBreak = None
waits_after half (NoteMark number) = None
waits_after half (Picture place) = None
waits_after half Object = None

-- the same of what may be a glyph
abbrev pub maybe_said : Bool → Option ℕ → Option Glyph → List ℕ
maybe_said in_table half None = []
maybe_said in_table half (Some glyph) = glyph_said in_table half glyph

abbrev pub maybe_waits : Option ℕ → Option Glyph → Option ℕ
maybe_waits half None = half
maybe_waits half (Some glyph) = waits_after half glyph

-- what is before the paragraph, as long as nothing of it was put
abbrev pub saying_front : Saying → List ℕ
saying_front saying =
    front_at (lead_text saying.lead) saying.line saying.in_table
    ++ opening_text saying.in_table (option_map (λ values. values.now) saying.values)

abbrev pub begun_front : Saying → List ℕ
begun_front saying = if saying.begun then [] else saying_front saying

-- something is shown next: a glyph, or nothing
abbrev pub shown_said : Saying → Option Glyph → List ℕ
shown_said saying None = begun_front saying
shown_said saying (Some glyph) = begun_front saying ++ glyph_said saying.in_table saying.half glyph

abbrev pub shown_after : Saying → Option Glyph → Saying
shown_after saying None = record saying { begun = true }
shown_after saying (Some glyph) = record saying { begun = true; half = waits_after saying.half glyph }

-- what is still to be put where these items follow, and then the paragraph ends
abbrev pub unsaid_text : Saying → List Seen → List ℕ
unsaid_text saying seen =
    if saying.begun then glyphs_text saying.in_table (waiting saying.half ++ glyphs_in seen) else
    if some_shown seen then saying_front saying ++ glyphs_text saying.in_table (glyphs_in seen) else []

-- a half waits only behind something that was put, and it is one
pub record IsSaying (saying : Saying) : Type 0 where
  pub behind : saying.begun ≡ false → saying.half ≡ None
  pub half : (unit : ℕ) → saying.half ≡ Some unit → is_high unit ≡ true

-- these items were said
pub record Says (saying : Saying) (seen : List Seen) (after : Saying) (text : List ℕ) : Type 0 where
  pub goes_on : (more : List Seen) → unsaid_text saying (seen ++ more) ≡ text ++ unsaid_text after more
  pub begun : after.begun ≡ (saying.begun || some_shown seen)
  pub still : IsSaying after
