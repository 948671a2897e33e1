-- The rules on the pages of a text, 39 to 48: the unit of each CP of the three stories has its characters' page, and
-- each unit that ends a paragraph its paragraphs' page.
use Rattle.std.specs.Prelude.{ℕ, ◌+◌, ◌==◌, nat_lt, Bool, ◌&&◌, List, [], ◌∷◌, ◌++◌, length, map, take, drop}
use Rattle.std.specs.Prelude.{filter, slice_index}
use Rattle.std.specs.List.{list_any, range_with_len}
use Rattle.doc_bits.specs.declared.places.Where.TheVariants as stands
use Rattle.doc_bits.specs.Rules.{Rules, ◌then◌, given}
use Rattle.doc_bits.specs.Places.{Place, rules_in}
use Rattle.text_codes.specs.Paragraph.{is_paragraph_end}
use Rattle.doc_parts.specs.declared.lists.Sed.{Sed}
use Rattle.fkp_pages.specs.declared.kind.PageKind.TheVariants.{Chpx, Papx}
use Rattle.direct_props.specs.PageRules.{page_rules}
use Rattle.fib_form.specs.declared.table_parts.TablePart.TheVariants.{PlcfBteChpx, PlcfBtePapx}
use Rattle.fib_form.specs.declared.stories.StoryKind.TheVariants.{Main, Notes, Heads}
use Rattle.file_rules.specs.Source.{DocSource, table_part_bytes, story_length}
use Rattle.file_rules.specs.SectionRules.{HasSections}

-- the number of CPs of the three stories; the paragraph mark that may follow them is not checked
abbrev pub text_count : DocSource → ℕ
text_count source = story_length source Main + story_length source Notes + story_length source Heads

-- their units, and their places in WordDocument
abbrev pub judged_units : DocSource → List ℕ
judged_units source = take (text_count source) source.text.units

abbrev pub judged_places : DocSource → List ℕ
judged_places source = take (text_count source) source.text.places

-- the CPs before which a section ends: where the next one begins, and the end of the main text
abbrev pub section_ends : List Sed → ℕ → List ℕ
section_ends sections main_len = drop 1 (map (λ sed. sed.start) sections) ++ main_len ∷ []

abbrev pub is_end : List ℕ → ℕ → Bool
is_end ends cp = list_any (λ end. end == cp) ends

-- a section ends with the unit of this CP
abbrev pub ends_section : List Sed → ℕ → ℕ → Bool
ends_section sections main_len cp = nat_lt cp main_len && is_end (section_ends sections main_len) (cp + 1)

-- a paragraph ends with it
abbrev pub ends_paragraph : DocSource → List Sed → ℕ → Bool
ends_paragraph source sections cp =
    is_paragraph_end (slice_index (judged_units source) cp) (ends_section sections (story_length source Main) cp)

-- the CPs that end a paragraph, and their places
abbrev pub paragraph_ends : DocSource → List Sed → List ℕ
paragraph_ends source sections =
    filter (ends_paragraph source sections) (range_with_len 0 (length (judged_units source)))

abbrev pub paragraph_end_places : DocSource → List Sed → List ℕ
paragraph_end_places source sections = map (slice_index (judged_places source)) (paragraph_ends source sections)

-- the rules 39 to 43
abbrev pub character_rules : DocSource → Rules Place
character_rules source =
    rules_in stands.Wd (page_rules Chpx source.wd (table_part_bytes source PlcfBteChpx) (judged_places source))

-- the rules 44 to 48
abbrev pub mark_rules : DocSource → List Sed → Rules Place
mark_rules source sections =
    rules_in stands.Wd (page_rules Papx source.wd (table_part_bytes source PlcfBtePapx) (paragraph_end_places source
    sections))

-- the rules 39 to 48
abbrev pub format_rules : DocSource → List Sed → Rules Place
format_rules source sections = character_rules source then mark_rules source sections

abbrev pub rules_of_formats : DocSource → Rules Place
rules_of_formats source = given (HasSections source) (format_rules source)
