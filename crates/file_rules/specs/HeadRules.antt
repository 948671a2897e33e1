-- Rule 54: the CPs that cut the header texts' story.
use Rattle.std.specs.Prelude.{◌≡◌, ◌⊎◌, ℕ, ◌+◌, ◌*◌, ◌≤◌, List, length}
use Rattle.doc_bits.specs.declared.places.Where.TheVariants as stands
use Rattle.doc_bits.specs.Rules.{Rules, rule, given}
use Rattle.doc_bits.specs.Places.{Place, rules_in}
use Rattle.doc_parts.specs.declared.lists.Sed.{Sed}
use Rattle.doc_parts.specs.Stories.{AreCuts}
use Rattle.fib_form.specs.declared.table_parts.TablePart.TheVariants.{PlcfHdd}
use Rattle.fib_form.specs.declared.stories.StoryKind.TheVariants.{Heads}
use Rattle.file_rules.specs.Source.{DocSource, part_place, table_part_bytes, story_length}
use Rattle.file_rules.specs.SectionRules.{HasSections}
use Rattle.file_rules.specs.TextCuts.{BreaksCuts}

-- [MS-DOC] Plcfhdd: six separators of notes, and six header texts a section. Profile: there may be fewer
pub record HasHeadTexts (len sections : ℕ) : Type 0 where
  pub texts : ℕ
  pub most : texts ≤ 6 + 6 * sections
  pub cps : len ≡ 4 * (texts + 2)

-- a PlcfHdd of this length is one of so many sections, or is empty
abbrev pub IsHeadTable : ℕ → ℕ → Type 0
IsHeadTable len sections = (len ≡ 0) ⊎ HasHeadTexts len sections

abbrev pub BreaksHeads : DocSource → List Sed → ℕ → Type 0
BreaksHeads source sections =
    let bytes = table_part_bytes source PlcfHdd in
    BreaksCuts (IsHeadTable (length bytes) (length sections)) bytes (story_length source Heads)
    (part_place source PlcfHdd)

abbrev pub rules_of_heads : DocSource → Rules Place
rules_of_heads source =
    given (HasSections source) (λ sections. rules_in stands.Table (rule 54 (BreaksHeads source sections)))

-- the CPs that cut the header texts of a document: text k is from the one to the next, and a text that is missing is
-- empty
abbrev pub HasHeadCuts : DocSource → List ℕ → Type 0
HasHeadCuts source = AreCuts (table_part_bytes source PlcfHdd) (story_length source Heads)
