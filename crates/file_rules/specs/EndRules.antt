-- Rule 55: what is after the last note, and after the last header text.
use Rattle.std.specs.Prelude.{◌≡◌, ◌⊎◌, ℕ, ◌-◌, ◌<◌, ◌≤◌, List, length, slice_index}
use Rattle.doc_bits.specs.declared.places.Where.TheVariants as stands
use Rattle.doc_bits.specs.Rules.{Rules, rule, given, IsLeast}
use Rattle.doc_bits.specs.Places.{Place, rules_in}
use Rattle.fib_form.specs.declared.stories.StoryKind.{StoryKind}
use Rattle.fib_form.specs.declared.stories.StoryKind.TheVariants.{Notes, Heads}
use Rattle.file_rules.specs.Source.{DocSource, story_units, story_places}
use Rattle.file_rules.specs.NoteRules.{HasNoteCuts}
use Rattle.file_rules.specs.HeadRules.{HasHeadCuts}

-- the CP of a story where its last text ends; where it has no texts, its begin
abbrev pub last_text_end : List ℕ → ℕ
last_text_end cuts = slice_index cuts (length cuts - 1)

-- a unit of the story after that CP; a paragraph mark right there is none
pub record IsLooseUnit (story : List ℕ) (end cp : ℕ) : Type 0 where
  pub after : end ≤ cp
  pub within : cp < length story
  pub other : ¬ ((cp ≡ end) × (slice_index story cp ≡ 0x0D))

-- the first of them, at its place in WordDocument
pub record HasLooseUnit (places story : List ℕ) (end place : ℕ) : Type 0 where
  pub cp : ℕ
  pub first : IsLeast (λ a b. a ≤ b) (IsLooseUnit story end) cp
  pub here : place ≡ slice_index places cp

abbrev pub BreaksEnd : DocSource → StoryKind → List ℕ → ℕ → Type 0
BreaksEnd source story cuts = HasLooseUnit (story_places source story) (story_units source story) (last_text_end cuts)

abbrev pub BreaksEnds : DocSource → List ℕ → List ℕ → ℕ → Type 0
BreaksEnds source notes heads place = BreaksEnd source Notes notes place ⊎ BreaksEnd source Heads heads place

abbrev pub rules_of_ends : DocSource → Rules Place
rules_of_ends source =
    given (HasNoteCuts source)
    (λ notes. given (HasHeadCuts source) (λ heads. rules_in stands.Wd (rule 55 (BreaksEnds source notes heads))))
