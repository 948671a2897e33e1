-- Rule 53: the references to the notes, and the CPs that cut the notes' story into its texts.
use Rattle.std.specs.Prelude.{◌≡◌, ◌⊎◌, ℕ, ◌+◌, ◌*◌, ◌<◌, List, [], length}
use Rattle.doc_bits.specs.declared.places.Where.TheVariants as stands
use Rattle.doc_bits.specs.Rules.{Rules, rule}
use Rattle.doc_bits.specs.Places.{Place, rules_in}
use Rattle.doc_parts.specs.declared.lists.NoteRef.{NoteRef}
use Rattle.doc_parts.specs.Table.{plc_part, IsWholePlc, BreaksTable}
use Rattle.doc_parts.specs.Stories.{ref_form, ref_cps, AreRefs, AreCuts}
use Rattle.fib_form.specs.declared.table_parts.TablePart.TheVariants.{PlcffndRef, PlcffndTxt}
use Rattle.fib_form.specs.declared.stories.StoryKind.TheVariants.{Main, Notes}
use Rattle.file_rules.specs.Source.{DocSource, part_place, table_part_bytes, story_length}
use Rattle.file_rules.specs.TextCuts.{BreaksCuts}

-- the number of entries of PlcffndRef
abbrev pub ref_count : List ℕ → ℕ
ref_count refs = (plc_part 2 refs).count

-- PlcffndRef has its length, and an entry at least
abbrev pub HasEntries : List ℕ → Type 0
HasEntries refs = IsWholePlc (plc_part 2 refs) × (0 < ref_count refs)

-- the references break the rule
abbrev pub BreaksRefs : DocSource → ℕ → Type 0
BreaksRefs source =
    BreaksTable ref_form (ref_cps (story_length source Main)) (table_part_bytes source PlcffndRef)
    (part_place source PlcffndRef)

-- where there are n references PlcffndTxt has n + 2 CPs. Profile: else it is not looked at
abbrev pub BreaksNoteCuts : DocSource → ℕ → Type 0
BreaksNoteCuts source place =
    let refs = table_part_bytes source PlcffndRef in
    let cuts = table_part_bytes source PlcffndTxt in
    HasEntries refs
    × BreaksCuts (length cuts ≡ 4 * (ref_count refs + 2)) cuts (story_length source Notes)
    (part_place source PlcffndTxt) place

abbrev pub rules_of_notes : DocSource → Rules Place
rules_of_notes source = rules_in stands.Table (rule 53 (λ place. BreaksRefs source place ⊎ BreaksNoteCuts source place))

-- the references of a document
abbrev pub HasRefs : DocSource → List NoteRef → Type 0
HasRefs source = AreRefs (table_part_bytes source PlcffndRef) (story_length source Main)

-- the CPs that cut its notes: text k is from the one to the next. Without references there are none
abbrev pub HasNoteCuts : DocSource → List ℕ → Type 0
HasNoteCuts source list =
    (HasEntries (table_part_bytes source PlcffndRef)
    × AreCuts (table_part_bytes source PlcffndTxt) (story_length source Notes) list)
    ⊎ ((¬ (HasEntries (table_part_bytes source PlcffndRef))) × (list ≡ []))
