-- The CPs that cut a story: a part of the right length breaks its rule as its table does.
use Rattle.std.proofs.Common.{◌≡◌, inl, inr, ℕ, ◌+◌, ◌-◌, ◌*◌, ◌/◌, ◌%◌, ◌≤◌, List, length, Option, arith}
use Rattle.std.specs.Prelude.{IsTrue, ◌==◌}
use Rattle.std.proofs.lemmas.Bool.{eqb-true, eq-eqb}
use Rattle.doc_bits.specs.Rules.{LeastOrNone}
use Rattle.doc_bits.proofs.Public.{least_same}
use Rattle.doc_parts.specs.Table.{plc_part, IsEmptyOrWhole, BreaksTable}
use Rattle.doc_parts.specs.Stories.{cut_form, cut_cps}
use Rattle.file_rules.specs.TextCuts.{BreaksCuts}
use Rattle.fib_form.specs.declared.table_parts.TablePart.TheVariants.{PlcffndRef, PlcffndTxt}
use Rattle.fib_form.specs.declared.stories.StoryKind.TheVariants.{Notes}
use Rattle.file_rules.specs.Source.{DocSource, table_part_bytes, part_place, story_length}
use Rattle.file_rules.specs.HeadRules.{IsHeadTable}
use Rattle.file_rules.specs.NoteRules.{ref_count, HasEntries, BreaksNoteCuts}

-- a part of the right length
pub cuts_judged : (formed : Type 0) (bytes : List ℕ) (story_len at : ℕ) (found : Option ℕ) → formed →
    IsEmptyOrWhole (plc_part 0 bytes) → LeastOrNone (BreaksTable cut_form (cut_cps story_len) bytes at) found →
    LeastOrNone (BreaksCuts formed bytes story_len at) found
cuts_judged formed bytes story_len at found is whole h =
    least_same (BreaksTable cut_form (cut_cps story_len) bytes at) (BreaksCuts formed bytes story_len at) found
    (λ p w. elim w [ inl x ↦ absurd (x.1 whole) | inr y ↦ inr y ])
    (λ p w. elim w [ inl x ↦ absurd (x.1 is) | inr y ↦ inr y ])
    h

-- two ways to say what length it has to have
pub cuts_same : (F G : Type 0) (bytes : List ℕ) (story_len at : ℕ) (found : Option ℕ) → (F → G) → (G → F) →
    LeastOrNone (BreaksCuts F bytes story_len at) found → LeastOrNone (BreaksCuts G bytes story_len at) found
cuts_same F G bytes story_len at found to from h =
    least_same (BreaksCuts F bytes story_len at) (BreaksCuts G bytes story_len at) found
    (λ p w. elim w [ inl x ↦ inl (x.0, λ g. x.1 (from g)) | inr y ↦ inr y ])
    (λ p w. elim w [ inl x ↦ inl (x.0, λ f. x.1 (to f)) | inr y ↦ inr y ])
    h

-- a part of four bytes a CP, with one CP at least, is a whole table
pub whole_cuts : (bytes : List ℕ) (count : ℕ) → 1 ≤ count → length bytes ≡ 4 * count → IsEmptyOrWhole (plc_part 0 bytes)
whole_cuts bytes count some len = inr (omega arith)

-- the length of PlcfHdd
pub head_table : (len sections : ℕ) → 8 ≤ len → len % 4 ≡ 0 → len / 4 - 2 ≤ 6 + 6 * sections → IsHeadTable len sections
head_table len sections some even most = inr (record { texts = len / 4 - 2; most = most; cps = omega arith })

pub head_texts : (len sections : ℕ) → 8 ≤ len → IsHeadTable len sections → len / 4 - 2 ≤ 6 + 6 * sections
head_texts len sections some (inl none) = absurd (omega arith)
head_texts len sections some (inr w) = let most = w.most in let cps = w.cps in omega arith

pub whole_heads : (bytes : List ℕ) (sections : ℕ) → IsHeadTable (length bytes) sections →
    IsEmptyOrWhole (plc_part 0 bytes)
whole_heads bytes sections (inl none) = inl none
whole_heads bytes sections (inr w) = whole_cuts bytes (w.texts + 2) (omega arith) w.cps

-- PlcffndTxt, where there are references
pub note_cuts_judged : (source : DocSource) (count : ℕ) (found : Option ℕ) → HasEntries (table_part_bytes source
    PlcffndRef) → count ≡ ref_count (table_part_bytes source PlcffndRef) →
    LeastOrNone (BreaksCuts (IsTrue (length (table_part_bytes source PlcffndTxt) == 4 * (count + 2))) (table_part_bytes
    source
    PlcffndTxt) (story_length source Notes) (part_place source PlcffndTxt)) found → LeastOrNone (BreaksNoteCuts
    source) found
note_cuts_judged source count found entries same h =
    let cuts = table_part_bytes source PlcffndTxt in
    let len = length cuts in
    let refs = ref_count (table_part_bytes source PlcffndRef) in
    let breaks = BreaksCuts (len ≡ 4 * (refs + 2)) cuts (story_length source Notes) (part_place source PlcffndTxt) in
    least_same breaks (BreaksNoteCuts source) found (λ p b. (entries, b)) (λ p w. w.1)
    (cuts_same (IsTrue (len == 4 * (count + 2))) (len ≡ 4 * (refs + 2)) cuts (story_length source Notes)
    (part_place source PlcffndTxt) found
    (λ e. let is = eqb-true len (4 * (count + 2)) e in omega arith) (λ is. eq-eqb len (4 * (count + 2)) (omega arith))
    h)
