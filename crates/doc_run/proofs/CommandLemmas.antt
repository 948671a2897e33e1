-- Words are one command.
use Rattle.std.proofs.Common.{◌≡◌, ◌∙◌, sym, ap, ℕ, ◌+◌, ◌*◌, ◌==◌, List, [], ◌∷◌, length, map, get_or, if◌then◌else◌}
use Rattle.std.proofs.Common.{arith}
use Rattle.std.specs.Prelude.{slice_index, slice_index_or}
use Rattle.std.specs.Str.Parse.{digits_value}
use Rattle.document_commands.specs.Tasks.{text_task, check_task, show_task, props_task, outline_task, full_task}
use Rattle.document_commands.specs.Tasks.{title_task, retitle_task, export_task, compare_task, join_task}
use Rattle.doc_run.specs.Commands.{Request, streams, on_document, on_two, edit, from_json, generate, IsCommand}

-- the word that is there
word_at : ℕ → List (List ℕ) → List ℕ
word_at k words = slice_index_or words k []

-- the first two letters of the first word
letters : List (List ℕ) → ℕ
letters words = slice_index (word_at 0 words) 0 * 256 + slice_index (word_at 0 words) 1

-- the only command that the words can be
decoded : List (List ℕ) → Request
decoded words =
    if letters words == 116 * 256 + 101 then on_document text_task (word_at 1 words)
    else if letters words == 99 * 256 + 104 then on_document check_task (word_at 1 words)
    else if letters words == 115 * 256 + 104 then on_document show_task (word_at 1 words)
    else if letters words == 112 * 256 + 114 then
    on_document (props_task (digits_value 10 (word_at 2 words))) (word_at 1 words)
    else if letters words == 111 * 256 + 117 then on_document outline_task (word_at 1 words)
    else if letters words == 102 * 256 + 117 then on_document (full_task (word_at 2 words)) (word_at 1 words)
    else if letters words == 116 * 256 + 105 then on_document title_task (word_at 1 words)
    else if letters words == 114 * 256 + 101 then
    on_document (retitle_task (word_at 2 words) (word_at 3 words)) (word_at 1 words)
    else if letters words == 101 * 256 + 120 then on_document (export_task (word_at 2 words)) (word_at 1 words)
    else if letters words == 105 * 256 + 109 then from_json (word_at 1 words) (word_at 2 words)
    else if letters words == 106 * 256 + 111 then
    on_two (join_task (word_at 3 words)) (word_at 1 words) (word_at 2 words)
    else if letters words == 101 * 256 + 113 then on_two compare_task (word_at 1 words) (word_at 2 words)
    else if letters words == 103 * 256 + 101 then generate (digits_value 10 (word_at 1 words)) (word_at 2 words)
    else if letters words == 101 * 256 + 100 then edit (word_at 1 words) (word_at 2 words) (word_at 3 words)
    else streams (word_at 1 words)

is_decoded : (words : List (List ℕ)) (command : Request) → IsCommand words command → decoded words ≡ command
unfolding word_at letters decoded
is_decoded words (streams file) h = ap decoded h
is_decoded words (on_document text_task file) h = ap decoded h
is_decoded words (on_document check_task file) h = ap decoded h
is_decoded words (on_document show_task file) h = ap decoded h
is_decoded words (on_document (props_task pos) file) h =
    ap decoded h.spelt ∙ ap (λ n. on_document (props_task n) file) (sym h.number.value)
is_decoded words (on_document outline_task file) h = ap decoded h
is_decoded words (on_document (full_task out) file) h = ap decoded h
is_decoded words (on_document title_task file) h = ap decoded h
is_decoded words (on_document (retitle_task title out) file) h = ap decoded h.spelt
is_decoded words (on_document (export_task out) file) h = ap decoded h
is_decoded words (on_two compare_task first second) h = ap decoded h
is_decoded words (on_two (join_task out) first second) h = ap decoded h
is_decoded words (from_json file out) h = ap decoded h
is_decoded words (edit file script out) h = ap decoded h
is_decoded words (generate seed out) h = ap decoded h.spelt ∙ ap (λ n. generate n out) (sym h.number.number.value)

pub command_one : (words : List (List ℕ)) (a b : Request) → IsCommand words a → IsCommand words b → a ≡ b
command_one words a b x y = sym (is_decoded words a x) ∙ is_decoded words b y

-- four words, as they are spelt
pub four_spelt :
    {X Y : Type 0} (spelt : X → Y) (words : List X) (a b c d : X) → length words ≡ 4 → a ≡ get_or words 0 a →
    b ≡ get_or words 1 b → c ≡ get_or words 2 c → d ≡ get_or words 3 d →
    map spelt words ≡ spelt a ∷ spelt b ∷ spelt c ∷ spelt d ∷ []
four_spelt spelt [] a b c d four ea eb ec ed = absurd (omega arith)
four_spelt spelt (w ∷ []) a b c d four ea eb ec ed = absurd (omega arith)
four_spelt spelt (w ∷ x ∷ []) a b c d four ea eb ec ed = absurd (omega arith)
four_spelt spelt (w ∷ x ∷ y ∷ []) a b c d four ea eb ec ed = absurd (omega arith)
four_spelt spelt (w ∷ x ∷ y ∷ z ∷ []) a b c d four ea eb ec ed =
    λ i. spelt (sym ea i) ∷ spelt (sym eb i) ∷ spelt (sym ec i) ∷ spelt (sym ed i) ∷ []
four_spelt spelt (w ∷ x ∷ y ∷ z ∷ v ∷ words) a b c d four ea eb ec ed = absurd (omega arith)
