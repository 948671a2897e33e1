-- Notes that are listed, one after the other.
use Rattle.std.proofs.Common.{◌≡◌, ◌∙◌, ap, sym, ℕ, ◌+◌, List, [], ◌∷◌, ◌++◌, length, Option, Some, None, slice_get}
use Rattle.std.specs.Prelude.{option_map}
use Rattle.std.specs.Option.{unwrap_or}
use Rattle.std.specs.List.{filter_map}
use Rattle.doc_parts.specs.Tabulated.{tabulate}
use Rattle.doc_losses.proofs.Public.{listed_more}
use Rattle.doc_model.specs.declared.item.NoteKind.{NoteKind}
use Rattle.doc_mends.specs.declared.mends.MadeNote.{MadeNote}
use Rattle.further_notes.specs.declared.sources.NoteSource.{NoteSource}
use Rattle.further_notes.specs.declared.origins.NoteOrigin.{NoteOrigin}
use Rattle.further_notes.specs.Sources.{source_by, source_at, made_by, made_at, origin_at, note_kind_at, notes_before}

-- one item more
pub source_more : (own others : List (Option NoteKind)) (at before more : ℕ) (here : Option NoteKind)
    (list : List NoteSource) → slice_get own at ≡ Some here → before ≡ notes_before own at →
    more ≡ notes_before others at → list ≡ filter_map (λ s. s) (tabulate (source_at own others) at) →
    list ++ filter_map (λ s. s) (source_by here (note_kind_at others at) before more ∷ [])
    ≡ filter_map (λ s. s) (tabulate (source_at own others) (at + 1))
source_more own others at before more here list is before_is more_is list_is =
    let pick : List (Option NoteSource) → List NoteSource = filter_map (λ (o : Option NoteSource). o) in
    let by : Option NoteKind → ℕ → ℕ → Option NoteSource =
    λ kind m n. source_by kind (note_kind_at others at) m n in
    let there : note_kind_at own at ≡ here = ap (λ (o : Option (Option NoteKind)). unwrap_or o None) is in
    let same : by here before more ≡ source_at own others at =
    λ i. by (sym there i) (before_is i) (more_is i) in
    ap (λ (l : List NoteSource). l ++ pick (by here before more ∷ [])) list_is
    ∙ (ap (λ (o : Option NoteSource). pick (tabulate (source_at own others) at) ++ pick (o ∷ [])) same
    ∙ sym (listed_more (source_at own others) at))

-- one note more
pub made_more : (origins : List (Option NoteOrigin)) (note : ℕ) (origin : Option NoteOrigin) (list : List MadeNote) →
    slice_get origins note ≡ Some origin → list ≡ filter_map (λ m. m) (tabulate (made_at origins) note) →
    list ++ filter_map (λ m. m) (option_map (made_by note) origin ∷ [])
    ≡ filter_map (λ m. m) (tabulate (made_at origins) (note + 1))
made_more origins note origin list is list_is =
    let pick : List (Option MadeNote) → List MadeNote = filter_map (λ (o : Option MadeNote). o) in
    let here : option_map (made_by note) origin ≡ made_at origins note =
    sym (ap (λ (o : Option (Option NoteOrigin)). option_map (made_by note) (unwrap_or o None)) is) in
    ap (λ (l : List MadeNote). l ++ pick (option_map (made_by note) origin ∷ [])) list_is
    ∙ (ap (λ (o : Option MadeNote). pick (tabulate (made_at origins) note) ++ pick (o ∷ [])) here
    ∙ sym (listed_more (made_at origins) note))
