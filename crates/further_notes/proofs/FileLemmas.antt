-- The streams of the file of a story, and the references that are put behind.
use Rattle.std.proofs.Common.{◌≡◌, ◌∙◌, ap, ℕ, ◌+◌, List, [], ◌∷◌, ◌++◌, map}
use Rattle.std.proofs.lemmas.List.{map-append}
use Rattle.cfb_streams.specs.Contents.{NamedBytes}
use Rattle.doc_parts.specs.Tabulated.{tabulate}
use Rattle.doc_parts.proofs.Public.{tabulate-next}
use Rattle.doc_mends.specs.declared.mends.NoteStory.{NoteStory}
use Rattle.further_notes.specs.NoteFiles.{ref_field, refs_behind, note_table, note_wd, note_streams, two_streams}

-- the longer table stream
pub table_is : (story : NoteStory) (fib wd table refs longer : List ℕ) → fib ≡ wd →
    refs ≡ refs_behind story fib table → longer ≡ table ++ refs → longer ≡ note_table story wd table
table_is story fib wd table refs longer same refs_are longer_is =
    longer_is
    ∙ ap (λ (r : List ℕ). table ++ r) (refs_are ∙ ap (λ (w : List ℕ). refs_behind story w table) same)

pub streams_are : (story : NoteStory) (fib wd table longer changed : List ℕ) (field : ℕ × ℕ)
    (streams : List NamedBytes) → fib ≡ wd → longer ≡ note_table story wd table →
    field ≡ ref_field story fib table → changed ≡ note_wd story wd field → streams ≡ two_streams fib changed longer →
    streams ≡ note_streams story wd table
streams_are story fib wd table longer changed field streams same longer_is field_is changed_is are =
    let field_there : field ≡ ref_field story wd table =
    field_is ∙ ap (λ (w : List ℕ). ref_field story w table) same in
    let changed_there : changed ≡ note_wd story wd (ref_field story wd table) =
    changed_is ∙ ap (note_wd story wd) field_there in
    are ∙ (λ i. two_streams (same i) (changed_there i) (longer_is i))

-- one entry more
pub mapped_more : {A B : Type 0} (g : A → B) (f : ℕ → A) (n : ℕ) →
    map g (tabulate f (n + 1)) ≡ map g (tabulate f n) ++ g (f n) ∷ []
mapped_more g f n = ap (map g) (tabulate-next f n) ∙ map-append g (tabulate f n) (f n ∷ [])
