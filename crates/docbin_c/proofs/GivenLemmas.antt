-- What a name holds among the files of a call.
use Rattle.std.proofs.Common.{◌≡◌, ℕ, Bool, true, false, cond, List, ap, ◌∙◌, refl}
use Rattle.std.specs.Prelude.{Option, Some, None, codes}
use Rattle.std.specs.Ordering.{nat_cmp}
use Rattle.std.specs.Cmp.Lexicographic.{slice_cmp}
use Rattle.std.specs.FinMap.{get-insert, get-empty}
use Rattle.std.specs.Str.{bytes_eq}
use Rattle.std.proofs.lemmas.Cmp.{nat_list_cmp_total}
use Rattle.std.proofs.lemmas.Map.Text.{is_eq-slice_cmp}
use Rattle.std.proofs.lemmas.Slice.Eq.{bytes_eq-Decides}
use Rattle.doc_outer.specs.Held.{Files, file_at, with_file, no_files}
use Rattle.docbin_c.specs.Calls.{file_alone, with_second}

-- one file more: the name is its own, or another
pub with_one : (files : Files) (key bytes name : List ℕ) (same : Bool) → bytes_eq name key ≡ same →
    file_at (with_file files key bytes) name ≡ cond same (Some bytes) (file_at files name)
with_one files key bytes name same is =
    get-insert nat_list_cmp_total files key bytes name
    ∙ ap (λ b. cond b (Some bytes) (file_at files name)) (is_eq-slice_cmp name key ∙ is)

-- a name that is not that of the second file is looked for before it
pub not_second : (second : Option (List ℕ)) (files : Files) (name : List ℕ) → bytes_eq name (codes "second") ≡ false →
    file_at (with_second second files) name ≡ file_at files name
not_second None files name other = refl
not_second (Some bytes) files name other = with_one files (codes "second") bytes name false other

-- the first file
pub first_there : (first : List ℕ) (second : Option (List ℕ)) (name : List ℕ) → bytes_eq name (codes "first") ≡ true →
    bytes_eq name (codes "second") ≡ false → file_at (with_second second (file_alone first)) name ≡ Some first
first_there first second name same other =
    not_second second (file_alone first) name other ∙ with_one no_files (codes "first") first name true same

-- a name that is neither
pub none_there : (first : List ℕ) (second : Option (List ℕ)) (name : List ℕ) → bytes_eq name (codes "first") ≡ false →
    bytes_eq name (codes "second") ≡ false → file_at (with_second second (file_alone first)) name ≡ None
none_there first second name one other =
    not_second second (file_alone first) name other
    ∙ (with_one no_files (codes "first") first name false one ∙ get-empty (slice_cmp nat_cmp) name)

-- a name is not that of both
pub second_only : (name : List ℕ) → bytes_eq name (codes "second") ≡ true → bytes_eq name (codes "first") ≡ false
second_only name same =
    ap (λ n. bytes_eq n (codes "first")) ((bytes_eq-Decides name (codes "second")).0 same)

-- the second file
pub second_there : (first : List ℕ) (second : Option (List ℕ)) (name : List ℕ) → bytes_eq name (codes "second") ≡ true →
    bytes_eq name (codes "first") ≡ false → file_at (with_second second (file_alone first)) name ≡ second
second_there first None name same other =
    with_one no_files (codes "first") first name false other ∙ get-empty (slice_cmp nat_cmp) name
second_there first (Some bytes) name same other = with_one (file_alone first) (codes "second") bytes name true same
