-- On facts that hold wherever the files are known, and on names that stay.
use Rattle.std.proofs.Common.{◌≡◌, refl, ℕ, List, cond, false, ap, ◌∙◌}
use Rattle.std.specs.Prelude.{Option, Some, None}
use Rattle.std.specs.Ordering.{nat_cmp, eq_by_cmp}
use Rattle.std.specs.Cmp.Lexicographic.{slice_cmp}
use Rattle.std.specs.FinMap.{get-insert}
use Rattle.std.specs.Str.{bytes_eq}
use Rattle.std.proofs.lemmas.Bool.{false_from_ne_true}
use Rattle.std.proofs.lemmas.Cmp.{nat_list_cmp_total}
use Rattle.std.proofs.lemmas.Map.Text.{is_eq-slice_cmp}
use Rattle.std.proofs.lemmas.Slice.Eq.{bytes_eq-Decides}
use Rattle.doc_outer.specs.Held.{Files, Told, StaysAt, OthersStay, file_at, with_file}

-- a name stays where the whole shelf does
pub StaysAt-refl : (name : List ℕ) (held : Option Files) → StaysAt name held held
StaysAt-refl name None = tt
StaysAt-refl name (Some files) = refl

-- a put changes no other name
pub OthersStay-with_file : (files : Files) (name bytes : List ℕ) → OthersStay name (Some files)
    (Some (with_file files name bytes))
OthersStay-with_file files name bytes other apart =
    let differs : eq_by_cmp (slice_cmp nat_cmp) other name ≡ false =
    is_eq-slice_cmp other name ∙ false_from_ne_true (bytes_eq other name) (λ same. apart ((bytes_eq-Decides other
    name).0 same)) in
    get-insert nat_list_cmp_total files name bytes other ∙ ap (λ b. cond b (Some bytes) (file_at files other)) differs

-- what follows from a fact
pub Told-map : (held : Option Files) (name : List ℕ) (P Q : Option (List ℕ) → Type 0) → ((there : Option (List ℕ)) →
    P there → Q there) → Told held name P → Told held name Q
Told-map None name P Q step p = tt
Told-map (Some files) name P Q step p = step (file_at files name) p

-- what follows from two facts
pub Told-both : (held : Option Files) (name : List ℕ) (P Q R : Option (List ℕ) → Type 0) →
    ((there : Option (List ℕ)) → P there → Q there → R there) → Told held name P → Told held name Q → Told held name R
Told-both None name P Q R step p q = tt
Told-both (Some files) name P Q R step p q = step (file_at files name) p q
