-- The sections that end in a text, run by run.
use Rattle.std.proofs.Common.{◌≡◌, ◌∙◌, refl, sym, ap, ℕ, ◌+◌, ◌≤◌, List, [], ◌∷◌, Bool, map, take, arith}
use Rattle.std.specs.Prelude.{cond, is_some, replicate}
use Rattle.std.specs.List.{count_by, sum_by}
use Rattle.std.proofs.lemmas.List.Sums.{count_by-le-length, sum_by-append, sum_by-cons}
use Rattle.run_lists.specs.declared.runs.Run.{Run}
use Rattle.run_lists.specs.Spread.{expanded, total_len}
use Rattle.run_lists.proofs.Public.{spread-nil, spread-cons, length-spread, extent-take}
use Rattle.doc_model.specs.declared.item.Item.{Item}
use Rattle.plain_doc.specs.RulesOfSheet.{section_count}
use Rattle.doc_columns.specs.declared.attached.Attached.{Attached}
use Rattle.doc_columns.specs.Attached.{attached_of}

-- a section ends there
abbrev pub ends_section : Attached → Bool
ends_section attached = is_some attached.sect

-- the sections that end in a run
abbrev pub run_ends : Run Attached → ℕ
run_ends run = count_by ends_section (replicate run.count run.value)

-- the ends in the list are those in its runs
pub ends_in_spread : (runs : List (Run Attached)) → count_by ends_section (expanded runs) ≡ sum_by run_ends runs
ends_in_spread [] = ap (count_by ends_section) (spread-nil Attached)
ends_in_spread (run ∷ runs) =
    ap (count_by ends_section) (spread-cons run runs)
    ∙ (sum_by-append (λ (b : Attached). cond (ends_section b) 1 0) (replicate run.count run.value) (expanded runs)
    ∙ (ap (λ (n : ℕ). run_ends run + n) (ends_in_spread runs) ∙ sym (sum_by-cons run_ends run runs)))

-- no more sections end than there are entries
pub ends_within : (runs : List (Run Attached)) → sum_by run_ends runs ≤ total_len runs
ends_within runs =
    omega (arith, ends_in_spread runs, count_by-le-length ends_section (expanded runs), length-spread runs)

-- the same of a front
pub front_within : (runs : List (Run Attached)) (k : ℕ) → sum_by run_ends (take k runs) ≤ total_len runs
front_within runs k = omega (arith, ends_within (take k runs), extent-take runs k)

-- the sections of a text end beside its items
pub ends_attached : (main : List Item) → count_by ends_section (map attached_of main) ≡ section_count main
ends_attached [] = refl
ends_attached (item ∷ items) =
    sum_by-cons (λ (b : Attached). cond (ends_section b) 1 0) (attached_of item) (map attached_of items)
    ∙ (ap (λ (n : ℕ). cond (is_some item.sect) 1 0 + n) (ends_attached items)
    ∙ sym (sum_by-cons (λ (i : Item). cond (is_some i.sect) 1 0) item items))
