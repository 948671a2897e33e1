-- How many marks a text has, by what is beside its items.
use Rattle.std.proofs.Common.{◌≡◌, ◌∙◌, ℕ, ◌+◌, ◌<◌, ◌≤◌, ap, sym, List, [], ◌∷◌, ◌++◌, length, map, cond}
use Rattle.std.proofs.Common.{take, get_or, replicate, arith}
use Rattle.std.specs.Prelude.{is_some}
use Rattle.std.proofs.lemmas.List.{take_more}
use Rattle.std.proofs.lemmas.List.Sums.{sum_by-append, count_by-le-length}
use Rattle.doc_parts.proofs.Public.{sum_by-of_map}
use Rattle.run_lists.specs.declared.runs.Run.{Run}
use Rattle.run_lists.specs.Spread.{expanded, total_len}
use Rattle.run_lists.proofs.Public.{spread-nil, spread_push, length-spread, extent-take}
use Rattle.doc_model.specs.declared.item.Item.{Item}
use Rattle.doc_columns.specs.declared.attached.Attached.{Attached}
use Rattle.doc_columns.specs.Attached.{attached_of}
use Rattle.script_run.specs.GeneratedRuns.{mark_count, marks_beside}

pub marks-map : (text : List Item) → marks_beside (map attached_of text) ≡ mark_count text
marks-map text = sum_by-of_map (λ (b : Attached). cond (is_some b.mark) 1 0) attached_of text

-- no runs have none
pub marks_none : marks_beside (expanded {T = Attached} (take 0 [])) ≡ 0
marks_none = ap marks_beside (spread-nil Attached)

-- a run more
pub marks_more : (runs : List (Run Attached)) (k : ℕ) (run : Run Attached) → k < length runs → run ≡ get_or runs k run →
    marks_beside (expanded (take (k + 1) runs))
    ≡ marks_beside (expanded (take k runs)) + marks_beside (replicate run.count run.value)
marks_more runs k run within is =
    ap (λ (more : List (Run Attached)). marks_beside (expanded more)) (take_more runs k run within
    ∙ ap (λ (r : Run Attached). take k runs ++ r ∷ []) (sym is))
    ∙ ap marks_beside (spread_push (take k runs) run)
    ∙ sum_by-append (λ (b : Attached). cond (is_some b.mark) 1 0) (expanded (take k runs)) (replicate run.count
    run.value)

-- there are no more than items
pub marks_within : (runs : List (Run Attached)) (k : ℕ) → marks_beside (expanded (take k runs)) ≤ total_len runs
marks_within runs k =
    let few = count_by-le-length (λ (b : Attached). is_some b.mark) (expanded (take k runs)) in
    omega (arith, few, length-spread (take k runs), extent-take runs k)
