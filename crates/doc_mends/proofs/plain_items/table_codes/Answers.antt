use Rattle.std.proofs.Common.{◌∙◌, ap, sym, ℕ, List, ◌++◌, map}
use Rattle.std.specs.Prelude.{filter}
use Rattle.std.specs.FinMap.{entries}
use Rattle.std.proofs.lemmas.List.{append-nil}
use Rattle.sprm_table.specs.Sprm.{Prl}
use Rattle.sprm_table.specs.declared.codes.Code.{Code}
use Rattle.doc_mends.specs.PlainRows.{is_table_code}
use Rattle.doc_mends.proofs.CodeLemmas.{codes_next}
use Rattle.doc_mends.proofs.plain_items.table_codes.Goals as goal

pub loop-entry-init : goal.loop-entry-init
loop-entry-init c =
    ap (λ (l : List Code). map (λ (k : Code). k.0) l ++ filter is_table_code (map (λ (prl : Prl). prl.0)
    c.entries-left.result)) c.new-codes.ensures.items
    ∙ ap (λ (l : List Prl). filter is_table_code (map (λ (prl : Prl). prl.0) l)) c.entries-left.ensures

pub loop-entry-preserved : goal.loop-entry-preserved
loop-entry-preserved c =
    let code : ℕ = c.in-Some.entry.0.0 in
    let value : List ℕ = c.in-Some.entry.1.now in
    let left : List Prl = c.loop-entry.left in
    let next : List Prl = c.next.new.self in
    let front : List ℕ = map (λ (k : Code). k.0) c.loop-entry.codes.items in
    ap (λ (l : List ℕ). l ++ filter is_table_code (map (λ (prl : Prl). prl.0) next)) c.in_ok-add_code.ensures
    ∙ (codes_next front code value next
    ∙ (ap (λ (l : List Prl). front ++ filter is_table_code (map (λ (prl : Prl). prl.0) l)) (sym c.in-Some.ensures)
    ∙ c.loop-entry.invariant))

pub returns : goal.returns
returns c =
    let front : List ℕ = map (λ (k : Code). k.0) c.loop-entry.codes.items in
    sym (append-nil front)
    ∙ (ap (λ (l : List Prl). front ++ filter is_table_code (map (λ (prl : Prl). prl.0) l)) (sym c.in_default.ensures.0)
    ∙ c.loop-entry.invariant)
