use Rattle.std.proofs.Common.{◌≡◌, ◌∙◌, ap, sym, arith, length, ℕ, List, [], ◌∷◌, ◌++◌, append_assoc, Option}
use Rattle.std.specs.Prelude.{None}
use Rattle.std.specs.List.{filter_map}
use Rattle.doc_parts.specs.Tabulated.{tabulate}
use Rattle.doc_losses.proofs.Public.{listed_more}
use Rattle.doc_mends.specs.declared.mends.BrokenRow.{BrokenRow}
use Rattle.doc_mends.specs.BrokenRows.{broken_row, broken_row_at}
use Rattle.doc_mends.proofs.RowLemmas.{found_last}
use Rattle.doc_mends.proofs.rows.add_text.Goals as goal

pub broken_at_end-requires : goal.broken_at_end-requires
broken_at_end-requires c = omega (arith, c.in_ok-left.ensures.left.within, c.len.ensures.len)

pub returns : goal.returns
returns c =
    let text = c.args.text.now in
    let story = c.args.story in
    let row = c.in_ok-left.left in
    let front : List BrokenRow = c.args.list.now.items in
    let f : ℕ → Option BrokenRow = broken_row_at story text in
    let pick : List (Option BrokenRow) → List BrokenRow = filter_map (λ (o : Option BrokenRow). o) in
    let found : c.broken_at_end.result ≡ f (length text) =
    c.broken_at_end.ensures
    ∙ (ap (λ (n : ℕ). broken_row story n row.len row.cells None) c.len.ensures.len
    ∙ found_last story text row c.in_ok-left.ensures.left) in
    c.in_ok-add_found.ensures
    ∙ (ap (λ (l : List BrokenRow). l ++ pick (c.broken_at_end.result ∷ [])) c.in_ok-left.ensures.rows
    ∙ (append_assoc front (pick (tabulate f (length text))) (pick (c.broken_at_end.result ∷ []))
    ∙ (ap (λ (o : Option BrokenRow). front ++ (pick (tabulate f (length text)) ++ pick (o ∷ []))) found
    ∙ ap (λ (l : List BrokenRow). front ++ l) (sym (listed_more f (length text))))))
