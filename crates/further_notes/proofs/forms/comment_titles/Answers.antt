use Rattle.std.proofs.Common.{◌≡◌, ◌∙◌, ap, sym, arith, ℕ, ◌+◌, List, [], ◌∷◌, ◌++◌, length}
use Rattle.std.proofs.lemmas.List.{length-append}
use Rattle.doc_bits.specs.Plc.{plc_entry}
use Rattle.doc_parts.specs.Table.{plc_part}
use Rattle.doc_parts.specs.Tabulated.{tabulate}
use Rattle.doc_parts.proofs.Public.{tabulate-next}
use Rattle.doc_model.specs.declared.item.Item.{Item}
use Rattle.further_notes.specs.Forms.{initials_items}
use Rattle.further_notes.proofs.forms.comment_titles.Goals as goal

pub loop-k-init : goal.loop-k-init
unfolding tabulate
loop-k-init c = record { titles = c.new-titles.ensures; few = ap length c.new-titles.ensures }

pub loop-k-preserved : goal.loop-k-preserved
loop-k-preserved c =
    let plc : List ℕ = c.args.plc.now in
    let k = c.loop-k.k in
    let titles : List (List Item) = c.loop-k.titles in
    let title_at : ℕ → List Item = λ n. initials_items (plc_entry (plc_part 30 plc) n) in
    let entry : c.entry_at.result.now ≡ plc_entry (plc_part 30 plc) k =
    c.entry_at.ensures.entry
    ∙ ap (λ (n : ℕ). plc_entry (record { bytes = plc; size = 30; count = n }) k) c.comment_count-count.ensures.count in
    let title : c.in_ok-title.title ≡ title_at k = c.in_ok-title.ensures ∙ ap initials_items entry in
    let one = ap length c.in_ok-add.ensures.ok in
    let more = length-append titles (c.in_ok-title.title ∷ []) in
    record {
      titles = c.in_ok-add.ensures.ok
          ∙ (ap (λ (l : List (List Item)). l ++ c.in_ok-title.title ∷ []) c.loop-k.invariant.titles
          ∙ (ap (λ (t : List Item). tabulate title_at k ++ t ∷ []) title ∙ sym (tabulate-next title_at k)));
      few = omega (arith, one, more, c.loop-k.invariant.few);
    }
