use Rattle.std.proofs.Common.{◌≡◌, ◌∙◌, ap, sym, subst, List, length}
use Rattle.std.proofs.lemmas.Bool.{eqb-true}
use Rattle.doc_bits.specs.declared.places.Story.TheVariants.{Main}
use Rattle.doc_model.specs.declared.item.Item.{Item}
use Rattle.doc_mends.specs.declared.mends.BrokenRow.{BrokenRow}
use Rattle.doc_mends.specs.BrokenRows.{text_broken_rows}
use Rattle.doc_mends.specs.PlainRows.{rows_plain}
use Rattle.doc_mends.proofs.RowLemmas.{rows_within}
use Rattle.doc_mends.proofs.TableLemmas.{AreWithin, plain_stays}
use Rattle.doc_mends.proofs.tables.with_rows.Goals as goal
use Rattle.doc_bits.proofs.Public.{nil_from_length}

pub returns-then-is_empty : goal.returns-then-is_empty
returns-then-is_empty c =
    let rows : List BrokenRow = c.args.rows.now in
    let none : length rows ≡ 0 = eqb-true (length rows) 0 (sym c.is_empty.ensures ∙ c.if-is_empty.true) in
    sym (plain_stays Main c.args.text (sym c.requires ∙ nil_from_length rows none))

pub make_rows-requires : goal.make_rows-requires
make_rows-requires c =
    let rows : List BrokenRow = c.args.rows.now in
    subst (AreWithin rows) (ap length (sym c.in_ok-items.ensures))
    (subst (λ (l : List BrokenRow). AreWithin l (length c.args.text)) (sym c.requires) (rows_within Main c.args.text))

pub returns : goal.returns
returns c =
    c.in_ok-made.ensures
    ∙ (c.as_slice.ensures.items
    ∙ (c.in_ok-make_rows.ensures
    ∙ (ap (λ (l : List BrokenRow). rows_plain l c.in_ok-items.items) c.requires
    ∙ ap (λ (t : List Item). rows_plain (text_broken_rows Main c.args.text) t) c.in_ok-items.ensures)))
