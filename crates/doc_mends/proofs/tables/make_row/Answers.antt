use Rattle.std.proofs.Common.{◌≡◌, ◌∙◌, ◌+◌, ap, sym, arith, length, ℕ, List}
use Rattle.doc_model.specs.declared.item.Item.{Item}
use Rattle.doc_patch.specs.Changes.{changed_at, map_range}
use Rattle.doc_mends.specs.PlainRows.{plain_item}
use Rattle.doc_mends.proofs.TableLemmas.{none_changed, range_next, range_length, set_changed}
use Rattle.doc_mends.proofs.tables.make_row.Goals as goal

pub loop-at-init : goal.loop-at-init
loop-at-init c = record {
  items = sym (none_changed plain_item c.args.items.now c.args.row.from);
  after = omega arith;
}

pub item_in-requires : goal.item_in-requires
item_in-requires c =
    let items : List Item = c.args.items.now in
    let from = c.args.row.from in
    let at = c.loop-at.at in
    let len : length c.loop-at.items ≡ length items =
    ap length c.loop-at.invariant.items
    ∙ range_length plain_item items from at c.loop-at.invariant.after (omega (arith, c.requires, c.loop-at-test.true)) in
    omega (arith, len, c.requires, c.loop-at-test.true)

pub replace-requires-clause-within : goal.replace-requires-clause-within
replace-requires-clause-within c =
    let items : List Item = c.args.items.now in
    let from = c.args.row.from in
    let at = c.loop-at.at in
    let len : length c.loop-at.items ≡ length items =
    ap length c.loop-at.invariant.items
    ∙ range_length plain_item items from at c.loop-at.invariant.after (omega (arith, c.requires, c.loop-at-test.true)) in
    omega (arith, len, c.requires, c.loop-at-test.true)

pub loop-at-preserved : goal.loop-at-preserved
loop-at-preserved c =
    let items : List Item = c.args.items.now in
    let from = c.args.row.from in
    let at = c.loop-at.at in
    let after = c.loop-at.invariant.after in
    record {
      items = c.replace.ensures.new
          ∙ (set_changed plain_item c.loop-at.items at c.in_ok-made.made c.in_ok-made.ensures.item
          ∙ (ap (λ (l : List Item). changed_at l at plain_item) c.loop-at.invariant.items
          ∙ range_next plain_item items from at after (omega (arith, c.requires, c.loop-at-test.true))));
      after = omega (arith, after);
    }

pub returns : goal.returns
returns c =
    let items : List Item = c.args.items.now in
    let row = c.args.row in
    let all : c.loop-at.at ≡ row.from + row.len = omega (arith, c.loop-at-test.false, c.loop-at.auto.at-end) in
    c.loop-at.invariant.items ∙ ap (λ (n : ℕ). map_range plain_item items row.from n) all
