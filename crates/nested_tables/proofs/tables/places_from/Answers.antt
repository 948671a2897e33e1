-- The paragraphs, one by one.
use Rattle.std.proofs.Common.{◌∙◌, ◌≤◌, ℕ, ◌+◌, ◌++◌, List, Option, sym, ap, subst, arith}
use Rattle.std.proofs.Common.{append-nil, drop}
use Rattle.nested_tables.specs.declared.walk.NestedPlace.{NestedPlace}
use Rattle.nested_tables.specs.declared.walk.Walk.{Walk}
use Rattle.nested_tables.specs.Tables.{ends_row, is_whole_table, reaches_depth}
use Rattle.nested_tables.proofs.TableLemmas.{cell_few, known_by, places_end, places_on, places_start, whole_step}
use Rattle.nested_tables.proofs.tables.places_from.Goals as goal

pub loop-number-init : goal.loop-number-init
loop-number-init c = record {
  at = places_start c.args.depth c.args.paragraphs.now c.new-places.result c.new-walk.result c.new-places.ensures
      c.new-walk.ensures;
  count = ap (λ (w : Walk). w.number) c.new-walk.ensures;
  cell = subst (λ (w : Walk). w.cell ≤ 0) (sym c.new-walk.ensures) (omega arith);
  known = λ whole here. absurd (cc (here));
}

pub whole_at-whole-requires-clause-known : goal.whole_at-whole-requires-clause-known
whole_at-whole-requires-clause-known c = λ whole within here.
    let known = c.loop-number.invariant.known whole here in
    known.1 ∙ whole_step c.args.depth known.0 c.args.paragraphs.now c.loop-number.number c.depth_at-one.result
    c.depth_at-one.ensures within

pub loop-number-preserved : goal.loop-number-preserved
loop-number-preserved c =
    let old = c.loop-number in
    let k = old.number in
    let all = c.args.paragraphs.now in
    let depth = c.args.depth in
    let one = c.depth_at-one.result in
    let there = c.depth_at-one.ensures in
    let whole = c.whole_at-whole.result in
    let whole_is = c.whole_at-whole.ensures in
    let few = cell_few depth old.walk one in
    let cell = old.invariant.cell in
    record {
      at = places_on depth all old.places c.push.new.self old.walk c.behind-walk.result k one whole c.place-found.result
          there old.invariant.at whole_is c.place-found.ensures c.in_ok-push.ensures c.behind-walk.ensures;
      count = ap (λ (w : Walk). w.number) c.behind-walk.ensures ∙ ap (λ (n : ℕ). n + 1) old.invariant.count;
      cell = subst (λ (w : Walk). w.cell ≤ k + 1) (sym c.behind-walk.ensures) (omega (arith, few, cell));
      known = λ value here. (
        ends_row depth one,
        known_by (reaches_depth depth one) (is_whole_table depth (ends_row depth one) (drop (k + 1) all))
            value whole whole_is here,
      );
    }

pub returns : goal.returns
returns c =
    let last = c.loop-number in
    let at = last.invariant.at in
    sym (append-nil last.places)
    ∙ ap (λ (rest : List (Option NestedPlace)). last.places ++ rest) (sym (places_end c.args.depth at.before
    c.args.paragraphs.now last.number (omega arith))) ∙ at.whole
