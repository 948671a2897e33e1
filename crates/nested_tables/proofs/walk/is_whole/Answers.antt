-- The paragraphs, one by one.
use Rattle.std.proofs.Common.{◌∙◌, ◌+◌, Bool, sym, ap, arith, drop}
use Rattle.nested_tables.specs.Tables.{is_whole_table}
use Rattle.nested_tables.proofs.TableLemmas.{whole_end, whole_step, whole_stop}
use Rattle.nested_tables.proofs.walk.is_whole.Goals as goal

pub returns-then-not-is_within : goal.returns-then-not-is_within
returns-then-not-is_within c =
    let old = c.loop-number in
    sym (old.invariant ∙ whole_stop c.args.depth old.last c.args.paragraphs.now old.number c.depth_at-one.result
    c.depth_at-one.ensures (sym c.is_within.ensures ∙ c.if-not-is_within.true))

pub loop-number-preserved : goal.loop-number-preserved
loop-number-preserved c =
    let old = c.loop-number in
    let paragraphs = c.args.paragraphs.now in
    old.invariant
    ∙ whole_step c.args.depth old.last paragraphs old.number c.depth_at-one.result c.depth_at-one.ensures (sym
    c.is_within.ensures ∙ c.if-not-is_within.false)
    ∙ ap (λ (b : Bool). is_whole_table c.args.depth b (drop (old.number + 1) paragraphs)) (sym
    c.is_row_end-last.ensures)

pub returns : goal.returns
returns c =
    let old = c.loop-number in
    sym (old.invariant ∙ whole_end c.args.depth old.last c.args.paragraphs.now old.number (omega arith))
