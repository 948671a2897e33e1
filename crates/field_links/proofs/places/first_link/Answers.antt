use Rattle.std.proofs.Common.{None, sym, ◌∙◌}
use Rattle.field_links.specs.OpenFields.{is_link}
use Rattle.field_links.proofs.OpenLemmas.{find-more, find-first}
use Rattle.field_links.proofs.places.first_link.Goals as goal

pub returns-then-is_link : goal.returns-then-is_link
returns-then-is_link c =
    find-first (is_link c.args.begin) c.args.fields.now c.loop-field.field-index (record {
      kind = 0;
      began = 0;
      result
          = None;
    }) c.loop-field-test.true c.loop-field.invariant (sym c.is_link.ensures ∙ c.if-is_link.true)

pub loop-field-preserved : goal.loop-field-preserved
loop-field-preserved c =
    find-more (is_link c.args.begin) c.args.fields.now c.loop-field.field-index (record {
      kind = 0;
      began = 0;
      result
          = None;
    }) c.loop-field-test.true c.loop-field.invariant (sym c.is_link.ensures ∙ c.if-is_link.false)
