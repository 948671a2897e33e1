use Rattle.file_mends.proofs.PlaceLemmas.{field_of_rule}
use Rattle.file_mends.proofs.parts.part_of_rule.Goals as goal

pub returns-then-rule-eq-RULE_FIELDS-clause-part : goal.returns-then-rule-eq-RULE_FIELDS-clause-part
returns-then-rule-eq-RULE_FIELDS-clause-part c =
    field_of_rule c.args.wd.now c.args.rule c.args.offset c.field_part.result c.if-rule-eq-RULE_FIELDS.true
    c.field_part.ensures.part
