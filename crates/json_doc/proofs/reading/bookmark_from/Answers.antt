use Rattle.std.proofs.Common.{arith, sym, subst}
use Rattle.serde_json.specs.Data.{Items}
use Rattle.edit_script.specs.Json.{GivesReading}
use Rattle.json_doc.specs.DocumentReading.{bookmark_of_items}
use Rattle.json_doc.proofs.MarkLemmas.{not_four, four_values}
use Rattle.json_doc.proofs.reading.bookmark_from.Goals as goal

pub returns-in-empty : goal.returns-in-empty
returns-in-empty c = not_four c.args.values.now (λ four. omega (arith, four, c.in-empty.len_below))

pub returns-in-len4 : goal.returns-in-len4
returns-in-len4 c =
    subst (λ (items : Items). GivesReading c.bookmark_of_four.result (bookmark_of_items items))
    (sym (four_values c.args.values.now c.name-item.result c.from-item.result c.to-item.result c.flags-item.result
    (omega (arith, c.in-len4.len_below, c.in-len4.len_at_least)) c.name-item.is c.from-item.is c.to-item.is c.flags-item.is)) c.bookmark_of_four.ensures

pub returns-in-len5-up : goal.returns-in-len5-up
returns-in-len5-up c = not_four c.args.values.now (λ four. omega (arith, four, c.in-len5-up.len_at_least))
