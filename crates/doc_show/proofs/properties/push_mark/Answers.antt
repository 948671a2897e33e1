use Rattle.std.proofs.Common.{codes}
use Rattle.doc_show.specs.Properties.{properties_line, tabs_line}
use Rattle.doc_show.proofs.LineLemmas.{three_written}
use Rattle.doc_show.proofs.properties.push_mark.Goals as goal

pub returns : goal.returns
returns c =
    three_written c.push_tabs.result c.args.text.now c.push_map.new.text c.push_map-2.new.text c.push_tabs.new.text
    (properties_line (codes "par") c.args.mark.now.pap) (properties_line (codes "par effective") c.args.effect.now.map)
    (tabs_line c.args.effect.now.tabs)
    c.in_ok-push_map.ensures c.in_ok-push_map-2.ensures c.push_tabs.ensures
