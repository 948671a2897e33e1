use Rattle.std.proofs.Common.{◌≡◌, ◌∙◌, ap, subst, List, ℕ, arith}
use Rattle.cfb_streams.specs.Names.{table_name}
use Rattle.cfb_streams.specs.Contents.{HasNamed}
use Rattle.fib_form.specs.FibFields.{FibFields, listed_pair}
use Rattle.file_rules.specs.FileRules.{table_stream_name}
use Rattle.fast_save.specs.Started.{IsReadFile, written_places}
use Rattle.fast_save.proofs.OpenLemmas.{named_short, sections_are, sections_hold, no_part_fault}
use Rattle.fast_save.proofs.parts.section_places.Goals as goal
use Rattle.cfb_in_place.proofs.Public.{ok_more}

pub part_of-plc-requires : goal.part_of-plc-requires
part_of-plc-requires c =
    let short =
    named_short c.args.container.now c.args.fib.now c.requires c.table_name.result.now
    c.required_stream-table.result.now
    c.required_stream-table.ensures in
    omega (arith, short)

pub returns-in-Ok : goal.returns-in-Ok
returns-in-Ok c =
    let contents = c.args.container.now in
    let fib = c.args.fib.now in
    let table = c.required_stream-table.result.now in
    ok_more c.places_of.result (λ places. places.items ≡ written_places c.in-Ok.seds)
    (λ places. (file : IsReadFile contents fib) → places.items ≡ written_places file.parts.lists.sections)
    (λ places is file.
    let name : c.table_name.result.now ≡ table_stream_name file.parts.text.wd =
    c.table_name.ensures ∙ ap table_name (c.which_table.ensures.value ∙ ap (λ (f : FibFields). f.which_table)
    file.fib_is) in
    let required_stream : HasNamed contents.streams (table_stream_name file.parts.text.wd) table =
    subst (λ (n : List ℕ). HasNamed contents.streams n table) name c.required_stream-table.ensures in
    let same : c.in-Ok.seds ≡ file.parts.lists.sections =
    sections_are contents fib file table c.part_of-plc.result.now c.pair-pair.result c.ccp.result c.in-Ok.seds
    required_stream
    (c.pair-pair.ensures ∙ ap (listed_pair fib.pairs) c.pair.ensures.number) c.part_of-plc.ensures.bytes
    c.ccp.ensures.value
    c.in-Ok.ensures.1 in
    is ∙ ap written_places same)
    c.places_of.ensures

pub unreachable-requires : goal.unreachable-requires
unreachable-requires c =
    let fib = c.args.fib.now in
    let file = c.requires in
    let table = c.required_stream-table.result.now in
    let name : c.table_name.result.now ≡ table_stream_name file.parts.text.wd =
    c.table_name.ensures ∙ ap table_name (c.which_table.ensures.value ∙ ap (λ (f : FibFields). f.which_table)
    file.fib_is) in
    let required_stream : HasNamed c.args.container.now.streams (table_stream_name file.parts.text.wd) table =
    subst (λ (n : List ℕ). HasNamed c.args.container.now.streams n table) name c.required_stream-table.ensures in
    let hold =
    sections_hold c.args.container.now fib file table c.part_of-plc.result.now c.pair-pair.result c.ccp.result
    required_stream
    (c.pair-pair.ensures ∙ ap (listed_pair fib.pairs) c.pair.ensures.number) c.part_of-plc.ensures.bytes
    c.ccp.ensures.value
    in
    no_part_fault c.part_of-plc.result.now c.pair-pair.result.0 c.ccp.result c.in-Err-Rule.field-0
    c.in-Err-Rule.field-0-0 c.in-Err-Rule.field-0-1 hold c.in-Err-Rule.ensures c.in-Err-Rule.field-0-is
