use Rattle.file_mends.proofs.StopsLemmas.{refused_stops}
use Rattle.file_mends.proofs.stops.with_stops_read.Goals as goal

pub returns-in-Err-Rule : goal.returns-in-Err-Rule
returns-in-Err-Rule c =
    refused_stops c.args.file.now c.in-Err-Rule.field-0 c.in-Err-Rule.field-0-0 c.in-Err-Rule.field-0-1
    c.in-Err-Rule.field-0-is c.in-Err-Rule.ensures
