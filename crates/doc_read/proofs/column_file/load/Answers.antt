use Rattle.doc_bits.specs.declared.places.Where.TheVariants.{File}
use Rattle.doc_bits.proofs.Public.{hold_in}
use Rattle.cfb_streams.specs.Container.{container_rules}
use Rattle.file_rules.proofs.Public.{refused-container}
use Rattle.doc_read.proofs.ContentsBounds.{contents-bounded}
use Rattle.doc_read.proofs.column_file.load.Goals as goal

pub returns-in-Ok : goal.returns-in-Ok
returns-in-Ok c =
    let file = c.args.file.now in
    let read = c.in-Ok.ensures in
    (hold_in File (container_rules file) read.0, read.1, contents-bounded file c.in-Ok.container read.0 read.1)

pub returns-in-Err : goal.returns-in-Err
returns-in-Err c =
    rw c.refused_container.ensures (refused-container (container_rules c.args.file.now) c.in-Err.fault c.in-Err.ensures)
