use Rattle.doc_bits.specs.declared.places.Where.TheVariants.{File}
use Rattle.doc_bits.proofs.Public.{hold_in}
use Rattle.cfb_streams.specs.Container.{container_rules}
use Rattle.file_rules.proofs.Public.{refused-container}
use Rattle.docview_run.proofs.file_properties.page_of.Goals as goal

pub returns-in-Err : goal.returns-in-Err
returns-in-Err c =
    rw c.refused_container.ensures (refused-container (container_rules c.args.file.now) c.in-Err.fault c.in-Err.ensures)

pub returns : goal.returns
returns c = (hold_in File (container_rules c.args.file.now) c.in-Ok.ensures.0, c.in_ok-page.ensures)
