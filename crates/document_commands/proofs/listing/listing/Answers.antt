use Rattle.doc_bits.specs.declared.places.Where.TheVariants.{File}
use Rattle.doc_bits.proofs.Public.{hold_in}
use Rattle.cfb_streams.specs.Container.{container_rules}
use Rattle.file_rules.proofs.Public.{refused-container}
use Rattle.document_commands.proofs.listing.listing.Goals as goal

pub returns-in-Err : goal.returns-in-Err
returns-in-Err c =
    rw c.refused_container.ensures (refused-container (container_rules c.args.file.now) c.in-Err.fault c.in-Err.ensures)

pub returns : goal.returns
returns c = (
  hold_in File (container_rules c.args.file.now) c.in-Ok.ensures.0,
  record {
    contents = c.in-Ok.container;
    has = c.in-Ok.ensures.1;
    lines = c.in_ok-text.ensures;
  },
)
