use Rattle.full_save.specs.TableStream.{pairs_from}
use Rattle.full_save.proofs.table_parts.TableParts.new.Goals as goal

pub returns : goal.returns
unfolding pairs_from
returns c = record { bytes_are = c.new.ensures; pairs_are = c.new-2.ensures }
