use Rattle.std.proofs.lemmas.Option.{slice_get-get_or}
use Rattle.nested_tables.proofs.walk.depth_at.Goals as goal

pub returns : goal.returns
returns c = slice_get-get_or c.args.paragraphs.now c.args.number _ c.requires
