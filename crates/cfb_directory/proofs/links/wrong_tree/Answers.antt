use Rattle.std.proofs.Common.{sym, subst}
use Rattle.doc_bits.specs.Rules.{LeastOrNone}
use Rattle.doc_bits.proofs.Public.{least_either}
use Rattle.cfb_directory.specs.Reach.{BreaksLink, BreaksTree, AmongReached, IsWrongType}
use Rattle.cfb_directory.proofs.links.wrong_tree.Goals as goal

pub returns : goal.returns
returns c =
    subst (LeastOrNone (BreaksTree c.args.file.now c.args.directory.now)) (sym c.lesser.ensures)
    (least_either (BreaksLink c.args.file.now c.args.directory.now)
    (AmongReached c.args.file.now c.args.directory.now (IsWrongType c.args.file.now c.args.directory.now))
    c.wrong_links-link.result c.wrong_types.result c.wrong_links-link.ensures c.wrong_types.ensures)
