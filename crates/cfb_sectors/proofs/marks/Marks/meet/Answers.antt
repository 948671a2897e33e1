use Rattle.std.proofs.Common.{true, set, ap, ◌∙◌}
use Rattle.cfb_sectors.proofs.MarkLemmas.{marks_of-set}
use Rattle.cfb_sectors.proofs.marks.Marks.meet.Goals as goal

pub returns : goal.returns
returns c =
    marks_of-set c.self.inside.stamps.items c.self.inside.stamp c.args.sector
    ∙ ap (λ marks. set marks c.args.sector true) c.self.view_is
