use Rattle.std.proofs.Common.{ap, ◌∙◌}
use Rattle.std.proofs.lemmas.Result.{err_from_is_err_and}
use Rattle.cfb_streams.specs.StreamRules.{BreaksSharing}
use Rattle.cfb_directory.specs.Directory.{entry_clsid}
use Rattle.cfb_directory.specs.Reach.{entry_place}
use Rattle.cfb_streams.proofs.GatherLemmas.{has_contents}
use Rattle.cfb_sectors.proofs.Public.{refused_first, none_nowhere}
use Rattle.cfb_streams.proofs.layout.Layout.gather.Goals as goal

pub returns-in_err-refuse : goal.returns-in_err-refuse
returns-in_err-refuse c =
    let p = err_from_is_err_and c.from_residual-in_err-refuse.result c.from_residual-in_err-refuse.ensures.1 in
    rw (p.1, p.2)
    (refused_first 14 (BreaksSharing c.args.self.now.file c.args.self.now.parts) c.wrong_sharing.result
    c.in_err-refuse.field-0.0 c.wrong_sharing.ensures.least c.in_err-refuse.ensures)

pub returns : goal.returns
returns c =
    let clsid = c.clsid-clsid.ensures ∙ ap (λ p. entry_clsid p.file (entry_place p.parts.directory 0))
    c.self.view_is in (
      none_nowhere (BreaksSharing c.args.self.now.file c.args.self.now.parts) c.wrong_sharing.result
          c.wrong_sharing.ensures.least c.in_ok-refuse.ensures,
      has_contents c.args.self.now c.in_ok-streams.streams.items c.clsid-clsid.result c.in_ok-streams.ensures.is_layout
          (c.in_ok-streams.ensures.streams (c.wrong_sharing.ensures.none c.in_ok-refuse.ensures))
          clsid,
    )
