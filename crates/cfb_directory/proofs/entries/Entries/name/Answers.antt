use Rattle.std.proofs.Common.{sym, ap, ◌∙◌, subst}
use Rattle.cfb_directory.specs.Directory.{entry_name_length}
use Rattle.cfb_directory.specs.Reach.{entry_place, IsReachedEntry, IsWrongNameLength}
use Rattle.cfb_directory.proofs.OrderLemmas.{name_length}
use Rattle.cfb_directory.proofs.entries.Entries.name.Goals as goal

pub read_name-requires-clause-len : goal.read_name-requires-clause-len
read_name-requires-clause-len c =
    let is = subst (λ e. IsReachedEntry e.file e.directory c.args.entry) (sym c.self.view_is) c.requires in
    let place = c.entry_place-at.ensures.place ∙ ap (λ d. entry_place d c.args.entry) c.deref.ensures.value in
    subst (λ at. ¬ IsWrongNameLength (entry_name_length c.self.inside.file.now at)) (sym place)
    (name_length c.self.inside.file.now c.self.inside.directory.items c.args.entry c.self.invariant.names is)
