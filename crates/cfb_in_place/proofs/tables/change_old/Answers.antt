use Rattle.std.proofs.Common.{◌<◌, ℕ, length, slice_index, sym, ap, subst, List}
use Rattle.cfb_in_place.specs.Change.{OldChains, end_of}
use Rattle.cfb_in_place.proofs.TableLemmas.{freed_inside}
use Rattle.cfb_in_place.proofs.tables.change_old.Goals as goal

pub free_entries-requires : goal.free_entries-requires
free_entries-requires c =
    let same = sym (ap (λ (x : OldChains). x.freed) c.chains.view_is) in
    subst (λ (xs : List ℕ). (i : ℕ) → i < length xs → slice_index xs i < length c.args.entries.now) same
    (freed_inside c.args.entries.now c.args.chains.now c.args.added.now (end_of c.args.added.now) c.requires)
