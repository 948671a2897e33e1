use Rattle.std.proofs.Common.{List, ℕ, ap, ◌∙◌, subst}
use Rattle.cfb_streams.proofs.Public.{match_more}
use Rattle.cfb_in_place.specs.Change.{NamedChange, added_sectors}
use Rattle.cfb_in_place.specs.Appended.{IsSavedBehind}
use Rattle.cfb_in_place.specs.Save.{FitsAfter, IsSaveFault}
use Rattle.cfb_in_place.specs.Contract.{AreNamedChains, IsSavedInPlace, IsInPlaceFault}
use Rattle.cfb_in_place.proofs.InPlaceLemmas.{can_save, in_place, too_many}
use Rattle.cfb_in_place.proofs.appending.appended_in.Goals as goal

pub saved_by-saved-requires : goal.saved_by-saved-requires
saved_by-saved-requires c =
    let name = c.as_slice.ensures ∙ ap (λ (x : NamedChange). x.name) c.change.view_is in
    can_save c.args.old.now c.args.container.now c.args.change.now.change c.args.change.now.name
    c.in_ok-chains.chains c.args.layout.now c.requires.rules c.requires.change c.requires.places c.requires.is_layout
    (subst (λ (xs : List ℕ). AreNamedChains c.args.old.now c.args.container.now xs c.in_ok-chains.chains) name
    c.in_ok-chains.ensures)

pub returns : goal.returns
returns c =
    let old = c.args.old.now in
    let contents = c.args.container.now in
    let change = c.args.change.now.change in
    let chains = c.in_ok-chains.chains in
    let name = c.as_slice.ensures ∙ ap (λ (x : NamedChange). x.name) c.change.view_is in
    let named = subst (λ (xs : List ℕ). AreNamedChains old contents xs chains) name c.in_ok-chains.ensures in
    match_more c.saved_by-saved.result
    (λ new. FitsAfter old (added_sectors old chains change) × IsSavedBehind old new c.args.layout.now.parts chains
    (added_sectors old chains change) change)
    (λ new. IsSavedInPlace old new contents change c.args.change.now.name) (IsSaveFault old chains change)
    (IsInPlaceFault old contents change c.args.change.now.name)
    (λ new is. in_place old new contents change c.args.change.now.name chains c.args.layout.now c.requires.rules
    c.requires.change c.requires.places c.requires.is_layout named is.0 is.1)
    (λ fault is. too_many old contents change c.args.change.now.name chains fault c.requires.change named is)
    c.saved_by-saved.ensures
