use Rattle.std.proofs.Common.{List, ℕ, length, ap, ◌∙◌, subst, arith}
use Rattle.std.proofs.lemmas.Result.{err_from_is_err_and}
use Rattle.cfb_sectors.proofs.Public.{fat_few}
use Rattle.cfb_layout.proofs.Public.{accepted}
use Rattle.cfb_in_place.specs.Change.{OldChains, NamedChange, Added, sectors_after}
use Rattle.cfb_in_place.specs.Appended.{IsSavedBehind}
use Rattle.cfb_in_place.proofs.AfterLemmas.{added_by}
use Rattle.cfb_in_place.proofs.ReadyLemmas.{front_of}
use Rattle.cfb_in_place.proofs.appending.saved_by.Goals as goal

pub grown_len-grown-requires-clause-front : goal.grown_len-grown-requires-clause-front
grown_len-grown-requires-clause-front c =
    front_of c.args.old.now c.args.layout.now.parts c.args.chains.now c.args.change.now.change c.requires

pub new-added-requires-clause-short : goal.new-added-requires-clause-short
new-added-requires-clause-short c =
    let most = (accepted c.args.old.now c.requires.contents c.requires.hold c.requires.has).whole.most in
    omega arith

pub new-added-requires-clause-few : goal.new-added-requires-clause-few
new-added-requires-clause-few c =
    fat_few c.args.old.now (accepted c.args.old.now c.requires.contents c.requires.hold c.requires.has).fat

pub returns-then-sectors-gt-MAX_SECTORS : goal.returns-then-sectors-gt-MAX_SECTORS
returns-then-sectors-gt-MAX_SECTORS c =
    let is = added_by c.args.old.now c.args.chains.now c.args.change.now.change c.new-added.result
    (length c.chains.inside.grown.now) c.grown_len-grown.result (length c.as_slice.result.now) c.new-added.ensures
    (ap (λ (x : OldChains). length x.grown) c.chains.view_is) c.grown_len-grown.ensures
    (ap (λ (xs : List ℕ). length xs) (c.as_slice.ensures ∙ ap (λ (x : NamedChange). x.change.table) c.change.view_is))
    in
    let same = c.sectors_after-sectors.ensures ∙ ap (λ (a : Added). sectors_after c.args.old.now a) is in
    let more = c.if-sectors-gt-MAX_SECTORS.true in
    record { many = omega arith; number = same }

pub file_after-requires : goal.file_after-requires
file_after-requires c =
    let is = added_by c.args.old.now c.args.chains.now c.args.change.now.change c.new-added.result
    (length c.chains.inside.grown.now) c.grown_len-grown.result (length c.as_slice.result.now) c.new-added.ensures
    (ap (λ (x : OldChains). length x.grown) c.chains.view_is) c.grown_len-grown.ensures
    (ap (λ (xs : List ℕ). length xs) (c.as_slice.ensures ∙ ap (λ (x : NamedChange). x.change.table) c.change.view_is))
    in
    let same = c.sectors_after-sectors.ensures ∙ ap (λ (a : Added). sectors_after c.args.old.now a) is in
    let less = c.if-sectors-gt-MAX_SECTORS.false in
    record { can = c.requires; is = is; fits = omega arith }

pub returns-in_err-file : goal.returns-in_err-file
returns-in_err-file c =
    let p = err_from_is_err_and c.from_residual.result c.from_residual.ensures.1 in
    rw (p.1, p.2) tt

pub returns : goal.returns
returns c =
    let is = added_by c.args.old.now c.args.chains.now c.args.change.now.change c.new-added.result
    (length c.chains.inside.grown.now) c.grown_len-grown.result (length c.as_slice.result.now) c.new-added.ensures
    (ap (λ (x : OldChains). length x.grown) c.chains.view_is) c.grown_len-grown.ensures
    (ap (λ (xs : List ℕ). length xs) (c.as_slice.ensures ∙ ap (λ (x : NamedChange). x.change.table) c.change.view_is))
    in
    let same = c.sectors_after-sectors.ensures ∙ ap (λ (a : Added). sectors_after c.args.old.now a) is in
    let less = c.if-sectors-gt-MAX_SECTORS.false in (
      omega arith,
      subst (λ (a : Added). IsSavedBehind c.args.old.now c.in_ok-file.file c.args.layout.now.parts c.args.chains.now a
          c.args.change.now.change) is c.in_ok-file.ensures,
    )
