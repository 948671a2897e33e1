use Rattle.std.proofs.Common.{◌∙◌, ◌++◌, ◌∷◌, [], ap, sym, arith, ℕ, Bool, false, List, take, slice_index_or}
use Rattle.std.specs.Prelude.{slice_index, if◌then◌else◌}
use Rattle.std.proofs.lemmas.Option.{slice_get-get_or}
use Rattle.doc_mends.specs.Cuts.{unflagged}
use Rattle.doc_mends.proofs.CutLemmas.{unflagged-nil, unflagged-one, unflagged_more, unflagged_all}
use Rattle.doc_mends.proofs.cutting.cut_units.Goals as goal

pub loop-at-init : goal.loop-at-init
loop-at-init c = c.in_ok-made.ensures.items ∙ sym (unflagged-nil {A = ℕ} [])

pub loop-at-preserved : goal.loop-at-preserved
loop-at-preserved c =
    let flags : List Bool = c.args.flags.now in
    let units : List ℕ = c.args.units.now in
    let at = c.loop-at.at in
    let flag : Bool = slice_index_or flags at false in
    let unit : ℕ = slice_index units at in
    c.in_ok-push_unflagged.ensures
    ∙ (ap (λ (l : List ℕ). l ++ if◌then◌else◌ {A = List ℕ} flag [] (unit ∷ [])) c.loop-at.invariant
    ∙ (ap (λ (l : List ℕ). unflagged (take at flags) (take at units) ++ l) (sym (unflagged-one flag unit))
    ∙ sym (unflagged_more flags units at flag unit
    (slice_get-get_or flags at false (omega (arith, c.requires, c.loop-at-test.true)))
    (slice_get-get_or units at 0 c.loop-at-test.true))))

pub returns : goal.returns
returns c =
    c.loop-at.invariant
    ∙ unflagged_all c.args.flags.now c.args.units.now c.loop-at.at c.requires (omega (arith, c.loop-at-test.false))
