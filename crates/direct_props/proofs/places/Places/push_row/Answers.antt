use Rattle.std.proofs.Common.{◌≡◌, ◌<◌, ◌++◌, [], ◌∷◌, ℕ, List, length, drop, sym, ap, ◌∙◌, arith, slice_index}
use Rattle.direct_props.specs.declared.places.PlaceRow.{PlaceRow}
use Rattle.direct_props.proofs.RowLemmas.{count_is, first_places, listed_and_rest, listed_more}
use Rattle.direct_props.proofs.places.Places.push_row.Goals as goal

pub loop-k-preserved : goal.loop-k-preserved
loop-k-preserved c =
    let none : PlaceRow = record { at = 0; step = 0; len = 0 } in
    let p = c.self.inside in
    let k : ℕ = c.loop-k.k in
    let list : List ℕ = c.loop-k.list.items in
    let long = count_is p.rows.now p.skipped p.count c.args.self.now c.self.invariant c.self.view_is in
    let within : k < length c.args.self.now = omega (arith, long) in
    let here : c.place_in.result ≡ slice_index c.args.self.now k =
    c.place_in.ensures
    ∙ sym (first_places p.rows.now p.skipped p.count k none c.args.self.now c.self.invariant c.self.view_is
    (omega (arith, long)) (omega arith)) in
    listed_more c.args.list.now.items list c.push.new.self.items c.args.self.now k c.loop-k.invariant within
    (c.in_ok-push.ensures.items ∙ ap (λ (fc : ℕ). list ++ fc ∷ []) here)

pub returns-clause-joined : goal.returns-clause-joined
returns-clause-joined c =
    let here : c.loop-k.k ≡ c.min-here.result = omega arith in
    listed_and_rest c.args.list.now.items c.loop-k.list.items c.skip.result c.args.self.now c.loop-k.k
    c.loop-k.invariant (c.skip.ensures ∙ ap (λ (n : ℕ). drop n c.args.self.now) (sym here))
