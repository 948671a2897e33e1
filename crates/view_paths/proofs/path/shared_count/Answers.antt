use Rattle.std.proofs.Common.{refl, sym, subst, ◌∙◌, ◌<◌, ◌≤◌, ◌≡◌, length, take, false, min, arith}
use Rattle.view_paths.proofs.FrontLemmas.{apart-shared, apart-at, apart-end, joined_at}
use Rattle.view_paths.proofs.path.shared_count.Goals as goal

pub loop-i-init : goal.loop-i-init
loop-i-init g c = refl

pub returns-then-not-is_same : goal.returns-then-not-is_same
returns-then-not-is_same g c =
    let from = c.args.from.now in
    let to = c.args.to.now in
    let here : c.loop-i.i < length from = omega arith in
    let there : c.loop-i.i < length to = omega arith in
    let differ : g.E.Element.same c.index-from-i.result c.index-to-i.result ≡ false =
    sym c.is_same.ensures ∙ c.if-not-is_same.true in
    apart-shared g.E.Element.same g.met.E.Element.exact from to c.loop-i.i (omega arith) c.loop-i.invariant
    (apart-at g.E.Element.same g.met.E.Element.exact from to c.loop-i.i c.index-from-i.result c.index-to-i.result here
    there c.index-from-i.is c.index-to-i.is differ)

pub loop-i-preserved : goal.loop-i-preserved
loop-i-preserved g c =
    let from = c.args.from.now in
    let to = c.args.to.now in
    let here : c.loop-i.i < length from = omega arith in
    let there : c.loop-i.i < length to = omega arith in
    let alike = (g.met.E.Element.exact c.index-from-i.result c.index-to-i.result).0
    (sym c.is_same.ensures ∙ c.if-not-is_same.false) in
    joined_at from to c.loop-i.i c.index-from-i.result c.index-to-i.result here there c.loop-i.invariant
    c.index-from-i.is c.index-to-i.is alike

pub returns : goal.returns
returns g c =
    let from = c.args.from.now in
    let to = c.args.to.now in
    let most : c.min-most.result ≡ min (length from) (length to) = c.min-most.ensures in
    let end : c.loop-i.i ≡ c.min-most.result = omega arith in
    let within : c.min-most.result ≤ length from = omega arith in
    apart-shared g.E.Element.same g.met.E.Element.exact from to c.min-most.result within
    (subst (λ i. take i from ≡ take i to) end c.loop-i.invariant)
    (apart-end g.E.Element.same from to c.min-most.result most)
