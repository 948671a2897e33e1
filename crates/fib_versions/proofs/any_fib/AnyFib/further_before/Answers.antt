-- The stories between are some of all stories.
use Rattle.std.proofs.Common.{◌≡◌, ◌<◌, sym, subst, arith}
use Rattle.doc_bits.specs.Rules.{Hold}
use Rattle.fib_versions.specs.Versions.{further_number, further_ccps}
use Rattle.fib_versions.specs.VersionRules.{version_rules}
use Rattle.fib_versions.proofs.VersionLemmas.{few_characters, further-within}
use Rattle.fib_versions.proofs.any_fib.AnyFib.further_before.Goals as goal

pub overflow_add-before : goal.overflow_add-before
overflow_add-before c =
    let wd = c.self.inside.wd.now in
    let k = c.loop-k.k in
    let before : c.loop-k.before ≡ further_ccps wd k =
    subst (λ w. c.loop-k.before ≡ further_ccps w k) (sym c.self.view_is) c.loop-k.invariant in
    let low : k < 4 = omega (arith, c.loop-k-test.true, c.number-k-end.ensures.below) in
    omega (arith, before, further-within wd k low, few_characters wd c.self.invariant, c.get32-before.ensures)

pub returns-clause-room : goal.returns-clause-room
returns-clause-room c =
    let wd = c.args.self.now in
    let hold : Hold (version_rules wd) = subst (λ w. Hold (version_rules w)) c.self.view_is c.self.invariant in
    let story = c.args.story in
    let at : c.loop-k.k ≡ further_number story = omega (arith, c.number-k-end.ensures.number) in
    let before : c.loop-k.before ≡ further_ccps wd (further_number story) =
    subst (λ k. c.loop-k.before ≡ further_ccps wd k) at c.loop-k.invariant in
    let low : further_number story < 4 = omega (arith, c.number-k-end.ensures.number, c.number-k-end.ensures.below) in
    omega (arith, before, further-within wd (further_number story) low, few_characters wd hold)
