-- One pair more is put over zeros in each turn.
use Rattle.std.proofs.Common.{◌≡◌, length, ◌++◌, take, drop, ◌+◌, ◌*◌, sym, subst, arith, length-take}
use Rattle.std.proofs.lemmas.List.{take-append-drop}
use Rattle.doc_bits.specs.Number.{number_bytes}
use Rattle.fib_form.specs.FibFields.{listed_pair}
use Rattle.fib_form.proofs.PairLemmas.{pairs_more, pairs_all}
use Rattle.fib_form.proofs.pairs.Pairs.write.Goals as goal

pub loop-n-init : goal.loop-n-init
loop-n-init c = rw (← c.requires.clear) (sym (take-append-drop 154 c.args.out.now))

pub loop-n-preserved : goal.loop-n-preserved
loop-n-preserved c =
    let pairs = c.args.self.now in
    let n = c.loop-n.n in
    let out = c.loop-n.out in
    let next = c.put32.new.bytes in
    let last = c.put32-in-loop-n.new.bytes in
    let count : length pairs ≡ 93 = subst (λ ps. length ps ≡ 93) c.self.view_is c.self.invariant.0 in
    let fc : next ≡ take (154 + 8 * n) out ++ (number_bytes 4 (listed_pair pairs n).0 ++ drop (154 + 8 * n + 4) out) =
    subst (λ ps. next ≡ take (154 + 8 * n) out ++ (number_bytes 4 (listed_pair ps n).0 ++ drop (154 + 8 * n + 4) out))
    c.self.view_is c.put32.ensures in
    let lcb : last ≡ take (154 + 8 * n + 4) next ++ (number_bytes 4 (listed_pair pairs n).1 ++ drop (154 + 8 * n + 4 +
    4)
    next) =
    subst (λ ps. last ≡ take (154 + 8 * n + 4) next ++ (number_bytes 4 (listed_pair ps n).1 ++ drop (154 + 8 * n + 4 +
    4)
    next)) c.self.view_is c.put32-in-loop-n.ensures in
    let size : length (take 154 c.args.out.now) ≡ 154 = let long = c.requires.size in
    omega (arith, length-take 154 c.args.out.now) in
    pairs_more pairs n (take 154 c.args.out.now) (drop 898 c.args.out.now) out next last c.loop-n-test.true count size
    c.loop-n.invariant fc lcb

pub returns : goal.returns
returns c =
    let count : length c.args.self.now ≡ 93 = subst (λ ps. length ps ≡ 93) c.self.view_is c.self.invariant.0 in
    let ended : c.loop-n.n ≡ 93 = omega arith in
    pairs_all c.args.self.now c.loop-n.n (take 154 c.args.out.now) (drop 898 c.args.out.now) c.loop-n.out ended count
    c.loop-n.invariant
