use Rattle.std.proofs.Common.{◌≡◌, ◌-◌, ◌*◌, ◌++◌, take, drop, flat_map}
use Rattle.fib_form.specs.FibBytes.{fc_lcb_bytes, zeros}
use Rattle.fib_form.proofs.pairs.Pairs.write.Given as goal

-- the pairs before this one are written, and zeros follow
abbrev pub invariant-loop-n : goal.invariant-loop-n
invariant-loop-n l =
    l.out ≡ take 154 l.fn.out ++ (flat_map fc_lcb_bytes (take l.n l.self) ++ (zeros (744 - 8 * l.n) ++ drop 898
    l.fn.out))
