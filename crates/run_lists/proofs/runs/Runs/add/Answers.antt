-- The last run has more, or there is a run more.
use Rattle.std.proofs.Common.{◌≡◌, ◌+◌, ◌-◌, ◌<◌, length, set, refl, arith, rules}
use Rattle.std.specs.Vec.{vec_len}
use Rattle.run_lists.specs.declared.runs.Run.{Run}
use Rattle.run_lists.specs.Spread.{expanded}
use Rattle.run_lists.proofs.RunsLemmas.{last_fits, grown, pushed, length_more}
use Rattle.run_lists.proofs.runs.Runs.add.Goals as goal

pub overflow_add-last : goal.overflow_add-last
overflow_add-last g c =
    let runs = c.self.inside.runs.items in
    let len : vec_len c.self.inside.runs ≡ length runs = search rules in
    let within : c.len-len.result - 1 < length runs = omega (arith, c.len-len.ensures) in
    omega (
      arith,
      last_fits runs c.args.self.now (c.len-len.result - 1) c.args.count c.index_mut-last.result.now within
          c.index_mut-last.ensures.value c.self.view_is c.requires.few,
    )

pub invariant_of-self : goal.invariant_of-self
invariant_of-self g c =
    let runs = c.self.inside.runs.items in
    let last = c.len-len.result - 1 in
    let one = c.index_mut-last.result.now in
    let new : Run g.row.T.Denot = record { count = one.count + c.args.count; value = one.value } in
    let len : vec_len c.self.inside.runs ≡ length runs = search rules in
    let end : last + 1 ≡ length runs = omega (arith, c.len-len.ensures, c.if-len-gt0.true) in
    length_more (expanded (set runs last new)) c.args.self.now c.args.count c.args.value
    (grown runs c.args.self.now last c.args.count one c.index.result.now new c.args.value end
    c.index_mut-last.ensures.value c.index.ensures (c.if-equal.ensures.0 refl) refl refl c.self.view_is)
    c.requires.few

pub returns-then-equal-clause-ok : goal.returns-then-equal-clause-ok
returns-then-equal-clause-ok g c =
    let runs = c.self.inside.runs.items in
    let last = c.len-len.result - 1 in
    let one = c.index_mut-last.result.now in
    let new : Run g.row.T.Denot = record { count = one.count + c.args.count; value = one.value } in
    let len : vec_len c.self.inside.runs ≡ length runs = search rules in
    let end : last + 1 ≡ length runs = omega (arith, c.len-len.ensures, c.if-len-gt0.true) in
    grown runs c.args.self.now last c.args.count one c.index.result.now new c.args.value end
    c.index_mut-last.ensures.value c.index.ensures (c.if-equal.ensures.0 refl) refl refl c.self.view_is

pub invariant_of-self-2 : goal.invariant_of-self-2
invariant_of-self-2 g c =
    let run : Run g.row.T.Denot = record { count = c.args.count; value = c.args.value } in
    length_more (expanded c.push.new.self.items) c.args.self.now c.args.count c.args.value
    (pushed c.self.inside.runs.items c.push.new.self.items c.args.self.now run c.in_ok-push.ensures.items
    c.self.view_is)
    c.requires.few

pub returns-clause-ok : goal.returns-clause-ok
returns-clause-ok g c =
    let run : Run g.row.T.Denot = record { count = c.args.count; value = c.args.value } in
    pushed c.self.inside.runs.items c.push.new.self.items c.args.self.now run c.in_ok-push.ensures.items
    c.self.view_is
