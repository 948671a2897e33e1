-- A part of the run more.
use Rattle.std.proofs.Common.{◌≡◌, ◌-◌, arith}
use Rattle.doc_columns.proofs.WindowLemmas.{rows_none, rows_more, rows_all}
use Rattle.doc_columns.proofs.copying.push_rows.Goals as goal

pub loop-at-init : goal.loop-at-init
loop-at-init g c = record {
  from = omega arith;
  to = omega arith;
  rows = rows_none c.args.rows.now.items c.args.run.now.value (c.args.place - c.args.place) (omega arith);
}

pub loop-at-preserved : goal.loop-at-preserved
loop-at-preserved g c =
    let at = c.loop-at.at in
    let until = c.behind-until.result in
    record {
      from = omega (arith, c.loop-at.invariant.from, c.behind-until.ensures.some);
      to = c.behind-until.ensures.within;
      rows =
          rows_more c.args.rows.now.items c.loop-at.rows.items c.push.new.self.items c.args.run.now.value
          c.in_ok-value.value (until - at) (at - c.args.place) (until - c.args.place)
          c.in_ok-push.ensures.items c.in_ok-value.ensures c.loop-at.invariant.rows
          (omega (arith, c.loop-at.invariant.from, c.behind-until.ensures.some));
    }

pub returns : goal.returns
returns g c =
    let all : c.loop-at.at - c.args.place ≡ c.args.run.now.count =
    omega (arith, c.loop-at.invariant.from, c.loop-at.invariant.to) in
    rows_all c.args.rows.now.items c.loop-at.rows.items c.args.run.now.value (c.loop-at.at - c.args.place)
    c.args.run.now.count all c.loop-at.invariant.rows
