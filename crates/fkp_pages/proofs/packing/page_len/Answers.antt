use Rattle.std.proofs.Common.{◌+◌, sym, arith}
use Rattle.fkp_pages.proofs.LimitLemmas.{limit_after-none, next_limit, fits_none, fits_first, refused_not_fits}
use Rattle.fkp_pages.proofs.LimitLemmas.{some_before}
use Rattle.fkp_pages.specs.PageBytes.{first_limit}
use Rattle.fkp_pages.proofs.packing.page_len.Goals as goal

pub loop-i-init : goal.loop-i-init
loop-i-init c = record { limit = sym (limit_after-none c.args.kind first_limit); fits = fits_none c.args.kind }

pub returns-then-not-has_room-clause-some : goal.returns-then-not-has_room-clause-some
returns-then-not-has_room-clause-some c =
    let limit = next_limit c.args.kind c.args.runs.now c.loop-i.i c.loop-i.limit c.limit_after_run-limit.result
    c.index-runs-i.result (omega arith) c.loop-i.invariant.limit c.index-runs-i.is c.limit_after_run-limit.ensures
    in
    some_before c.args.kind c.args.runs.now c.loop-i.i c.limit_after_run-limit.result c.has_room.result
    c.requires.writable (omega arith) limit c.has_room.ensures c.if-not-has_room.true

pub returns-then-not-has_room-clause-full : goal.returns-then-not-has_room-clause-full
returns-then-not-has_room-clause-full c =
    let limit = next_limit c.args.kind c.args.runs.now c.loop-i.i c.loop-i.limit c.limit_after_run-limit.result
    c.index-runs-i.result (omega arith) c.loop-i.invariant.limit c.index-runs-i.is c.limit_after_run-limit.ensures
    in
    λ less. refused_not_fits c.args.kind c.args.runs.now (c.loop-i.i + 1) c.limit_after_run-limit.result
    c.has_room.result (omega arith) limit c.has_room.ensures c.if-not-has_room.true

pub loop-i-preserved : goal.loop-i-preserved
loop-i-preserved c =
    let limit = next_limit c.args.kind c.args.runs.now c.loop-i.i c.loop-i.limit c.limit_after_run-limit.result
    c.index-runs-i.result (omega arith) c.loop-i.invariant.limit c.index-runs-i.is c.limit_after_run-limit.ensures
    in
    record {
      limit = limit;
      fits = fits_first c.args.kind c.args.runs.now (c.loop-i.i + 1) c.limit_after_run-limit.result (omega arith)
          limit (c.has_room.ensures.0 c.if-not-has_room.false);
    }
