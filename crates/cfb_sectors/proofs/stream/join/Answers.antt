use Rattle.std.proofs.Common.{◌≡◌, ◌+◌, ◌*◌, slice_index, take, ap, ◌∙◌, arith}
use Rattle.std.specs.Prelude.{slice_range}
use Rattle.std.specs.List.{flat_map}
use Rattle.std.proofs.lemmas.List.{take_all}
use Rattle.cfb_sectors.specs.Header.{sector_bytes}
use Rattle.cfb_sectors.proofs.StreamLemmas.{join_step, length-cut}
use Rattle.cfb_sectors.proofs.stream.join.Goals as goal

pub loop-sector-preserved : goal.loop-sector-preserved
loop-sector-preserved c =
    let old = c.loop-sector.invariant in
    let m = c.min-part.ensures in
    let from = c.args.base + slice_index c.args.chain.now c.loop-sector.sector-index * c.args.unit in
    let part = slice_range c.args.bytes.now from (from + c.min-part.result) in
    let e : (c.loop-sector.sector-index + 1) * c.args.unit ≡ c.loop-sector.sector-index * c.args.unit + c.args.unit =
    omega arith in
    record {
      joined = c.in_ok-extend_from_slice.ensures.items ∙ join_step c.args.base c.args.unit c.args.bytes.now
          c.args.chain.now c.args.size c.loop-sector.sector-index c.loop-sector.left c.loop-sector.joined.items part
          c.loop-sector-test.true c.requires.inside old.joined old.left
          (ap (λ k. slice_range c.args.bytes.now from (from + k)) m);
      left = omega arith;
    }

pub returns-clause-len : goal.returns-clause-len
returns-clause-len c =
    let f = sector_bytes c.args.base c.args.unit c.args.bytes.now in
    let all : take c.loop-sector.sector-index c.args.chain.now ≡ c.args.chain.now = take_all c.loop-sector.sector-index
    c.args.chain.now (omega arith) in
    length-cut c.args.base c.args.unit c.args.bytes.now c.args.chain.now c.loop-sector.joined.items c.args.size
    c.requires.inside
    (c.loop-sector.invariant.joined
    ∙ ap (λ xs. take c.args.size (flat_map (sector_bytes c.args.base c.args.unit c.args.bytes.now) xs)) all)
