use Rattle.std.proofs.Common.{slice_index, ◌∙◌, arith}
use Rattle.std.specs.List.{flat_map}
use Rattle.std.proofs.lemmas.List.{take_all}
use Rattle.cfb_sectors.specs.Header.{sector_bytes}
use Rattle.cfb_sectors.proofs.StreamLemmas.{length_all, length-sector}
use Rattle.cfb_sectors.proofs.stream.read_sectors.Goals as goal

pub returns : goal.returns
returns c =
    let all = length_all (sector_bytes 512 512 c.args.file.now) 512 c.args.sectors.now
    (λ k h. let inside = c.requires.inside k h in length-sector 512 512 c.args.file.now
    (slice_index c.args.sectors.now k) (omega arith)) in
    c.in_ok-bytes.ensures.joined ∙ take_all _ (flat_map (sector_bytes 512 512 c.args.file.now) c.args.sectors.now)
    (omega arith)
