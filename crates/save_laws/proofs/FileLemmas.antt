-- What is counted bounds the sectors of the file.
use Rattle.std.proofs.Common.{◌≤◌, arith}
use Rattle.cfb_layout.specs.Counts.{sectors_needed}
use Rattle.cfb_layout.specs.Layout.{lengths_of}
use Rattle.cfb_layout.proofs.Public.{sectors-needed, length-compound_file, no_file_shorter}
use Rattle.save_laws.specs.SectorCounts.{lengths_in, lengths_of_two}
use Rattle.save_laws.specs.FastSizes.{reckoned_bytes}
use Rattle.save_laws.specs.FastFiles.{FitCounts, FastSavesFit, FastStreamsFit}
use Rattle.save_laws.proofs.SectorLemmas.{longer_streams_fit}
use Rattle.save_laws.proofs.RenewedLemmas.{named_streams_are_renewed}
use Rattle.save_laws.proofs.SizeLemmas.{counts_bound_streams}

pub fast_saves_fit : FastSavesFit
fast_saves_fit counts written before after old new counted appended renewed few =
    let bounded = counts_bound_streams counts written before after counted appended in
    let more = longer_streams_fit old new before after (reckoned_bytes counts) renewed bounded.grown in
    record { few = omega (arith, more, few); fit = λ within. omega (arith, more, few, within) }

pub fast_streams_fit : FastStreamsFit
fast_streams_fit file contents counts streams is =
    let renewed = named_streams_are_renewed file contents streams is.file_of.has_contents is.anew in
    let least : sectors_needed (lengths_in contents) ≤ counts.sectors =
    omega (arith, no_file_shorter file contents is.file_of.rules is.file_of.has_contents, is.few) in
    let before = lengths_of_two is.anew.before in
    let after = lengths_of_two is.anew.after in
    let fits : FitCounts counts (lengths_of streams) =
    fast_saves_fit counts is.written before after (lengths_in contents) (lengths_of streams) is.counted is.appended
    renewed least in
    record {
      fit = fits.fit;
      few = λ clsid right layout.
          omega (arith, fits.few, length-compound_file streams clsid right layout, sectors-needed (lengths_of streams));
    }
