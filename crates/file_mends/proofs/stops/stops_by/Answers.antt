use Rattle.std.proofs.Common.{ℕ, List, MatchOption}
use Rattle.std.proofs.lemmas.Result.{IfOk-weaker}
use Rattle.file_mends.specs.declared.mends.FileMend.{FileMend}
use Rattle.file_mends.specs.Stops.{HasNoStops, ReadsCodes, ReadsStops}
use Rattle.file_mends.proofs.StopsLemmas.{no_streams, reads_as}
use Rattle.file_mends.proofs.stops.stops_by.Goals as goal

pub returns-in_default : goal.returns-in_default
returns-in_default c = no_streams c.args.file.now c.args.container.now c.requires.has c.in_default.ensures

pub returns : goal.returns
returns c =
    let file = c.args.file.now in
    let streams = c.in-Some.streams in
    IfOk-weaker c.codes_read.result
    (λ f. MatchOption f ((mend : FileMend) (read : List ℕ) → ¬ ReadsCodes file streams mend read)
    (λ made. ReadsCodes file streams made.mend made.copy.items))
    (λ f. MatchOption f (HasNoStops file) (λ made. ReadsStops file made.mend made.copy.items))
    (λ f is. reads_as file c.args.container.now streams f c.requires.hold c.requires.has c.in-Some.ensures is)
    c.codes_read.ensures
