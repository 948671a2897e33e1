-- The session that begins on a file.
use Rattle.std.proofs.Common.{sym, subst, ℕ, List, arith}
use Rattle.doc_read.specs.Holds.{HoldsDocument}
use Rattle.fast_save.specs.Session.{SessionView}
use Rattle.fast_save.specs.Started.{IsStarted}
use Rattle.script_run.specs.Ends.{IsUnchanged}
use Rattle.run_stages.specs.declared.stage.Stage.{Stage}
use Rattle.run_stages.specs.declared.stage.Stage.TheVariants.{Go, Stop}
use Rattle.run_stages.specs.Reading.{IsWholeIn}

-- nothing was added to it
pub unchanged_of : (file : List ℕ) (session : SessionView) → IsStarted file session → IsUnchanged session
unchanged_of file session started =
    let units = started.counts.units in
    let runs = started.counts.runs in
    let sections = started.counts.sections in
    record {
      holds = subst (λ f. HoldsDocument f session.document) (sym started.bytes) started.holds;
      none = omega (arith, units, runs, sections);
    }

pub begun_unchanged :
    (taken : Stage (List ℕ)) (session : SessionView) → IsWholeIn taken (λ bytes. IsStarted bytes session) → IsUnchanged session
begun_unchanged (Go bytes) session started = unchanged_of bytes session started.1
begun_unchanged (Stop ending) session started = absurd started
