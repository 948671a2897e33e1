use Rattle.std.proofs.Common.{◌≡◌, ◌++◌, take}
use Rattle.std.specs.List.{flat_map}
use Rattle.doc_bits.specs.Number.{number_bytes}
use Rattle.fkp_pages.proofs.page_writer.push_fcs.Given as goal

-- the fcs of the runs so far
abbrev pub invariant-loop-run : goal.invariant-loop-run
invariant-loop-run l = l.bytes ≡ l.initial.bytes ++ flat_map (λ run. number_bytes 4 run.from) (take l.run-index l.runs)
