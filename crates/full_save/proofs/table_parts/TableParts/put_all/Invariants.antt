use Rattle.full_save.proofs.TableLemmas.{AreWrittenUpTo}
use Rattle.full_save.proofs.table_parts.TableParts.put_all.Given as goal

abbrev pub invariant-loop-part : goal.invariant-loop-part
invariant-loop-part l = AreWrittenUpTo l.parts l.part-index l.initial.self l.self
