use Rattle.std.proofs.Common.{sym}
use Rattle.summary_set.proofs.WriteLemmas.{padded_len-is}
use Rattle.summary_set.proofs.written.padded_len.Goals as goal

pub returns : goal.returns
returns c = rw (c.pad_len.ensures, c.as_slice-len.ensures) (sym (padded_len-is c.args.value.now))
