use Rattle.std.proofs.Common.{option_map}
use Rattle.file_mends.proofs.StopsLemmas.{no_wd, no_table, short_stream}
use Rattle.file_mends.proofs.file_streams.streams_of.Goals as goal

pub returns-then-wd-lt-EARLY_SIZE : goal.returns-then-wd-lt-EARLY_SIZE
returns-then-wd-lt-EARLY_SIZE c =
    short_stream c.args.container.now c.in-Some.wd.bytes.now (option_map (λ s. s.now) c.in-Some.wd.sectors) c.requires
    (rw c.word_document.ensures at c.in-Some.ensures) c.if-wd-lt-EARLY_SIZE.true

pub returns-in_default-named_stream : goal.returns-in_default-named_stream
returns-in_default-named_stream c =
    no_table c.args.container.now c.in-Some.wd.bytes.now (option_map (λ s. s.now) c.in-Some.wd.sectors) c.requires
    (rw c.word_document.ensures at c.in-Some.ensures) (rw c.used_table.ensures at c.in_default-named_stream.ensures)
