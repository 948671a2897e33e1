-- The streams that a document carries are no longer than the longest file.
use Rattle.std.proofs.Common.{◌≡◌, List, Some, length, slice_get, sym, ap, ◌∙◌, arith}
use Rattle.doc_bits.specs.declared.places.Where.TheVariants.{File}
use Rattle.cfb_streams.specs.Contents.{NamedBytes}
use Rattle.cfb_streams.specs.Container.{container_rules}
use Rattle.file_rules.proofs.Public.{hold_out}
use Rattle.doc_read.specs.CarriedParts.{carried_streams}
use Rattle.doc_read.specs.Laws.{CarriedStreamsAreShort}
use Rattle.doc_read.proofs.CarriedLemmas.{carried-from}
use Rattle.doc_read.proofs.ContentsBounds.{contents-bounded}

pub streams_short : CarriedStreamsAreShort
streams_short file document holds i stream here =
    let contents = holds.parts.contents in
    let bounds = contents-bounded file contents (hold_out File (container_rules file) holds.rules.0)
    holds.has_parts.has_contents in
    let there : slice_get (carried_streams contents.streams) i ≡ Some stream =
    ap (λ (streams : List NamedBytes). slice_get streams i) (sym holds.document_is.carried.streams) ∙ here in
    let from = carried-from contents.streams i stream there in
    let most = bounds.short from.index from.stream from.here in
    let same = ap length from.bytes in
    omega (arith, most, same)
