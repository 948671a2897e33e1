use Rattle.doc_bits.specs.Number.{number_bytes}
use Rattle.doc_bits.proofs.NumberLemmas.{put_mid-number}
use Rattle.doc_bits.proofs.numbers.put32.Goals as goal

pub returns : goal.returns
unfolding number_bytes
returns c = put_mid-number 4 c.args.at c.args.value c.args.bytes.now c.write_u32.new.buf c.write_u32.ensures
