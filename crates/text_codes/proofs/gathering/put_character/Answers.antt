use Rattle.std.proofs.Common.{arith}
use Rattle.text_codes.proofs.BlockLemmas.{take-two_set}
use Rattle.text_codes.proofs.GatherLemmas.{encode_utf8-two, encode_utf8-three}
use Rattle.text_codes.proofs.gathering.put_character.Goals as goal

pub returns-then-unit-lt-THREE_BYTES-clause-bytes : goal.returns-then-unit-lt-THREE_BYTES-clause-bytes
returns-then-unit-lt-THREE_BYTES-clause-bytes c =
    rw (
      encode_utf8-two c.args.unit c.if-unit-lt-TWO_BYTES.false c.if-unit-lt-THREE_BYTES.true,
      ←
          c.continuation.ensures,
    ) (take-two_set _ _ _ _ (omega (arith, c.requires)))

pub returns-clause-bytes : goal.returns-clause-bytes
returns-clause-bytes c =
    rw (
      encode_utf8-three c.args.unit c.if-unit-lt-THREE_BYTES.false c.ranges.unit.fits,
      ← c.continuation-2.ensures,
      ←
          c.continuation-3.ensures,
    ) c.put_three.ensures.bytes
