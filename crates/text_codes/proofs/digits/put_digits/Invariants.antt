use Rattle.std.proofs.Common.{◌≡◌, ◌*◌, length, take}
use Rattle.std.specs.Str.{IsUtf8}
use Rattle.text_codes.specs.Digits.{bytes_text}
use Rattle.text_codes.proofs.digits.put_digits.Given as goal

-- the digits of the bytes so far are at the front of the block
abbrev pub invariant-loop-k : goal.invariant-loop-k
invariant-loop-k l = record {
  long : length l.block ≡ length l.fn.block;
  digits : take (2 * l.k) l.block ≡ bytes_text (take l.k l.bytes);
  valid : IsUtf8 (bytes_text (take l.k l.bytes));
}
