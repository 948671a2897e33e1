use Rattle.std.proofs.Common.{◌≡◌, ℕ, ◌<◌, List}
use Rattle.std.specs.Prelude.{slice_get, Some}
use Rattle.doc_bits.specs.Number.{AreBytes}
use Rattle.json_doc.proofs.style_reading.have_bytes.Given as goal

abbrev pub invariant-loop-i : goal.invariant-loop-i
invariant-loop-i l = (k : ℕ) (upx : List ℕ) → k < l.i → slice_get l.upxes k ≡ Some upx → AreBytes upx
