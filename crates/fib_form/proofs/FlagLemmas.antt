-- The flags: their parts are read again, and those that are kept stay.
use Rattle.std.proofs.Common.{◌≡◌, ℕ, ◌+◌, ◌*◌, ◌/◌, ◌%◌, ◌^◌, ◌<◌, ◌==◌, Bool, true, false, if◌then◌else◌, refl, sym}
use Rattle.std.proofs.Common.{arith, lit<}
use Rattle.fib_form.specs.Fib.{bit, kept_flags}
use Rattle.fib_form.specs.FibFields.{IsKeptFlags}

-- the flags are read again, each part of them
pub record ReadsFlags (kept quick_saves which_table : ℕ) (complex : Bool) (flags : ℕ) : Type 0 where
  pub fit : flags < 2 ^ 16
  pub glossary : bit 1 flags ≡ 0
  pub encrypted : bit 8 flags ≡ 0
  pub obfuscated : bit 15 flags ≡ 0
  pub keeps : kept_flags flags ≡ kept
  pub is_complex : (bit 2 flags == 1) ≡ complex
  pub count : flags / 16 % 16 ≡ quick_saves
  pub table : bit 9 flags ≡ which_table

-- the same, with each bit a number
pub reads_bits : (d r f c q t w : ℕ) → d < 2 → r < 2 → f < 2 → c < 2 → q < 16 → t < 2 → w ≡ d + r * 0x0400 + f *
    0x4000 + c * 4 + q * 16 + t * 0x0200 + 0x1000 → (w < 65536) × ((w / 2 % 2 ≡ 0) × ((w / 256 % 2 ≡ 0) ×
    ((w / 32768 % 2 ≡ 0) × ((w / 1 % 2 ≡ d) × ((w / 1024 % 2 ≡ r) × ((w / 16384 % 2 ≡ f) × ((w / 4 % 2 ≡ c) ×
    ((w / 16 % 16 ≡ q) × (w / 512 % 2 ≡ t)))))))))
reads_bits d r f c q t w hd hr hf hc hq ht e = (
  omega arith,
  (
    omega arith,
    (
      omega arith,
      (
        omega arith,
        (
          omega arith,
          (omega arith, (omega arith, (omega arith, (omega arith, omega arith)))),
        ),
      ),
    ),
  ),
)

pub reads_flags : (kept quick_saves which_table : ℕ) (complex : Bool) → IsKeptFlags kept → quick_saves < 16 →
    which_table < 2 → ReadsFlags kept quick_saves which_table complex (kept + (if complex then 4 else 0) + quick_saves
    * 16 + which_table * 0x0200 + 0x1000)
reads_flags kept q t true is hq ht =
    let w = kept + 4 + q * 16 + t * 0x0200 + 0x1000 in
    let b = reads_bits (bit 0 kept) (bit 10 kept) (bit 14 kept) 1 q t w (omega arith) (omega arith) (omega arith)
    (lit< tt) hq ht (omega (arith, is)) in
    let keeps : kept_flags w ≡ kept = rw (b.1.1.1.1.0, b.1.1.1.1.1.0, b.1.1.1.1.1.1.0) (sym is) in
    let is_complex : (bit 2 w == 1) ≡ true = rw b.1.1.1.1.1.1.1.0 refl in
    record {
      fit = b.0;
      glossary = b.1.0;
      encrypted = b.1.1.0;
      obfuscated = b.1.1.1.0;
      keeps = keeps;
      is_complex = is_complex;
      count = b.1.1.1.1.1.1.1.1.0;
      table = b.1.1.1.1.1.1.1.1.1;
    }
reads_flags kept q t false is hq ht =
    let w = kept + 0 + q * 16 + t * 0x0200 + 0x1000 in
    let b = reads_bits (bit 0 kept) (bit 10 kept) (bit 14 kept) 0 q t w (omega arith) (omega arith) (omega arith)
    (lit< tt) hq ht (omega (arith, is)) in
    let keeps : kept_flags w ≡ kept = rw (b.1.1.1.1.0, b.1.1.1.1.1.0, b.1.1.1.1.1.1.0) (sym is) in
    let is_complex : (bit 2 w == 1) ≡ false = rw b.1.1.1.1.1.1.1.0 refl in
    record {
      fit = b.0;
      glossary = b.1.0;
      encrypted = b.1.1.0;
      obfuscated = b.1.1.1.0;
      keeps = keeps;
      is_complex = is_complex;
      count = b.1.1.1.1.1.1.1.1.0;
      table = b.1.1.1.1.1.1.1.1.1;
    }

kept_again : (d r f : ℕ) → d < 2 → r < 2 → f < 2 → d + r * 0x0400 + f * 0x4000 ≡ kept_flags (d + r * 0x0400 + f *
    0x4000)
kept_again d r f hd hr hf =
    let w = d + r * 0x0400 + f * 0x4000 in
    let low : w / 1 % 2 ≡ d = omega arith in
    let middle : w / 1024 % 2 ≡ r = omega arith in
    let high : w / 16384 % 2 ≡ f = omega arith in
    rw (low, middle, high) refl

-- kept flags are kept
pub kept_flags-kept : (flags : ℕ) → kept_flags flags ≡ kept_flags (kept_flags flags)
kept_flags-kept flags = kept_again (bit 0 flags) (bit 10 flags) (bit 14 flags) (omega arith) (omega arith) (omega arith)
