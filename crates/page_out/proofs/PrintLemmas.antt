-- Pieces of a page put one behind the other.
use Rattle.std.proofs.Common.{◌≡◌, ◌∙◌, ◌+◌, ◌/◌, ◌%◌, ◌^◌, ◌<◌, ◌≤◌, Option, Some, ℕ, Bool, true, false, List, []}
use Rattle.std.proofs.Common.{◌∷◌, ◌++◌, Result, Ok, Err, refl, sym, ap, subst, inl, inr, ◌⊎◌}
use Rattle.std.proofs.Common.{append_assoc, append-nil, arith}
use Rattle.std.specs.Prelude.{encode_utf8, encode_utf8_all, is_err, OnOk, OnErr, if◌then◌else◌}
use Rattle.std.specs.Str.{IsAscii}
use Rattle.std.proofs.lemmas.Str.{encodes-append, encodes-IsAscii}
use Rattle.doc_outer.specs.Counts.{Rose, CountGoesOn}
use Rattle.doc_outer.specs.Written.{Appends, AppendsPrefix, Sends}
use Rattle.doc_outer.specs.declared.sink.Sink.{Ghosts}
use Rattle.doc_outer.proofs.Public.{Rose-after, count_stays, count_on, Sends-waits, Sends-append, Sends-fails}
use Rattle.doc_outer.proofs.Public.{AppendsPrefix-more}
use Rattle.std.specs.Fmt.{decimal}
use Rattle.std.proofs.lemmas.Fmt.{decimal_digit, decimal_step}
use Rattle.page_out.specs.declared.page.Page.{Page}
use Rattle.page_out.specs.Printed.{FailsIn, PutsBytes, PrintsBytes, Prints}

pub flag_cases : (b : Bool) → (b ≡ true) ⊎ (b ≡ false)
flag_cases true = inl refl
flag_cases false = inr refl

-- nothing was put
pub nothing_put : {K : Type 0} (sink : Ghosts K) (at : K) (page : Page) → PrintsBytes sink at page at page []
nothing_put sink at page = record {
  ok = λ right. record {
    right = right;
    sends =
        subst (λ (left : List ℕ). Sends (sink.written at) (sink.written at) page.block [] left)
        (append-nil page.block) (Sends-waits (sink.written at) page.block []);
  };
  fails = λ right failed. absurd (cc (right, failed));
  stays = λ failed. refl;
  faults = count_stays (sink.faults at);
}

-- one piece was put, and then the sink failed
pub failed_behind : {K : Type 0} (sink : Ghosts K) (a b c : K) (p q : Page) (xs ys : List ℕ) →
    PutsBytes sink a p b q xs → CountGoesOn (sink.faults a) (sink.faults b) → FailsIn sink b q c ys →
    FailsIn sink a p c (xs ++ ys)
failed_behind sink a b c p q xs ys one on other = record {
  prefix =
      Sends-fails (sink.written a) (sink.written b) (sink.written c) p.block xs q.block ys one.sends other.prefix;
  rose = Rose-after (sink.faults a) (sink.faults b) (sink.faults c) on other.rose;
}

-- the sink failed in one piece, and nothing more was put
pub failed_before : {K : Type 0} (sink : Ghosts K) (a b c : K) (p : Page) (xs ys : List ℕ) → FailsIn sink a p b xs →
    sink.written c ≡ sink.written b → CountGoesOn (sink.faults b) (sink.faults c) → FailsIn sink a p c (xs ++ ys)
failed_before sink a b c p xs ys one same on = record {
  prefix =
      subst (λ now. AppendsPrefix (sink.written a) now (p.block ++ (xs ++ ys))) (sym same)
      (subst (λ (all : List ℕ). AppendsPrefix (sink.written a) (sink.written b) all) (append_assoc p.block xs ys)
      (AppendsPrefix-more (sink.written a) (sink.written b) (p.block ++ xs) ys one.prefix));
  rose = (let rose = one.rose in let fallen = on.not_fallen in omega (arith, rose, fallen));
}

-- what fails stays failed
still_failed : {K : Type 0} (sink : Ghosts K) (a b : K) (p q : Page) (xs : List ℕ) → PrintsBytes sink a p b q xs →
    p.failed ≡ true → q.failed ≡ true
still_failed sink a b p q xs one failed = elim (flag_cases q.failed) [
  | inl is ↦ is
  | inr right ↦ absurd (cc (failed, (one.ok right).right))
]

-- one piece was put, and then another
pub bytes_then : {K : Type 0} (sink : Ghosts K) (a b c : K) (p q r : Page) (xs ys : List ℕ) →
    PrintsBytes sink a p b q xs → PrintsBytes sink b q c r ys → PrintsBytes sink a p c r (xs ++ ys)
bytes_then sink a b c p q r xs ys one other = record {
  ok = λ right.
      let next = other.ok right in
      let first = one.ok next.right in
      record {
        right = first.right;
        sends =
            Sends-append (sink.written a) (sink.written b) (sink.written c) p.block xs q.block ys r.block
            first.sends next.sends;
      };
  fails = λ right failed. elim (flag_cases q.failed) [
    | inl is ↦ failed_before sink a b c p xs ys (one.fails right is) (other.stays is) other.faults
    | inr fine ↦ failed_behind sink a b c p q xs ys (one.ok fine) one.faults (other.fails fine failed)
  ];
  stays = λ failed. other.stays (still_failed sink a b p q xs one failed) ∙ one.stays failed;
  faults = count_on (sink.faults a) (sink.faults b) (sink.faults c) one.faults other.faults;
}

-- the same of characters
pub put_then : {K : Type 0} (sink : Ghosts K) (a b c : K) (p q r : Page) (xs ys : List ℕ) →
    Prints sink a p b q xs → Prints sink b q c r ys → Prints sink a p c r (xs ++ ys)
put_then sink a b c p q r xs ys one other =
    subst (λ (bytes : List ℕ). PrintsBytes sink a p c r bytes) (sym (encodes-append xs ys))
    (bytes_then sink a b c p q r (encode_utf8_all xs) (encode_utf8_all ys) one other)

-- ---- one piece

-- a page that failed stays what it is
pub put_nothing : {K : Type 0} (sink : Ghosts K) (at : K) (page : Page) (bytes : List ℕ) → page.failed ≡ true →
    PrintsBytes sink at page at page bytes
put_nothing sink at page bytes failed = record {
  ok = λ right. absurd (cc (failed, right));
  fails = λ right is. absurd (cc (failed, right));
  stays = λ is. refl;
  faults = count_stays (sink.faults at);
}

-- what a block made of a piece
pub piece_put : {K E : Type 0} (sink : Ghosts K) (a b : K) (page : Page) (left bytes : List ℕ)
    (taken : Result (Unit {0}) E) → page.failed ≡ false →
    OnOk taken (Sends (sink.written a) (sink.written b) page.block bytes left) →
    OnErr taken (AppendsPrefix (sink.written a) (sink.written b) (page.block ++ bytes)) →
    OnErr taken (Rose (sink.faults a) (sink.faults b)) → CountGoesOn (sink.faults a) (sink.faults b) →
    PrintsBytes sink a page b (record { block = left; failed = is_err taken }) bytes
piece_put sink a b page left bytes (Ok u) right sends prefix rose on = record {
  ok = λ is. record { right = right; sends = sends };
  fails = λ is failed. absurd (cc (failed));
  stays = λ failed. absurd (cc (failed, right));
  faults = on;
}
piece_put sink a b page left bytes (Err e) right sends prefix rose on = record {
  ok = λ is. absurd (cc (is));
  fails = λ is failed. record { prefix = prefix; rose = rose };
  stays = λ failed. absurd (cc (failed, right));
  faults = on;
}

-- ASCII is its own UTF-8
pub ascii_put : {K : Type 0} (sink : Ghosts K) (a b : K) (p q : Page) (bytes : List ℕ) → IsAscii bytes →
    PrintsBytes sink a p b q bytes → Prints sink a p b q bytes
ascii_put sink a b p q bytes ascii put =
    subst (λ (all : List ℕ). PrintsBytes sink a p b q all) (sym (encodes-IsAscii bytes ascii)) put

-- a character by its bytes
pub char_put : {K : Type 0} (sink : Ghosts K) (a b : K) (p q : Page) (bytes : List ℕ) (code : ℕ) →
    bytes ≡ encode_utf8 code → PrintsBytes sink a p b q bytes → Prints sink a p b q (code ∷ [])
char_put sink a b p q bytes code is put =
    subst (λ (all : List ℕ). PrintsBytes sink a p b q all) (is ∙ sym (append-nil (encode_utf8 code))) put

-- nothing more behind what was put
pub put_none : {K : Type 0} (sink : Ghosts K) (at : K) (page : Page) → Prints sink at page at page []
put_none sink at page = nothing_put sink at page

-- what a block made of a piece, where it is kept whether it failed
pub flag_put : {K E : Type 0} (sink : Ghosts K) (a b : K) (page : Page) (left bytes : List ℕ)
    (taken : Result (Unit {0}) E) (flag : Bool) → flag ≡ is_err taken → page.failed ≡ false →
    OnOk taken (Sends (sink.written a) (sink.written b) page.block bytes left) →
    OnErr taken (AppendsPrefix (sink.written a) (sink.written b) (page.block ++ bytes)) →
    OnErr taken (Rose (sink.faults a) (sink.faults b)) → CountGoesOn (sink.faults a) (sink.faults b) →
    PrintsBytes sink a page b (record { block = left; failed = flag }) bytes
flag_put sink a b page left bytes taken flag is right sends prefix rose on =
    subst (λ (f : Bool). PrintsBytes sink a page b (record { block = left; failed = f }) bytes) (sym is)
    (piece_put sink a b page left bytes taken right sends prefix rose on)

-- three pieces
pub three_put : {K : Type 0} (sink : Ghosts K) (a b c d : K) (p q r s : Page) (xs ys zs : List ℕ) →
    Prints sink a p b q xs → Prints sink b q c r ys → Prints sink c r d s zs → Prints sink a p d s (xs ++ (ys ++ zs))
three_put sink a b c d p q r s xs ys zs one two three =
    put_then sink a b d p q s xs (ys ++ zs) one (put_then sink b c d q r s ys zs two three)

-- a number of one digit, and one of more
pub digit_put : {K : Type 0} (sink : Ghosts K) (a b : K) (p q : Page) (number : ℕ) → number < 10 →
    Prints sink a p b q ((48 + number) ∷ []) → Prints sink a p b q (decimal number)
digit_put sink a b p q number small put =
    subst (λ (text : List ℕ). Prints sink a p b q text) (sym (decimal_digit number small)) put

pub digits_put : {K : Type 0} (sink : Ghosts K) (a b c : K) (p q r : Page) (number : ℕ) → 10 ≤ number →
    number < 2 ^ 64 → Prints sink a p b q (decimal (number / 10)) →
    Prints sink b q c r ((48 + number % 10) ∷ []) → Prints sink a p c r (decimal number)
digits_put sink a b c p q r number large fits one other =
    subst (λ (text : List ℕ). Prints sink a p c r text) (sym (decimal_step number large fits))
    (put_then sink a b c p q r (decimal (number / 10)) ((48 + number % 10) ∷ []) one other)
