-- What is written for a run: how many bytes, and that there are few.
use Rattle.std.proofs.Common.{◌≡◌, ℕ, ◌+◌, ◌-◌, ◌%◌, ◌/◌, ◌≤◌, ◌==◌, ◌&&◌, ◌↔◌, Bool, true, false, List, [], ◌∷◌}
use Rattle.std.proofs.Common.{length, refl, sym, ap, ◌∙◌, arith, length-append, eq-eqb}
use Rattle.std.specs.Prelude.{if◌then◌else◌, IsTrue}
use Rattle.std.proofs.lemmas.Bool.{eqb-true}
use Rattle.doc_bits.specs.Number.{number_bytes}
use Rattle.doc_bits.proofs.Public.{length-number_bytes}
use Rattle.prop_map.specs.Printing.{printed_list}
use Rattle.std.specs.FinMap.{entries, empty, empty_of_len, len-entries}
use Rattle.prop_map.specs.Settings.{Properties}
use Rattle.prop_map.proofs.Public.{entries-empty}
use Rattle.fkp_pages.specs.declared.kind.PageKind.{PageKind}
use Rattle.fkp_pages.specs.declared.kind.PageKind.TheVariants.{Chpx, Papx}
use Rattle.fkp_pages.specs.declared.lists.Run.{Run}
use Rattle.fkp_pages.specs.Fkp.{least_list, spelled_list}
use Rattle.fkp_pages.specs.Runs.{most_printed, run_list, IsWritableRun}
use Rattle.fkp_pages.specs.Written.{is_bare_run, run_bytes_written}

-- tests that hold of the same
same_test : (a b : Bool) → IsTrue a ↔ IsTrue b → a ≡ b
same_test true true h = refl
same_test false false h = refl
same_test true false h = sym (h.0 refl)
same_test false true h = h.1 refl

-- a map without entries is the empty map
pub empty_map : (m : Properties) → IsTrue (length (entries m) == 0) ↔ m ≡ empty
empty_map m = (
  λ t. empty_of_len m (len-entries m ∙ eqb-true (length (entries m)) 0 t),
  λ e. eq-eqb (length (entries m)) 0 (ap length (ap entries e ∙ entries-empty)),
)

pub is_empty_map : (m : Properties) (test : Bool) → IsTrue test ↔ m ≡ empty → test ≡ (length (entries m) == 0)
is_empty_map m test h = same_test test (length (entries m) == 0) (
  λ t. (empty_map m).1 (h.0 t),
  λ t. h.1 ((empty_map m).0 t),
)

pub is_bare-plain : (run : Run) → run.istd ≡ 0 → is_bare_run Papx run ≡ (length (entries run.map) == 0)
is_bare-plain run h = ap (λ n. (n == 0) && (length (entries run.map) == 0)) h

pub written-bare : (kind : PageKind) (run : Run) → is_bare_run kind run ≡ true → run_bytes_written kind run ≡ []
unfolding run_bytes_written
written-bare kind run h = ap (λ b. if b then [] else spelled_list kind (run_list kind run)) h

pub written-listed : (kind : PageKind) (run : Run) → is_bare_run kind run ≡ false → run_bytes_written kind run ≡
    spelled_list kind
    (run_list kind run)
unfolding run_bytes_written
written-listed kind run h = ap (λ b. if b then [] else spelled_list kind (run_list kind run)) h

pub length-run_list : (kind : PageKind) (run : Run) → length (run_list kind run) ≡ least_list kind + length
    (printed_list run.map)
length-run_list Chpx run = omega arith
length-run_list Papx run = length-append (number_bytes 2 run.istd) (printed_list run.map) ∙ ap (λ n. n + length
    (printed_list run.map)) (length-number_bytes 2 run.istd)

-- how many bytes a list takes, with the number of its bytes
abbrev pub spelled_len : PageKind → ℕ → ℕ
spelled_len Chpx len = 1 + len
spelled_len Papx len = len + 2 - len % 2

odd_or_even : (len : ℕ) (list : List ℕ) (odd : Bool) → odd ≡ (len % 2 == 1) → length list ≡ len →
    length (if odd then (len + 1) / 2 ∷ list else 0 ∷ (len / 2 ∷ list)) ≡ spelled_len Papx len
odd_or_even len list true e h = let one = eqb-true (len % 2) 1 (sym e) in omega arith
odd_or_even len list false e h = grind arith

pub length-spelled_list : (kind : PageKind) (list : List ℕ) → length (spelled_list kind list) ≡ spelled_len kind
    (length list)
length-spelled_list Chpx list = omega arith
length-spelled_list Papx list = odd_or_even (length list) list (length list % 2 == 1) refl refl

-- the most bytes that are written for a run
abbrev pub most_written : PageKind → ℕ
most_written Chpx = 256
most_written Papx = 484

most_spelled : (kind : PageKind) (len : ℕ) → len ≤ least_list kind + most_printed kind → spelled_len kind len ≤
    most_written kind
most_spelled Chpx len h = omega arith
most_spelled Papx len h = omega arith

pub length-written : (kind : PageKind) (run : Run) (bare : Bool) → bare ≡ is_bare_run kind run → length
    (run_bytes_written kind run)
    ≡ (if bare then 0 else spelled_len kind (least_list kind + length (printed_list run.map)))
length-written kind run true e = ap length (written-bare kind run (sym e))
length-written kind run false e = ap length (written-listed kind run (sym e)) ∙ (length-spelled_list kind
    (run_list kind run) ∙ ap (spelled_len kind) (length-run_list kind run))

small_written : (kind : PageKind) (run : Run) (bare : Bool) → bare ≡ is_bare_run kind run → IsWritableRun kind run →
    length (run_bytes_written kind run) ≤ most_written kind
small_written kind run true e h = rw (written-bare kind run (sym e)) (omega arith)
small_written kind run false e h =
    let short = h.short in
    let len = length-run_list kind run in
    rw (written-listed kind run (sym e), length-spelled_list kind (run_list kind run)) (most_spelled kind
    (length (run_list kind run)) (omega arith))

-- few bytes are written for a run whose map is short
pub most-written : (kind : PageKind) (run : Run) → IsWritableRun kind run → length (run_bytes_written kind run) ≤
    most_written
    kind
most-written kind run h = small_written kind run (is_bare_run kind run) refl h

-- how many they are, by the kind
pub listed_len : (kind : PageKind) (run : Run) (len : ℕ) → false ≡ is_bare_run kind run →
    len ≡ length (printed_list run.map) → (kind ≡ Chpx → 1 + len ≡ length (run_bytes_written kind run)) × (kind ≡ Papx →
    2 + len + 2 - (2 + len) % 2 ≡ length (run_bytes_written kind run))
listed_len kind run len bare e = (
  λ k. let all = length-written Chpx run false (bare ∙ ap (λ x. is_bare_run x run) k) in
      ap (λ n. 1 + n) e ∙ (omega arith ∙ (sym all ∙ ap (λ x. length (run_bytes_written x run)) (sym k))),
  λ k. let all = length-written Papx run false (bare ∙ ap (λ x. is_bare_run x run) k) in ap (λ n. 2 + n + 2 - (2 + n) %
      2)
      e ∙ (sym all ∙ ap (λ x. length (run_bytes_written x run)) (sym k)),
)

-- a list is not longer than its map allows
pub run_list_within : (kind : PageKind) (run : Run) → IsWritableRun kind run → length (run_list kind run) ≤ least_list
    kind + most_printed kind
run_list_within kind run h = let len = length-run_list kind run in let short = h.short in omega arith
