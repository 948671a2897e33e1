-- How a file grows by fast saves.
use Rattle.std.proofs.Common.{◌≡◌, ◌∙◌, sym, ap, subst, ℕ, zero, suc, ◌+◌, ◌<◌, ◌≤◌, List, length, arith}
use Rattle.cfb_streams.specs.Names.{wd_name}
use Rattle.cfb_in_place.specs.InPlace.{StaysInPlace}
use Rattle.cfb_in_place.proofs.Public.{long_one, twice_in_place}
use Rattle.fib_form.specs.Fib.{form_size}
use Rattle.doc_read.specs.Holds.{FileParts}
use Rattle.doc_read.proofs.Public.{file_parts_one}
use Rattle.save_laws.specs.KeptPages.{KeepsBytes}
use Rattle.save_laws.specs.Places.{fib_end}
use Rattle.fast_save.specs.Fast.{KeepsSectors}
use Rattle.script_run.specs.Files.{IsWordDocumentOf, HasGrownFrom, HasGrownBySaves}

-- a file has one WordDocument
one_stream : (file one other : List ℕ) → IsWordDocumentOf file one → IsWordDocumentOf file other → one ≡ other
one_stream file one other first second =
    sym first.is
    ∙ (ap (λ (parts : FileParts). parts.text.wd) (file_parts_one file first.parts second.parts first.has second.has) ∙
    second.is)

keeps_on : (old middle new : List ℕ) → KeepsBytes old middle → KeepsBytes middle new → KeepsBytes old new
keeps_on old middle new first second =
    let longer = first.longer in
    let then_longer = second.longer in
    let fib = ap form_size first.form in
    record {
      longer = omega (arith, longer, then_longer);
      bytes = λ i from below. second.bytes i (omega (arith, from, fib)) (omega (arith, below, longer)) ∙ first.bytes i
          from below;
      form = second.form ∙ first.form;
    }

-- a stream that stays in its sectors over each of two saves stays over both
stays_on : (file bytes made old middle later : List ℕ) → KeepsBytes old middle → KeepsSectors file bytes old →
    KeepsSectors bytes made later → middle ≡ later → KeepsSectors file made old
stays_on file bytes made old middle later kept first second same long =
    let longer = kept.longer in
    let len = ap length same in
    let front = ap fib_end same in
    let form = ap form_size kept.form in
    let one = first long in
    let next = second (omega (arith, long, longer, len)) in
    let bytes_are = (long_one bytes wd_name one.bytes_after one.sectors_after later next.sectors one.is next.was).0 in
    twice_in_place wd_name (fib_end old) (fib_end later) file bytes made old one
    (subst (λ (wd : List ℕ). StaysInPlace wd_name (fib_end later) bytes made wd) (sym bytes_are) next)
    (omega (arith, front, form))

-- no longer than it may be
pub grown_more : (file : List ℕ) (most more quick_saves : ℕ) (bytes : List ℕ) → most ≤ more → HasGrownFrom file most
    quick_saves bytes → HasGrownFrom file more quick_saves bytes
grown_more file most more quick_saves bytes less grown =
    let len = grown.grown in
    record {
      old = grown.old;
      was = grown.was;
      new = grown.new;
      is = grown.is;
      kept = grown.kept;
      grown = omega (arith, len, less);
      count = grown.count;
      complex = grown.complex;
      in_place = grown.in_place;
    }

grown_on : (file bytes made : List ℕ) (most more quick_saves then_saves : ℕ) → HasGrownFrom file most quick_saves
    bytes → HasGrownFrom bytes more then_saves made → HasGrownFrom file (most + more) then_saves made
grown_on file bytes made most more quick_saves then_saves first second =
    let same : first.new ≡ second.old = one_stream bytes first.new second.old first.is second.was in
    let len = first.grown in
    let then_len = second.grown in
    let middle = ap length same in
    record {
      old = first.old;
      was = first.was;
      new = second.new;
      is = second.is;
      kept = keeps_on first.old second.old second.new (subst (λ wd. KeepsBytes first.old wd) same first.kept)
          second.kept;
      grown = omega (arith, len, then_len, middle);
      count = second.count;
      complex = second.complex;
      in_place = stays_on file bytes made first.old first.new second.old first.kept first.in_place second.in_place same;
    }

-- one fast save more
pub next_grown : (fast : ℕ) (file bytes made : List ℕ) (most more quick_saves then_saves : ℕ) → HasGrownBySaves fast
    file
    most quick_saves bytes → HasGrownFrom bytes more then_saves made → HasGrownBySaves (suc fast) file (most + more)
    then_saves made
next_grown zero file bytes made most more quick_saves then_saves same second =
    grown_more file more (most + more) then_saves made (omega arith) (subst (λ f. HasGrownFrom f more then_saves made)
    same second)
next_grown (suc fast) file bytes made most more quick_saves then_saves first second =
    grown_on file bytes made most more quick_saves then_saves first second

-- there was a fast save
pub some_fast : (fast : ℕ) (file : List ℕ) (most quick_saves : ℕ) (bytes : List ℕ) → 0 < fast → HasGrownBySaves fast
    file
    most quick_saves bytes → HasGrownFrom file most quick_saves bytes
some_fast zero file most quick_saves bytes some grown = absurd (omega (arith, some))
some_fast (suc more) file most quick_saves bytes some grown = grown
