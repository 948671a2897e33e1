-- What follows of the value in an `Ok`.
use Rattle.std.specs.Prelude.{Result, Ok, Err, IfOk, MatchResult}
use Rattle.std.proofs.Common.{◌≡◌, ◌<◌, ◌∙◌, refl, sym, subst, length}
use Rattle.std.specs.Result.{IsOk}
use Rattle.doc_bits.specs.Rules.{Hold, IsFirstOffset}
use Rattle.std.specs.Prelude.{ℕ, List}
use Rattle.fib_form.specs.FibFields.{FibFields, fib_fields}
use Rattle.fib_form.specs.FibRules.{fib_rules}
use Rattle.fib_form.specs.declared.fault.FibFault.{FibFault}
use Rattle.doc_model.specs.declared.document.Document.{Document}
use Rattle.plain_doc.specs.Sound.{IsSound}
use Rattle.plain_doc.proofs.Public.{main_ends, sound_is_valid}
use Rattle.fast_save.proofs.FullLemmas.{no_fib_fault}
use Rattle.cfb_in_place.proofs.Public.{ok_more}

-- a copy of a sound document
pub sound_copy : {E : Type 0} (r : Result Document E) (inside view : Document) → inside ≡ view → IsSound inside →
    IfOk r (λ copy. copy ≡ inside) → IfOk r (λ document. (document ≡ view) × IsSound document)
sound_copy r inside view same sound copied =
    ok_more r (λ copy. copy ≡ inside) (λ document. (document ≡ view) × IsSound document)
    (λ document is. (is ∙ same, subst IsSound (sym is) sound)) copied

-- a FIB is read that breaks no rule
pub fib_is_read : (wd : List ℕ) (r : Result FibFields FibFault) → Hold (fib_rules wd) →
    MatchResult r (λ fib. Hold (fib_rules wd) × (fib ≡ fib_fields wd))
    (λ fault. IsFirstOffset (fib_rules wd) fault.rule fault.offset) → IsOk r
fib_is_read wd (Ok fib) holds read = refl
fib_is_read wd (Err fault) holds read = absurd (no_fib_fault wd fault.rule fault.offset holds read)

-- the main text of a sound document has an item
pub some_item : (document : Document) → IsSound document → 0 < length document.main
some_item document sound = let last = main_ends document (sound_is_valid document sound) in last.some
