-- An edit has one outcome.
use Rattle.std.proofs.Common.{◌≡◌, refl, sym, ap, subst, ℕ}
use Rattle.doc_bits.specs.declared.places.Where.{Where}
use Rattle.doc_bits.specs.Places.{Place, Upto}
use Rattle.doc_bits.proofs.Public.{place_one, first_agrees, hold_or_first}
use Rattle.doc_model.specs.declared.document.Document.{Document}
use Rattle.plain_doc.specs.Sound.{document_rules}
use Rattle.plain_doc.proofs.Public.{document_rules-IsSingle}
use Rattle.edit_script.specs.declared.commands.Command.{Command}
use Rattle.edit_ops.specs.declared.faults.EditFault.{EditFault}
use Rattle.edit_ops.specs.declared.faults.EditFault.TheVariants.{Range, Code, Rule, Limit, Memory}
use Rattle.edit_ops.specs.Edits.{document_after}
use Rattle.edit_ops.specs.Causes.{IsEditFault, IsAcceptedEdit, BreaksFirst, IsLimit}
use Rattle.edit_ops.specs.Laws.{IsEditCause, EditHasOneOutcome}

-- ---- faults

record IsSameFault (rule other : ℕ) (place there : Where) (at then : ℕ) : Type 0 where
  rules : rule ≡ other
  places : place ≡ there
  offsets : at ≡ then

breaks_one : (d : Document) (c : Command) (rule other : ℕ) (place there : Where) (at then : ℕ) → BreaksFirst d c rule
    place at → BreaksFirst d c other there then → IsSameFault rule other place there at then
breaks_one d c rule other place there at then a b =
    let ab = first_agrees Upto (document_rules (document_after d c)) rule other (place, at) (there, then)
    (document_rules-IsSingle (document_after d c)) a.first b.first in
    let ba = first_agrees Upto (document_rules (document_after d c)) other rule (there, then) (place, at)
    (document_rules-IsSingle (document_after d c)) b.first a.first in
    let one = place_one (place, at) (there, then) ab.1 ba.1 in
    record { rules = ab.0; places = ap (λ (p : Place). p.0) one; offsets = ap (λ (p : Place). p.1) one }

rule_one : (rule other : ℕ) (place there : Where) (at then : ℕ) → IsSameFault rule other place there at then →
    Rule rule place at ≡ Rule other there then
rule_one rule other place there at then same =
    let r = same.rules in
    let p = same.places in
    let o = same.offsets in
    λ i. Rule (r i) (p i) (o i)

limit_one : (rule other : ℕ) (place there : Where) (at then : ℕ) → IsSameFault rule other place there at then →
    Limit rule place at ≡ Limit other there then
limit_one rule other place there at then same =
    let r = same.rules in
    let p = same.places in
    let o = same.offsets in
    λ i. Limit (r i) (p i) (o i)

limit_of : (rule other : ℕ) → rule ≡ other → IsLimit rule → IsLimit other
limit_of rule other e limit = subst (λ r. IsLimit r) e limit

pub one_fault : (document : Document) (command : Command) (one other : EditFault) → IsEditCause one → IsEditCause other
    →
    IsEditFault document command one → IsEditFault document command other → one ≡ other
one_fault d c Memory other cause others a b = absurd cause
one_fault d c Range Memory cause others a b = absurd others
one_fault d c Range Range cause others a b = refl
one_fault d c Range Code cause others a b = absurd (a b.0)
one_fault d c Range (Rule r p o) cause others a b = absurd (a b.0.tried.range)
one_fault d c Range (Limit r p o) cause others a b = absurd (a b.0.tried.range)
one_fault d c Code Memory cause others a b = absurd others
one_fault d c Code Range cause others a b = absurd (b a.0)
one_fault d c Code Code cause others a b = refl
one_fault d c Code (Rule r p o) cause others a b = absurd (a.1 b.0.tried.codes)
one_fault d c Code (Limit r p o) cause others a b = absurd (a.1 b.0.tried.codes)
one_fault d c (Rule r p o) Memory cause others a b = absurd others
one_fault d c (Rule r p o) Range cause others a b = absurd (b a.0.tried.range)
one_fault d c (Rule r p o) Code cause others a b = absurd (b.1 a.0.tried.codes)
one_fault d c (Rule r p o) (Rule s q n) cause others a b = rule_one r s p q o n (breaks_one d c r s p q o n a.0 b.0)
one_fault d c (Rule r p o) (Limit s q n) cause others a b = absurd (a.1 (limit_of s r (sym (breaks_one d c r s p q o n
    a.0 b.0).rules) b.1))
one_fault d c (Limit r p o) Memory cause others a b = absurd others
one_fault d c (Limit r p o) Range cause others a b = absurd (b a.0.tried.range)
one_fault d c (Limit r p o) Code cause others a b = absurd (b.1 a.0.tried.codes)
one_fault d c (Limit r p o) (Rule s q n) cause others a b = absurd (b.1 (limit_of r s (breaks_one d c r s p q o n a.0
    b.0).rules a.1))
one_fault d c (Limit r p o) (Limit s q n) cause others a b = limit_one r s p q o n (breaks_one d c r s p q o n a.0 b.0)

pub no_fault : (document : Document) (command : Command) (fault : EditFault) → IsEditCause fault → IsAcceptedEdit
    document
    command → ¬ (IsEditFault document command fault)
no_fault d c Memory cause accepted b = cause
no_fault d c Range cause accepted b = b accepted.tried.range
no_fault d c Code cause accepted b = b.1 accepted.tried.codes
no_fault d c (Rule r p o) cause accepted b = hold_or_first Upto (document_rules (document_after d c)) r (
  p,
  o,
) (document_rules-IsSingle (document_after d c)) accepted.sound.rules b.0.first
no_fault d c (Limit r p o) cause accepted b = hold_or_first Upto (document_rules (document_after d c)) r (
  p,
  o,
) (document_rules-IsSingle (document_after d c)) accepted.sound.rules b.0.first

pub one_outcome : EditHasOneOutcome
one_outcome = record { one = one_fault; none = no_fault }
