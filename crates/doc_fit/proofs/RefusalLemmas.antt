-- What a rule that is broken tells of a file: where it is one on the program, WordDocument is there.
use Rattle.std.proofs.Common.{◌≡◌, ◌⊎◌, ◌<◌, refl, sym, subst, inl, inr, ℕ, List, length, arith}
use Rattle.std.proofs.lemmas.Bool.{cases_lt}
use Rattle.doc_bits.specs.declared.places.Where.TheVariants.{File, Wd}
use Rattle.doc_bits.specs.Number.{u16_at}
use Rattle.doc_bits.specs.Rules.{rule, Hold}
use Rattle.doc_bits.specs.Places.{Place, Upto, IsFirstPlace, rules_in}
use Rattle.doc_bits.proofs.Public.{breaks_within, first_breaks}
use Rattle.cfb_streams.specs.Contents.{Contents, HasNamed}
use Rattle.cfb_streams.specs.Container.{outer_rules, HasContents}
use Rattle.cfb_streams.specs.Names.{wd_name}
use Rattle.cfb_streams.proofs.Public.{contents_unique}
use Rattle.fib_versions.specs.VersionRules.{IsShortFib}
use Rattle.doc_lift.specs.LiftedRules.{lifted_wd_rules}
use Rattle.doc_lift.specs.LiftedFiles.{lifted_rules}
use Rattle.file_rules.proofs.Public.{ascends_in}
use Rattle.doc_lift.proofs.Public.{outer_ascends}
use Rattle.run_stages.specs.Lines.{rule_line}
use Rattle.run_stages.specs.Outcomes.{Outcome, says}
use Rattle.doc_fit.specs.declared.refusing.FibVersion.{FibVersion}
use Rattle.doc_fit.specs.Rules.{fit_rules}
use Rattle.doc_fit.specs.Lines.{encrypted_line, not_word_line}
use Rattle.doc_fit.specs.Refusals.{HasMainStream, HasOneMain, IsFitRefused, IsRefusalStatus, IsVersionIn}
use Rattle.doc_fit.specs.Refusals.{IsVersionOf}

-- the stream is long enough for the rules on the program
long_main : (file : List ℕ) (contents : Contents) (wd : List ℕ) → HasContents file contents →
    HasNamed contents.streams wd_name wd → Hold (rules_in Wd (rule 16 (IsShortFib wd))) → HasMainStream file
long_main file contents wd has named hold = record {
  contents = contents;
  has = has;
  wd = wd;
  named = named;
  long = elim (cases_lt (length wd) 900) [
    | inl short ↦ absurd (hold (Wd, length wd) (refl, (refl, inl short)))
    | inr most ↦ omega (arith, most)
  ];
}

-- where the rules 1 to 57 hold the stream is there
held_main : (file : List ℕ) → Hold (lifted_rules file) → HasMainStream file
held_main file hold =
    let contents = hold.1.0 in
    let inner = hold.1.1.1 in
    long_main file contents inner.1.0 hold.1.1.0 inner.1.1.0 inner.1.1.1.0.0

wd_main : (file : List ℕ) (contents : Contents) (wd : List ℕ) (number : ℕ) (place : Place) →
    HasContents file contents → HasNamed contents.streams wd_name wd → 16 < number →
    IsFirstPlace (lifted_wd_rules contents wd) number place → HasMainStream file
wd_main file contents wd number place has named above (inl (inl short)) =
    let is = short.0 in absurd (omega (arith, is, above))
wd_main file contents wd number place has named above (inl (inr later)) = long_main file contents wd has named later.0
wd_main file contents wd number place has named above (inr later) = long_main file contents wd has named later.0.0

lifted_main : (file : List ℕ) (number : ℕ) (place : Place) → 16 < number →
    IsFirstPlace (lifted_rules file) number place → HasMainStream file
lifted_main file number place above (inl outer) =
    let up = ascends_in File (outer_rules file) 1 15 (outer_ascends file) in
    let within = breaks_within (rules_in File (outer_rules file)) 1 15 number place up
    (first_breaks Upto (rules_in File (outer_rules file)) number place outer) in
    absurd (omega (arith, within.1, above))
lifted_main file number place above (inr (hold, (contents, (has, inl none)))) =
    let is = none.0 in absurd (omega (arith, is, above))
lifted_main file number place above (inr (hold, (contents, (has, inr (there, (wd, (named, first))))))) =
    wd_main file contents wd number place has named above first

pub has_main : (file : List ℕ) (number : ℕ) (place : Place) → 16 < number →
    IsFirstPlace (fit_rules file) number place → HasMainStream file
has_main file number place above (inl first) = lifted_main file number place above first
has_main file number place above (inr later) = held_main file later.0

-- the rules on the program
pub above_main : (number : ℕ) → (number ≡ 17) ⊎ (number ≡ 18) → 16 < number
above_main number (inl e) = omega (arith, e)
above_main number (inr e) = omega (arith, e)

-- its streams have it
pub one_main : (file : List ℕ) (contents : Contents) → HasMainStream file → HasContents file contents →
    HasOneMain contents
one_main file contents main has =
    let same : main.contents ≡ contents = contents_unique file main.contents contents main.has has in
    record {
      file = file;
      has = has;
      wd = main.wd;
      named = subst (λ (c : Contents). HasNamed c.streams wd_name main.wd) same main.named;
      long = main.long;
    }

-- the found of its streams is that of the file
pub version_of_file : (file : List ℕ) (contents : Contents) (found : FibVersion) → HasContents file contents →
    IsVersionIn contents found → IsVersionOf file found
version_of_file file contents found has is = record {
  stream = record { contents = contents; has = has; wd = is.wd; named = is.named; long = is.long };
  ident = is.ident;
  version = is.version;
}

-- a file that breaks a rule first is refused by it, with the status of the rule
pub refused_by : (file name : List ℕ) (number status : ℕ) (place : Place) →
    IsFirstPlace (fit_rules file) number place → IsRefusalStatus number status →
    (outcome : Outcome) × (IsFitRefused file name outcome × (outcome.status ≡ status))
refused_by file name number status place first (inl (tells, is)) =
    let main = has_main file number place (above_main number tells) first in (
      says 15 (not_word_line name (u16_at main.wd 0) (u16_at main.wd 2)),
      (
        record {
          rule = number;
          place = place;
          first = first;
          ends = inl (tells, record { stream = main; ends = refl });
        },
        sym is,
      ),
    )
refused_by file name number status place first (inr (inl (encrypted, is))) = (
  says 16 (encrypted_line name),
  (record { rule = number; place = place; first = first; ends = inr (inl (encrypted, refl)) }, sym is),
)
refused_by file name number status place first (inr (inr (other, is))) = (
  says 1 (rule_line name number place),
  (record { rule = number; place = place; first = first; ends = inr (inr (other, refl)) }, sym is),
)
