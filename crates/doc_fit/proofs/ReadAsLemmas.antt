-- What is read in place of a file is one, and an accepted file is read as it is.
use Rattle.std.proofs.Common.{◌≡◌, ◌≢◌, ◌⊎◌, ◌∙◌, inl, inr, refl, sym, ap, subst, ℕ, Bool, zero, suc, ◌-◌, List, [], ◌∷◌}
use Rattle.std.proofs.Common.{◌++◌, ◌<◌, length, Option, Some, None, MatchOption, Ok, Err, arith, append-nil, append_assoc}
use Rattle.doc_bits.specs.declared.places.Where.TheVariants.{File}
use Rattle.doc_bits.specs.Number.{AreBytes}
use Rattle.doc_bits.specs.Rules.{Hold}
use Rattle.doc_bits.specs.Places.{Place, Upto, IsFirstPlace}
use Rattle.doc_bits.proofs.Public.{place_one, first_agrees, hold_or_first}
use Rattle.cfb_streams.specs.Container.{outer_rules}
use Rattle.doc_read.specs.Holds.{IsAccepted, all_rules}
use Rattle.doc_read.proofs.Public.{all_single}
use Rattle.file_mends.specs.declared.mends.FileMend.{FileMend}
use Rattle.file_mends.specs.Sectors.{FillsSector, IsCutFile}
use Rattle.file_rules.specs.declared.fault.ReadFault.{ReadFault}
use Rattle.file_rules.specs.Faults.{IsReadFault}
use Rattle.file_mends.specs.Mends.{FileCopy, IsMendedBy, MendsRule, StaysUnmended, bytes_read}
use Rattle.file_mends.specs.Stops.{ReadsStops, HasNoStops}
use Rattle.file_mends.proofs.Public.{mend_one, mend_bytes, mend_hold, fill_one, fill_bytes, stops_bytes, stops_hold}
use Rattle.file_mends.proofs.Public.{stops_one}
use Rattle.doc_fit.specs.declared.opening.OpenedAny.{OpenedAny}
use Rattle.doc_fit.specs.declared.file_opening.OpenedFile.{OpenedFile}
use Rattle.doc_fit.specs.Noted.{IsOpenedFit}
use Rattle.doc_fit.specs.Rules.{fit_rules}
use Rattle.doc_fit.specs.ReadAs.{MendsFirst, HasNoMend, MendsInTurn, MendsRules, most_mends, GivesStops, IsGiven, IsMendedRead}
use Rattle.doc_fit.specs.ReadAs.{IsOpenedFile, MendsCopyFirst, StaysFirst, IsMendedOn}
use Rattle.doc_fit.proofs.MeaningLemmas.{fit_single}

-- ---- the first broken rule

-- a file has one first broken rule
pub record AreOneFault (a b : ℕ) (p q : Place) : Type 0 where
  pub rule : a ≡ b
  pub place : p ≡ q

first_one : (file : List ℕ) (a b : ℕ) (p q : Place) → AreBytes file → IsFirstPlace (fit_rules file) a p →
    IsFirstPlace (fit_rules file) b q → AreOneFault a b p q
first_one file a b p q bytes x y =
    let single = fit_single file bytes in
    let xy = first_agrees Upto (fit_rules file) a b p q single x y in
    let yx = first_agrees Upto (fit_rules file) b a q p single y x in
    record { rule = xy.0; place = place_one p q xy.1 yx.1 }

-- a file that breaks no rule has none to mend
pub none_held : (file : List ℕ) → AreBytes file → Hold (fit_rules file) → HasNoMend file
none_held file bytes hold mend mended is =
    hold_or_first Upto (fit_rules file) is.rule is.place (fit_single file bytes) hold is.first

-- and so has one whose first broken rule is not mended
pub none_refused : (file : List ℕ) (rule : ℕ) (place : Place) → AreBytes file →
    IsFirstPlace (fit_rules file) rule place →
    ((mend : FileMend) (mended : List ℕ) → ¬ MendsRule file rule place.1 mend mended) → HasNoMend file
none_refused file rule place bytes first none mend mended is =
    let one = first_one file is.rule rule is.place place bytes is.first first in
    none mend mended
    (subst (λ (p : Place). MendsRule file rule p.1 mend mended) one.place
    (subst (λ r. MendsRule file r is.place.1 mend mended) one.rule is.mends))

-- ---- in one way

mends_first_one : (file : List ℕ) (mend other : FileMend) (a b : List ℕ) → AreBytes file → MendsFirst file mend a →
    MendsFirst file other b → (mend ≡ other) × (a ≡ b)
mends_first_one file mend other a b bytes x y =
    let one = first_one file x.rule y.rule x.place y.place bytes x.first y.first in
    mend_one file y.rule y.place.1 mend other a b
    (subst (λ (p : Place). MendsRule file y.rule p.1 mend a) one.place
    (subst (λ r. MendsRule file r x.place.1 mend a) one.rule x.mends)) y.mends

first_bytes : (file : List ℕ) (mend : FileMend) (mended : List ℕ) → AreBytes file → MendsFirst file mend mended →
    AreBytes mended
first_bytes file mend mended bytes is = mend_bytes file is.rule is.place.1 mend mended bytes is.mends

no_more : (P : Type 0) (more : ℕ) (file : List ℕ) (mend : FileMend) (mended : List ℕ) →
    (suc more ≡ 0) ⊎ HasNoMend file → MendsFirst file mend mended → P
no_more P more file mend mended (inl e) is = absurd (omega (arith, e))
no_more P more file mend mended (inr none) is = absurd (none mend mended is)

in_turn_one : (most : ℕ) (file : List ℕ) (mends others : List FileMend) (a b : List ℕ) → AreBytes file →
    MendsInTurn most file mends a → MendsInTurn most file others b → (mends ≡ others) × (a ≡ b)
in_turn_one most file [] [] a b bytes x y = (refl, x.0 ∙ sym y.0)
in_turn_one zero file [] (other ∷ others) a b bytes x y = absurd y
in_turn_one (suc more) file [] (other ∷ others) a b bytes x y =
    no_more (([] ≡ other ∷ others) × (a ≡ b)) more file other y.0 x.1 y.1.0
in_turn_one zero file (mend ∷ mends) others a b bytes x y = absurd x
in_turn_one (suc more) file (mend ∷ mends) [] a b bytes x y =
    no_more ((mend ∷ mends ≡ []) × (a ≡ b)) more file mend x.0 y.1 x.1.0
in_turn_one (suc more) file (mend ∷ mends) (other ∷ others) a b bytes x y =
    let one = mends_first_one file mend other x.0 y.0 bytes x.1.0 y.1.0 in
    let rest =
    in_turn_one more y.0 mends others a b (first_bytes file other y.0 bytes y.1.0)
    (subst (λ f. MendsInTurn more f mends a) one.1 x.1.1) y.1.1 in
    (ap (λ (m : FileMend). m ∷ mends) one.0 ∙ ap (λ (l : List FileMend). other ∷ l) rest.0, rest.1)

in_turn_bytes : (most : ℕ) (file : List ℕ) (mends : List FileMend) (read : List ℕ) → AreBytes file →
    MendsInTurn most file mends read → AreBytes read
in_turn_bytes most file [] read bytes is = subst AreBytes (sym is.0) bytes
in_turn_bytes zero file (mend ∷ mends) read bytes is = absurd is
in_turn_bytes (suc more) file (mend ∷ mends) read bytes is =
    in_turn_bytes more is.0 mends read (first_bytes file mend is.0 bytes is.1.0) is.1.1

-- mends of a file that has none
none_in_turn : (most : ℕ) (whole : List ℕ) (mends : List FileMend) (read : List ℕ) → HasNoMend whole →
    MendsInTurn most whole mends read → (mends ≡ []) × (read ≡ whole)
none_in_turn most whole [] read none is = (refl, is.0)
none_in_turn zero whole (mend ∷ mends) read none is = absurd is
none_in_turn (suc more) whole (mend ∷ mends) read none is = absurd (none mend is.0 is.1.0)

-- what stays, and what is mended in turn
stays_one : (file whole : List ℕ) (mends others : List FileMend) (a b : List ℕ) →
    IsAccepted file ⊎ HasNoMend whole → (mends ≡ []) × (a ≡ whole) → ¬ IsAccepted file →
    MendsInTurn most_mends whole others b → (mends ≡ others) × (a ≡ b)
stays_one file whole mends others a b (inl accepted) x refused y = absurd (refused accepted)
stays_one file whole mends others a b (inr none) x refused y =
    let z = none_in_turn most_mends whole others b none y in (x.0 ∙ sym z.0, x.1 ∙ sym z.1)

rules_one : (file whole : List ℕ) (mends others : List FileMend) (a b : List ℕ) → AreBytes whole →
    MendsRules file whole mends a → MendsRules file whole others b → (mends ≡ others) × (a ≡ b)
rules_one file whole mends others a b bytes (inl x) (inl y) = (x.1.0 ∙ sym y.1.0, x.1.1 ∙ sym y.1.1)
rules_one file whole mends others a b bytes (inl x) (inr y) = stays_one file whole mends others a b x.0 x.1 y.0 y.1
rules_one file whole mends others a b bytes (inr x) (inl y) =
    let one = stays_one file whole others mends b a y.0 y.1 x.0 x.1 in (sym one.0, sym one.1)
rules_one file whole mends others a b bytes (inr x) (inr y) =
    in_turn_one most_mends whole mends others a b bytes x.1 y.1

rules_bytes : (file whole : List ℕ) (mends : List FileMend) (read : List ℕ) → AreBytes whole →
    MendsRules file whole mends read → AreBytes read
rules_bytes file whole mends read bytes (inl x) = subst AreBytes (sym x.1.1) bytes
rules_bytes file whole mends read bytes (inr x) = in_turn_bytes most_mends whole mends read bytes x.1

-- the stops are read in one way
gives_one : (file whole : List ℕ) (mends others : List FileMend) (a b : List ℕ) → GivesStops file whole mends a →
    GivesStops file whole others b → (mends ≡ others) × (a ≡ b)
gives_one file whole mends others a b (inl (xn, (x, (xr, xm)))) (inl (yn, (y, (yr, ym)))) =
    let one = stops_one whole x y a b xr yr in
    (xm ∙ (ap (λ (m : FileMend). m ∷ []) one.0 ∙ sym ym), one.1)
gives_one file whole mends others a b (inl (xn, (x, (xr, xm)))) (inr (inl accepted, y)) = absurd (xn accepted)
gives_one file whole mends others a b (inl (xn, (x, (xr, xm)))) (inr (inr none, y)) = absurd (none x a xr)
gives_one file whole mends others a b (inr (inl accepted, x)) (inl (yn, (y, (yr, ym)))) = absurd (yn accepted)
gives_one file whole mends others a b (inr (inr none, x)) (inl (yn, (y, (yr, ym)))) = absurd (none y b yr)
gives_one file whole mends others a b (inr (xn, x)) (inr (yn, y)) = (x.0 ∙ sym y.0, x.1 ∙ sym y.1)

given_one : (file : List ℕ) (mends others : List FileMend) (a b : List ℕ) → IsGiven file mends a →
    IsGiven file others b → (mends ≡ others) × (a ≡ b)
given_one file mends others a b x y =
    let filled = fill_one file x.sector y.sector x.whole y.whole x.fills y.fills in
    let rest =
    gives_one file y.whole x.stops y.stops a b (subst (λ w. GivesStops file w x.stops a) filled.1 x.reads) y.reads in (
      x.mends_are
          ∙ (ap (λ (s : List FileMend). s ++ x.stops) filled.0
          ∙ (ap (λ (p : List FileMend). y.sector ++ p) rest.0 ∙ sym y.mends_are)),
      rest.1,
    )

gives_bytes : (file whole : List ℕ) (mends : List FileMend) (given : List ℕ) → AreBytes whole →
    GivesStops file whole mends given → AreBytes given
gives_bytes file whole mends given bytes (inl (refused, (mend, (reads, is)))) = stops_bytes whole mend given bytes reads
gives_bytes file whole mends given bytes (inr (why, is)) = subst AreBytes (sym is.1) bytes

given_bytes : (file : List ℕ) (mends : List FileMend) (given : List ℕ) → AreBytes file → IsGiven file mends given →
    AreBytes given
given_bytes file mends given bytes is =
    gives_bytes file is.whole is.stops given (fill_bytes file is.sector is.whole bytes is.fills) is.reads

-- a file is read in one way, with the same mends
pub record AreOneRead (mends others : List FileMend) (a b : List ℕ) : Type 0 where
  pub mends_same : mends ≡ others
  pub read : a ≡ b

pub read_one : (file : List ℕ) (mends others : List FileMend) (a b : List ℕ) → AreBytes file → IsMendedRead file mends a
    →
    IsMendedRead file others b → AreOneRead mends others a b
read_one file mends others a b bytes x y =
    let given = given_one file x.before y.before x.given y.given x.is_given y.is_given in
    let rest =
    rules_one file y.given x.parts y.parts a b (given_bytes file y.before y.given bytes y.is_given)
    (subst (λ w. MendsRules file w x.parts a) given.1 x.emptied) y.emptied in
    record {
      mends_same =
          x.mends_are
          ∙ (ap (λ (s : List FileMend). s ++ x.parts) given.0
          ∙ (ap (λ (p : List FileMend). y.before ++ p) rest.0 ∙ sym y.mends_are));
      read = rest.1;
    }

-- what is read is a list of bytes
pub read_bytes : (file : List ℕ) (mends : List FileMend) (read : List ℕ) → AreBytes file → IsMendedRead file mends read
    →
    AreBytes read
read_bytes file mends read bytes is =
    rules_bytes file is.given is.parts read (given_bytes file is.before is.given bytes is.is_given) is.emptied

-- ---- accepted files

-- the last sector of an accepted file is whole
whole_accepted : (file : List ℕ) → IsAccepted file → ¬ IsCutFile file
whole_accepted file accepted cut =
    accepted.0.0.0.0 (File, _) (refl, record { here = refl; wrong = inl cut.cut })

fills_none : (file : List ℕ) (mends : List FileMend) (filled : List ℕ) → IsAccepted file →
    FillsSector file mends filled → (mends ≡ []) × (filled ≡ file)
fills_none file mends filled accepted (inl x) = absurd (whole_accepted file accepted x.cut)
fills_none file mends filled accepted (inr x) = (x.none, x.same)

gives_none : (file whole : List ℕ) (mends : List FileMend) (given : List ℕ) → IsAccepted file →
    GivesStops file whole mends given → (mends ≡ []) × (given ≡ whole)
gives_none file whole mends given accepted (inl (refused, x)) = absurd (refused accepted)
gives_none file whole mends given accepted (inr (why, x)) = x

given_none : (file : List ℕ) (mends : List FileMend) (given : List ℕ) → IsAccepted file → IsGiven file mends given →
    (mends ≡ []) × (given ≡ file)
given_none file mends given accepted is =
    let filled = fills_none file is.sector is.whole accepted is.fills in
    let rest = gives_none file is.whole is.stops given accepted is.reads in (
      is.mends_are
          ∙ (ap (λ (s : List FileMend). s ++ is.stops) filled.0 ∙ ap (λ (p : List FileMend). [] ++ p) rest.0),
      rest.1 ∙ filled.1,
    )

rules_none : (file whole : List ℕ) (mends : List FileMend) (read : List ℕ) → IsAccepted file →
    MendsRules file whole mends read → (mends ≡ []) × (read ≡ whole)
rules_none file whole mends read accepted (inl x) = x.1
rules_none file whole mends read accepted (inr x) = absurd (x.0 accepted)

pub accepted_read : (file : List ℕ) (mends : List FileMend) (read : List ℕ) → IsAccepted file →
    IsMendedRead file mends read → AreOneRead mends [] read file
accepted_read file mends read accepted is =
    let given = given_none file is.before is.given accepted is.is_given in
    let rest = rules_none file is.given is.parts read accepted is.emptied in
    record {
      mends_same =
          is.mends_are
          ∙ (ap (λ (s : List FileMend). s ++ is.parts) given.0 ∙ ap (λ (p : List FileMend). [] ++ p) rest.0);
      read = rest.1 ∙ given.1;
    }

-- ---- what is opened

-- a file that is opened at once
pub opened_at_once : (plain : Bool) (file : List ℕ) (copy : FileCopy) (opened : OpenedAny) → AreBytes (bytes_read file copy) →
    IsGiven file copy.mends (bytes_read file copy) → IsOpenedFit plain (bytes_read file copy) opened →
    IsOpenedFile plain file (record { mended = copy; opened = Ok opened })
opened_at_once plain file copy opened bytes given is =
    let read = bytes_read file copy in
    record {
      read_as = record {
        given = read;
        before = copy.mends;
        is_given = given;
        parts = [];
        mends_are = sym (append-nil copy.mends);
        emptied = inl (inr (none_held read bytes is.holds), (refl, refl));
      };
      opened = is;
    }

-- an accepted file is refused by the rule that it is found to break
pub refused_accepted : (plain : Bool) (file : List ℕ) (copy : FileCopy) (fault : ReadFault) →
    IsGiven file copy.mends (bytes_read file copy) → IsAccepted file →
    IsReadFault (fit_rules (bytes_read file copy)) fault →
    IsOpenedFile plain file (record { mended = copy; opened = Err fault })
refused_accepted plain file copy fault given accepted refused = record {
  read_as = record {
    given = bytes_read file copy;
    before = copy.mends;
    is_given = given;
    parts = [];
    mends_are = sym (append-nil copy.mends);
    emptied = inl (inl accepted, (refl, refl));
  };
  opened = refused;
}

-- another one is mended
pub opened_mended : (plain : Bool) (file : List ℕ) (copy : FileCopy) (found : OpenedFile) →
    IsGiven file copy.mends (bytes_read file copy) → ¬ (IsAccepted file) →
    IsMendedOn plain file most_mends copy found → IsOpenedFile plain file found
opened_mended plain file copy found given refused is = record {
  read_as = record {
    given = bytes_read file copy;
    before = copy.mends;
    is_given = given;
    parts = is.more;
    mends_are = is.mends_are;
    emptied = inr (refused, is.in_turn);
  };
  opened = is.opened;
}

-- ---- stops that are read

-- the file has none
pub given_as_filled : (file : List ℕ) (copy : FileCopy) → FillsSector file copy.mends (bytes_read file copy) →
    IsAccepted file ⊎ HasNoStops (bytes_read file copy) → IsGiven file copy.mends (bytes_read file copy)
given_as_filled file copy fills why = record {
  whole = bytes_read file copy;
  sector = copy.mends;
  fills = fills;
  stops = [];
  reads = inr (why, (refl, refl));
  mends_are = sym (append-nil copy.mends);
}

-- they are read
pub given_read : (file : List ℕ) (old new : FileCopy) (mend : FileMend) (copy : List ℕ) →
    FillsSector file old.mends (bytes_read file old) → ¬ (IsAccepted file) →
    ReadsStops (bytes_read file old) mend copy →
    new ≡ record { copy = Some copy; mends = old.mends ++ mend ∷ [] } →
    IsGiven file new.mends (bytes_read file new)
given_read file old new mend copy fills refused reads is =
    subst (λ (n : FileCopy). IsGiven file n.mends (bytes_read file n)) (sym is)
    (record {
      whole = bytes_read file old;
      sector = old.mends;
      fills = fills;
      stops = mend ∷ [];
      reads = inl (refused, (mend, (reads, refl)));
      mends_are = refl;
    })

-- ---- the first fault

-- a mend of the first broken rule, or none
pub first_mended : (file : List ℕ) (old new : FileCopy) (rule : ℕ) (place : Place) (mend : Option FileMend) →
    AreBytes (bytes_read file old) → IsFirstPlace (fit_rules (bytes_read file old)) rule place →
    MatchOption mend (StaysUnmended file rule place.1 old new) (IsMendedBy file rule place.1 old new) →
    MatchOption mend (StaysFirst file old new) (MendsCopyFirst file old new)
first_mended file old new rule place None bytes first is =
    record { same = is.same; none = none_refused (bytes_read file old) rule place bytes first is.none }
first_mended file old new rule place (Some mend) bytes first is =
    record { mends = record { rule = rule; place = place; first = first; mends = is.mends }; list = is.list }

-- a file that docbin refuses is not accepted
pub refused_not_accepted : (file : List ℕ) (rule : ℕ) (place : Place) → IsFirstPlace (all_rules file) rule place →
    ¬ (IsAccepted file)
refused_not_accepted file rule place first accepted =
    hold_or_first Upto (all_rules file) rule place (all_single file) accepted first

-- no mend more is made
pub ends_refused : (plain : Bool) (file : List ℕ) (most : ℕ) (copy : FileCopy) (fault : ReadFault) →
    (most ≡ 0) ⊎ HasNoMend (bytes_read file copy) → IsReadFault (fit_rules (bytes_read file copy)) fault →
    IsMendedOn plain file most copy (record { mended = copy; opened = Err fault })
ends_refused plain file most copy fault ends refused = record {
  more = [];
  mends_are = sym (append-nil copy.mends);
  in_turn = (refl, ends);
  opened = refused;
}

-- no mend was made
pub ends_unmended : (plain : Bool) (file : List ℕ) (most : ℕ) (old new : FileCopy) (mend : Option FileMend) (fault : ReadFault) →
    mend ≡ None → MatchOption mend (StaysFirst file old new) (MendsCopyFirst file old new) →
    IsReadFault (fit_rules (bytes_read file old)) fault →
    IsMendedOn plain file most old (record { mended = new; opened = Err fault })
ends_unmended plain file most old new mend fault is made refused =
    let stays : StaysFirst file old new =
    subst (λ m. MatchOption m (StaysFirst file old new) (MendsCopyFirst file old new)) is made in
    subst (λ (n : FileCopy). IsMendedOn plain file most old (record { mended = n; opened = Err fault })) (sym stays.same)
    (ends_refused plain file most old fault (inr stays.none) refused)

-- one was made
pub first_made : (file : List ℕ) (old new : FileCopy) (mend : Option FileMend) (made : FileMend) → mend ≡ Some made →
    MatchOption mend (StaysFirst file old new) (MendsCopyFirst file old new) → MendsCopyFirst file old new made
first_made file old new mend made is first =
    subst (λ m. MatchOption m (StaysFirst file old new) (MendsCopyFirst file old new)) is first

-- what is read is opened
pub ends_opened : (plain : Bool) (file : List ℕ) (most : ℕ) (copy : FileCopy) (opened : OpenedAny) →
    AreBytes (bytes_read file copy) → IsOpenedFit plain (bytes_read file copy) opened →
    IsMendedOn plain file most copy (record { mended = copy; opened = Ok opened })
ends_opened plain file most copy opened bytes is = record {
  more = [];
  mends_are = sym (append-nil copy.mends);
  in_turn = (refl, inr (none_held (bytes_read file copy) bytes is.holds));
  opened = is;
}

-- one mend, and those behind it
pub mends_more : (plain : Bool) (file : List ℕ) (most : ℕ) (old new : FileCopy) (mend : FileMend) (found : OpenedFile) → most ≢ 0 →
    MendsCopyFirst file old new mend → IsMendedOn plain file (most - 1) new found → IsMendedOn plain file most old found
mends_more plain file most old new mend found some first is =
    let up : suc (most - 1) ≡ most = omega (arith, some) in
    record {
      more = mend ∷ is.more;
      mends_are =
          is.mends_are
          ∙ (ap (λ (l : List FileMend). l ++ is.more) first.list ∙ append_assoc old.mends (mend ∷ []) is.more);
      in_turn =
          subst
          (λ n. MendsInTurn n (bytes_read file old) (mend ∷ is.more) (bytes_read file found.mended)) up
          (bytes_read file new, (first.mends, is.in_turn));
      opened = is.opened;
    }

-- ---- files that are too long

-- a longer file than a file may be is no container
outer_short : (file : List ℕ) → Hold (outer_rules file) → 7143936 < length file → ⊥
outer_short file hold long =
    hold.0.0 7143937 (record { here = omega (arith, long); wrong = inr (inr long) })

long_in_turn : (most : ℕ) (file : List ℕ) (mends : List FileMend) (read : List ℕ) → 7143936 < length file →
    MendsInTurn most file mends read → read ≡ file
long_in_turn most file [] read long is = is.0
long_in_turn zero file (mend ∷ mends) read long is = absurd is
long_in_turn (suc more) file (mend ∷ mends) read long is =
    let first = is.1.0 in
    absurd (outer_short file (mend_hold file first.rule first.place.1 mend is.0 first.mends) long)

long_rules : (file whole : List ℕ) (mends : List FileMend) (read : List ℕ) → 7143936 < length whole →
    MendsRules file whole mends read → read ≡ whole
long_rules file whole mends read long (inl x) = x.1.1
long_rules file whole mends read long (inr x) = long_in_turn most_mends whole mends read long x.1

long_fills : (file : List ℕ) (mends : List FileMend) (filled : List ℕ) → 7143936 < length file →
    FillsSector file mends filled → filled ≡ file
long_fills file mends filled long (inl x) =
    let cut = x.cut in let most = cut.most in absurd (omega (arith, most, long))
long_fills file mends filled long (inr x) = x.same

long_gives : (file whole : List ℕ) (mends : List FileMend) (given : List ℕ) → 7143936 < length whole →
    GivesStops file whole mends given → given ≡ whole
long_gives file whole mends given long (inl (refused, (mend, (reads, is)))) =
    absurd (outer_short whole (stops_hold whole mend given reads) long)
long_gives file whole mends given long (inr (why, is)) = is.1

long_given : (file : List ℕ) (mends : List FileMend) (given : List ℕ) → 7143936 < length file →
    IsGiven file mends given → given ≡ file
long_given file mends given long is =
    let whole : is.whole ≡ file = long_fills file is.sector is.whole long is.fills in
    long_gives file is.whole is.stops given (subst (λ (w : List ℕ). 7143936 < length w) (sym whole) long) is.reads
    ∙ whole

-- such a file is read as it is
pub long_read : (file : List ℕ) (mends : List FileMend) (read : List ℕ) → 7143936 < length file →
    IsMendedRead file mends read → read ≡ file
long_read file mends read long is =
    let given : is.given ≡ file = long_given file is.before is.given long is.is_given in
    long_rules file is.given is.parts read (subst (λ (w : List ℕ). 7143936 < length w) (sym given) long) is.emptied
    ∙ given
