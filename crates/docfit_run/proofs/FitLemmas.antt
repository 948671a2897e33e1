-- What is opened and saved is the fit of a file.
use Rattle.std.proofs.Common.{◌≡◌, refl, sym, subst, inl, inr, ℕ, Bool, List, Result, Ok, Err, MatchResult}
use Rattle.std.proofs.Common.{Option, Some, None}
use Rattle.plain_doc.specs.Sound.{IsSound}
use Rattle.file_rules.specs.declared.fault.ReadFault.{ReadFault}
use Rattle.file_rules.specs.Faults.{IsReadFault}
use Rattle.file_mends.specs.declared.mends.FileMend.{FileMend}
use Rattle.run_stages.specs.Outcomes.{Outcome}
use Rattle.further_notes.specs.declared.stories.NotedStories.{NotedStories}
use Rattle.doc_fit.specs.declared.opening.OpenedAny.{OpenedAny}
use Rattle.doc_fit.specs.Opened.{IsOpenedAny}
use Rattle.doc_fit.specs.Rules.{fit_rules}
use Rattle.doc_fit.specs.Refusals.{IsFitRefused}
use Rattle.doc_fit.specs.ReadAs.{IsMendedRead}
use Rattle.file_rules.specs.FileRules.{FileText}
use Rattle.doc_fit.specs.Noted.{IsNotedText, IsOpenedNoted, IsOpenedWith, IsOpenedFit, AreNoted}
use Rattle.doc_fit.proofs.Public.{inventory_of, lifted_inventory, lines_fit, mended_by, text_meant}
use Rattle.file_mends.specs.Mends.{bytes_read}
use Rattle.doc_fit.specs.declared.file_opening.OpenedFile.{OpenedFile}
use Rattle.docfit_run.specs.Fitted.{EndsOpened, IsReadFitted, IsSaved, JudgesFit}

plain_fit : (plain : Bool) (out file : List ℕ) (mends : List FileMend) (opened : OpenedAny) (outcome : Outcome) → AreNoted plain file None →
    IsOpenedAny file opened → IsSaved out opened.lifted.document opened.losses
    (record { of_file = mends; of_document = opened.mends.items }) outcome →
    IsReadFitted plain out file mends outcome
plain_fit plain out file mends opened outcome are is saved =
    let lifts = is.lifts in
    record {
      noted = None;
      are_noted = are;
      document = opened.lifted.document;
      mends = opened.mends.items;
      document_is = record {
        mended = record {
          meant = is.before.document;
          means = lifts.means;
          mends = opened.mends.items;
          mended_is = mended_by file is.before opened.lifted opened.losses opened.mends.items lifts is.reported;
        };
        mends_are = refl;
      };
      inventory = inventory_of is.before lifts.text.wd;
      has = lifted_inventory file is.before lifts;
      lines = opened.losses;
      lines_are = λ done. record {
        all = opened.losses;
        are_all = lines_fit file is.before opened.losses lifts is.reported.losses;
        are = refl;
      };
      saved = saved;
    }

noted_fit : (plain : Bool) (stories : NotedStories) (out file : List ℕ) (mends : List FileMend) (opened : OpenedAny)
    (outcome : Outcome) → AreNoted plain file (Some stories) → IsOpenedNoted stories file opened → IsSaved out opened.lifted.document opened.losses
    (record { of_file = mends; of_document = opened.mends.items }) outcome →
    IsReadFitted plain out file mends outcome
noted_fit plain stories out file mends opened outcome are is saved =
    let by = is.by in
    let lifts = by.lifts in
    record {
      noted = Some stories;
      are_noted = are;
      document = opened.lifted.document;
      mends = opened.mends.items;
      document_is = record {
        noted = record {
          rules = lifts.rules;
          meant = is.before.document;
          means = lifts.means;
          mends = opened.mends.items;
          noted_is = subst (λ (t : FileText). IsNotedText stories t is.before.document opened.lifted.document opened.mends.items)
              (text_meant file is.before lifts) by.noted_is;
          sound = by.sound;
        };
        mends_are = refl;
      };
      inventory = inventory_of is.before lifts.text.wd;
      has = lifted_inventory file is.before lifts;
      lines = opened.losses;
      lines_are = λ done. record {
        all = by.all;
        are_all = lines_fit file is.before by.all lifts by.are_all;
        are = by.lines_are;
      };
      saved = saved;
    }

saves_fit : (plain : Bool) (out file : List ℕ) (mends : List FileMend) (opened : OpenedAny) (outcome : Outcome) (noted : Option NotedStories) →
    AreNoted plain file noted → IsOpenedWith noted file opened →
    IsSaved out opened.lifted.document opened.losses
    (record { of_file = mends; of_document = opened.mends.items }) outcome → IsReadFitted plain out file mends outcome
saves_fit plain out file mends opened outcome (Some stories) are is saved =
    noted_fit plain stories out file mends opened outcome are is saved
saves_fit plain out file mends opened outcome None are is saved =
    plain_fit plain out file mends opened outcome are is saved

-- what is opened is fitted as it is saved, and what is refused ends so
pub opened_fits : (plain : Bool) (name out file read : List ℕ) (mends : List FileMend)
    (found : Result OpenedAny ReadFault) (outcome : Outcome) → IsMendedRead file mends read →
    MatchResult found (IsOpenedFit plain read) (IsReadFault (fit_rules read)) →
    MatchResult found
    (λ opened. IsSaved out opened.lifted.document opened.losses
    (record { of_file = mends; of_document = opened.mends.items }) outcome)
    (λ fault. IsFitRefused read name outcome) →
    JudgesFit plain name out file outcome
opened_fits plain name out file read mends (Ok opened) outcome read_as is saved = record {
  mends = mends;
  read = read;
  read_as = read_as;
  judged = inr (is.holds, saves_fit plain out read mends opened outcome is.noted is.are is.by saved);
}
opened_fits plain name out file read mends (Err fault) outcome read_as is refused =
    record { mends = mends; read = read; read_as = read_as; judged = inl refused }

-- a file that is opened or refused can end
pub can_end : (plain : Bool) (read : List ℕ) (found : Result OpenedAny ReadFault) →
    MatchResult found (IsOpenedFit plain read) (IsReadFault (fit_rules read)) →
    MatchResult found (λ opened. IsSound opened.lifted.document) (IsReadFault (fit_rules read))
can_end plain read (Ok opened) is = is.sound
can_end plain read (Err fault) is = is

-- what was opened is saved
pub ends_saved : (name out file : List ℕ) (found : OpenedFile) (opened : OpenedAny) (mends : List FileMend)
    (outcome : Outcome) → found.opened ≡ Ok opened → mends ≡ found.mended.mends →
    IsSaved out opened.lifted.document opened.losses
    (record { of_file = mends; of_document = opened.mends.items }) outcome → EndsOpened name out file found outcome
ends_saved name out file found opened mends outcome is same saved =
    subst
    (λ (r : Result OpenedAny ReadFault). MatchResult r
    (λ opened. IsSaved out opened.lifted.document opened.losses
    (record { of_file = found.mended.mends; of_document = opened.mends.items }) outcome)
    (λ fault. IsFitRefused (bytes_read file found.mended) name outcome)) (sym is)
    (subst
    (λ (m : List FileMend). IsSaved out opened.lifted.document opened.losses
    (record { of_file = m; of_document = opened.mends.items }) outcome) same saved)

-- what was refused names its rule
pub ends_refused : (name out file read : List ℕ) (found : OpenedFile) (fault : ReadFault) (outcome : Outcome) →
    found.opened ≡ Err fault → read ≡ bytes_read file found.mended → IsFitRefused read name outcome →
    EndsOpened name out file found outcome
ends_refused name out file read found fault outcome is same refused =
    subst
    (λ (r : Result OpenedAny ReadFault). MatchResult r
    (λ opened. IsSaved out opened.lifted.document opened.losses
    (record { of_file = found.mended.mends; of_document = opened.mends.items }) outcome)
    (λ fault. IsFitRefused (bytes_read file found.mended) name outcome)) (sym is)
    (subst (λ b. IsFitRefused b name outcome) same refused)
