-- The files of the pictures of a document that is shown.
use Rattle.std.proofs.Common.{◌≡◌, ◌≢◌, ◌⊎◌, ◌∙◌, ◌+◌, ◌<◌, ℕ, List, [], Bool, true, false, true≢false, Option, None, Some, Result, Ok, Err, refl, sym, ap, subst, inl, inr, arith}
use Rattle.std.specs.Prelude.{IsErrOf, OnErr}
use Rattle.doc_bits.specs.Number.{AreBytes}
use Rattle.doc_outer.specs.Counts.{CountGoesOn, Rose}
use Rattle.doc_outer.specs.Held.{Files, StaysAt}
use Rattle.doc_outer.specs.declared.shelf.Shelf.{Ghosts as Shelf}
use Rattle.doc_outer.specs.declared.sink.Sink.{Ghosts as Sink}
use Rattle.doc_outer.proofs.Public.{Rose-after, StaysAt-refl, Appends-nil}
use Rattle.doc_model.specs.declared.document.Document.{Document}
use Rattle.file_rules.specs.Faults.{IsReadFault}
use Rattle.file_rules.specs.declared.fault.ReadFault.{ReadFault}
use Rattle.file_rules.specs.declared.fault.ReadFault.TheVariants.{Refused, Memory as NoMemory}
use Rattle.doc_read.specs.Holds.{IsAccepted, all_rules}
use Rattle.doc_read.specs.Opened.{IsOpened, OpenedFile}
use Rattle.file_mends.specs.declared.mends.FileMend.{FileMend}
use Rattle.doc_fit.specs.ReadAs.{IsMendedRead}
use Rattle.doc_pictures.specs.declared.album.AlbumFault.{AlbumFault}
use Rattle.doc_pictures.specs.declared.album.AlbumFault.TheVariants.{There, Failed, Memory}
use Rattle.doc_pictures.specs.declared.pictures.Picture.{Picture}
use Rattle.doc_pictures.specs.Album.{IsPicturePath, IsPathTaken}
use Rattle.run_stages.specs.Leaves.{HasCause, IsOnlyRead}
use Rattle.run_stages.specs.Lines.{shelf_fault_line}
use Rattle.run_stages.specs.Outcomes.{Outcome, says}
use Rattle.run_stages.specs.Reading.{IsFoundFile}
use Rattle.run_stages.specs.Stages.{BreaksLengthRule, IsMissing, IsOverlong, IsShelfFault}
use Rattle.docview_run.specs.declared.view.View.{View}
use Rattle.docview_run.specs.Requests.{Request}
use Rattle.docview_run.specs.Viewed.{IsFaultStatus, IsViewed}
use Rattle.docview_run.specs.Pictured.{ArePicturesOf, CutsIn, CutsOf, IsDataOf, IsFileThere, IsPictureName, Leaves, LeavesHeld}
use Rattle.docview_run.specs.Pictured.{LeavesPictures, LeavesTaken, StaysViewed, WritesOf, WritesViewed, fault_status}
use Rattle.docview_run.specs.Endings.{IsOfFile, PrintsPage, RunEnds, ShowsFile, ShowsHeld, ShowsName, ShowsPictured}
use Rattle.docview_run.specs.Endings.{ShowsTaken, pictured_source}
use Rattle.docview_run.proofs.EndLemmas.{ends_weaker, memory_ends, told_ends}
use Rattle.docview_run.proofs.SafeLemmas.{not_viewed}
use Rattle.docview_run.proofs.ViewLemmas.{unopened_ends}
use Rattle.doc_fit.proofs.Public.{refused_not_accepted}

-- ---- the shelf of a run

-- the same shelf
pub unread : {S : Type 0} (shelf : Shelf S) (at : S) → IsOnlyRead shelf at at
unread shelf at = record {
  kept = refl;
  faults = record { not_fallen = omega arith; not_beyond = λ low. low };
  missed = record { not_fallen = omega arith; not_beyond = λ low. low };
  put_faults = refl;
}

-- what a run leaves by what its words ask for
pub asked_leaves : {S : Type 0} (shelf : Shelf S) (before now : S) (asked : Option Request) (request : Request)
    (status : ℕ) → asked ≡ Some request → Leaves shelf (Some request) status before now →
    Leaves shelf asked status before now
asked_leaves {S} shelf before now asked request status is leaves =
    subst (λ (a : Option Request). Leaves shelf a status before now) (sym is) leaves

-- ---- the shelf behind pictures

-- it was only read
pub read_leaves : {S : Type 0} (shelf : Shelf S) (strict force : Bool) (folder name : List ℕ) (status : ℕ)
    (before now : S) → IsOnlyRead shelf before now → status ≢ 0 →
    LeavesPictures shelf strict force folder name status before now
read_leaves shelf strict force folder name status before now is other_status = record {
  others = λ other apart.
      subst (λ (held : Option Files). StaysAt other (shelf.held before) held) (sym is.kept)
      (StaysAt-refl other (shelf.held before));
  written = λ done. absurd (other_status done);
  cut = inl is.kept;
}

-- it was read, and then pictures were written or not
pub taken_leaves : {S : Type 0} (shelf : Shelf S) (strict force : Bool) (folder name file : List ℕ) (status : ℕ)
    (before mid now : S) → IsOnlyRead shelf before mid → IsFoundFile name (shelf.held before) file →
    LeavesTaken strict force folder file status (shelf.held mid) (shelf.held now) →
    LeavesPictures shelf strict force folder name status before now
taken_leaves shelf strict force folder name file status before mid now is found taken = record {
  others = λ other apart.
      subst (λ (held : Option Files). StaysAt other held (shelf.held now)) is.kept (taken.others other apart);
  written = λ done. record {
    file = file;
    told = found.told;
    writes =
        subst (λ (held : Option Files). WritesViewed strict force folder file held (shelf.held now)) is.kept
        (taken.written done);
  };
  cut = elim taken.cut [
    | inl same ↦ inl (same ∙ is.kept)
    | inr stays ↦
        inr (record {
          file = file;
          told = found.told;
          stays =
              subst (λ (held : Option Files). StaysViewed strict force folder file held (shelf.held now)) is.kept stays;
        })
  ];
}

-- the document is the one that is shown
pub viewed_leaves : (strict force : Bool) (folder file read : List ℕ) (document : Document) (status : ℕ)
    (before after : Option Files) → IsViewed strict file read document →
    LeavesHeld force folder read document status before after →
    LeavesTaken strict force folder file status before after
viewed_leaves strict force folder file read document status before after viewed leaves = record {
  others = leaves.others;
  written = λ done. record { read = read; document = document; viewed = viewed; writes = leaves.written done };
  cut = elim leaves.cut [
    | inl same ↦ inl same
    | inr stays ↦ inr (record { read = read; document = document; viewed = viewed; stays = stays })
  ];
}

-- nothing was written
pub same_leaves : (strict force : Bool) (folder file : List ℕ) (status : ℕ) (held : Option Files) → status ≢ 0 →
    LeavesTaken strict force folder file status held held
same_leaves strict force folder file status held other_status = record {
  others = λ other apart. StaysAt-refl other held;
  written = λ done. absurd (other_status done);
  cut = inl refl;
}

pub none_leaves : (force : Bool) (folder file : List ℕ) (document : Document) (status : ℕ) (held : Option Files) →
    status ≢ 0 → LeavesHeld force folder file document status held held
none_leaves force folder file document status held other_status = record {
  others = λ other apart. StaysAt-refl other held;
  written = λ done. absurd (other_status done);
  cut = inl refl;
}

not_shown : (view : View) (name file : List ℕ) (outcome : Outcome) →
    ((read : List ℕ) (document : Document) → IsViewed view.strict file read document → ⊥) →
    ShowsFile view None name file outcome → outcome.status ≡ 0 → ⊥
not_shown view name file outcome none (inl not) done = not_viewed view name file outcome not done
not_shown view name file outcome none (inr page) done = none page.read page.document page.viewed

-- a file without a document is not shown
pub unviewed_leaves : {K : Type 0} (sink : Sink K) (out after : K) (view : View) (force : Bool)
    (folder name file : List ℕ) (status : ℕ) (held : Option Files) →
    ((read : List ℕ) (document : Document) → IsViewed view.strict file read document → ⊥) →
    RunEnds (ShowsFile view None name file) sink out after status →
    LeavesTaken view.strict force folder file status held held
unviewed_leaves sink out after view force folder name file status held none ends =
    same_leaves view.strict force folder file status held (λ done.
    let end = ends.ending (λ five. absurd (omega (arith, done, five))) (λ six. absurd (omega (arith, done, six))) in
    not_shown view name file end.0 none end.1.1.0 (end.1.0 ∙ done))

-- all files of a document were written
pub written_leaves : (force : Bool) (folder file : List ℕ) (document : Document) (pictures : List Picture) (status : ℕ)
    (before after : Option Files) →
    ((other : List ℕ) → ¬ (IsPictureName folder other) → StaysAt other before after) →
    WritesOf force folder file document pictures before after →
    LeavesHeld force folder file document status before after
written_leaves force folder file document pictures status before after others writes = record {
  others = others;
  written = λ done. (pictures, writes);
  cut = inr (inl (pictures, writes));
}

-- or not
pub fault_leaves : (force : Bool) (folder file : List ℕ) (document : Document) (status : ℕ)
    (before after : Option Files) → status ≢ 0 →
    ((other : List ℕ) → ¬ (IsPictureName folder other) → StaysAt other before after) →
    (after ≡ before) ⊎ CutsOf force folder file document before after →
    LeavesHeld force folder file document status before after
fault_leaves force folder file document status before after other_status others cut = record {
  others = others;
  written = λ done. absurd (other_status done);
  cut = elim cut [ inl same ↦ inl same | inr cuts ↦ inr (inr cuts) ];
}

-- those that were written of a stream are those of its file
pub cut_weaker : {A : Type 0} (force : Bool) (folder file stream : List ℕ) (document : Document)
    (before after : Option Files) (result : Result A AlbumFault) → IsDataOf file stream →
    OnErr result ((after ≡ before) ⊎ CutsIn force folder stream document before after) →
    OnErr result ((after ≡ before) ⊎ CutsOf force folder file document before after)
cut_weaker force folder file stream document before after (Ok value) is cut = tt
cut_weaker force folder file stream document before after (Err fault) is cut = elim cut [
  | inl same ↦ inl same
  | inr cuts ↦ inr (record { stream = stream; is = is; cuts = cuts })
]

-- ---- ends

-- a file that was read
pub taken_ends : {K : Type 0} (sink : Sink K) (out after : K) (view : View) (force : Bool) (folder name : List ℕ)
    (held mid : Option Files) (file : List ℕ) (status : ℕ) → mid ≡ held → IsFoundFile name held file → AreBytes file →
    RunEnds (ShowsTaken view force folder name mid file) sink out after status →
    RunEnds (ShowsPictured view force folder name held) sink out after status
taken_ends sink out after view force folder name held mid file status kept found are ends =
    ends_weaker (ShowsTaken view force folder name held file) (ShowsPictured view force folder name held) sink out after
    status
    (λ outcome shown. elim shown [
      | inl page ↦
          inl (inr (inr (inr (record {
            bytes = file;
            told = found.told;
            are = are;
            short = found.short;
            goes_on = page;
          }))))
      | inr (inl kept) ↦ inr kept
      | inr (inr fault) ↦ inl (inr (inl fault))
    ])
    (subst (λ (h : Option Files). RunEnds (ShowsTaken view force folder name h file) sink out after status) kept ends)

-- a name that was not read
pub named_ends : {K : Type 0} (sink : Sink K) (out after : K) (view : View) (force : Bool) (folder name : List ℕ)
    (held : Option Files) (status : ℕ) → RunEnds (ShowsName view (Some folder) name held) sink out after status →
    RunEnds (ShowsPictured view force folder name held) sink out after status
named_ends sink out after view force folder name held status ends =
    ends_weaker (ShowsName view (Some folder) name held) (ShowsPictured view force folder name held) sink out after
    status (λ outcome shown. inl shown) ends

-- the document is the one that is shown
pub viewed_ends : {K : Type 0} (sink : Sink K) (out after : K) (view : View) (force : Bool)
    (folder name file read : List ℕ) (document : Document) (held : Option Files) (status : ℕ) →
    IsViewed view.strict file read document →
    RunEnds (ShowsHeld view force folder read document held) sink out after status →
    RunEnds (ShowsTaken view force folder name held file) sink out after status
viewed_ends sink out after view force folder name file read document held status viewed =
    ends_weaker (ShowsHeld view force folder read document held) (ShowsTaken view force folder name held file) sink out
    after status
    (λ outcome shown. elim shown [
      | inl page ↦ inl (inr (record { read = read; document = document; viewed = viewed; shows = page }))
      | inr other ↦ inr other
    ])

-- a file without a document
pub unviewed_ends : {K : Type 0} (sink : Sink K) (out after : K) (view : View) (force : Bool)
    (folder name file : List ℕ) (held : Option Files) (status : ℕ) →
    ((read : List ℕ) (document : Document) → IsViewed view.strict file read document → ⊥) →
    RunEnds (ShowsFile view None name file) sink out after status →
    RunEnds (ShowsTaken view force folder name held file) sink out after status
unviewed_ends sink out after view force folder name file held status none =
    ends_weaker (ShowsFile view None name file) (ShowsTaken view force folder name held file) sink out after status
    (λ outcome shown. elim shown [
      | inl not ↦ inl (inl not)
      | inr page ↦ absurd (none page.read page.document page.viewed)
    ])

-- the pictures whose files were written are those of the document
pub pictures_are : (force : Bool) (folder file : List ℕ) (document : Document) (pictures : List Picture)
    (before after : Option Files) → WritesOf force folder file document pictures before after →
    ArePicturesOf file document pictures
pictures_are force folder file document pictures before after writes =
    record { stream = writes.stream; is = writes.is; are = writes.writes.are }

-- the page was shown
pub page_ends : {K : Type 0} (sink : Sink K) (out after : K) (view : View) (force : Bool) (folder file : List ℕ)
    (document : Document) (pictures : List Picture) (held : Option Files) (status : ℕ) →
    ArePicturesOf file document pictures →
    RunEnds (PrintsPage view (pictured_source document folder pictures)) sink out after status →
    RunEnds (ShowsHeld view force folder file document held) sink out after status
page_ends sink out after view force folder file document pictures held status are =
    ends_weaker (PrintsPage view (pictured_source document folder pictures))
    (ShowsHeld view force folder file document held) sink out after status
    (λ outcome shown. inl (record {
      images = record { folder = folder; pictures = pictures };
      names = (refl, are);
      bytes = shown.0;
      are = shown.1.0;
      ends = shown.1.1;
    }))

kept_ends : {K : Type 0} (sink : Sink K) (out : K) (view : View) (force : Bool) (folder file : List ℕ)
    (document : Document) (held : Option Files) → IsFileThere force folder held →
    RunEnds (ShowsHeld view force folder file document held) sink out out 8
kept_ends sink out view force folder file document held there = record {
  ending = λ no no_memory.
      (says 8 [], (refl, (inr (inl (record { file = there; ends = refl })), Appends-nil (sink.written out))));
  prefix = λ is. absurd (omega (arith, is));
  rose = λ is. absurd (omega (arith, is));
  nothing = λ is. refl;
}

-- pictures were not written
pub fault_ends : {K : Type 0} (sink : Sink K) (out : K) (view : View) (force : Bool) (folder file : List ℕ)
    (document : Document) (held : Option Files) (fault : AlbumFault) →
    (fault ≡ There → IsFileThere force folder held) →
    RunEnds (ShowsHeld view force folder file document held) sink out out (fault_status fault)
fault_ends sink out view force folder file document held There there =
    kept_ends sink out view force folder file document held (there refl)
fault_ends sink out view force folder file document held Failed there =
    told_ends (ShowsHeld view force folder file document held) sink out (says 4 shelf_fault_line) 4 refl
    (inr (inl (inr refl))) (inr (inr refl))
fault_ends sink out view force folder file document held Memory there =
    memory_ends (ShowsHeld view force folder file document held) sink out

-- its status
pub fault_after : (fault : AlbumFault) → (fault_status fault < 2) ⊎ (3 < fault_status fault)
fault_after There = inr (omega arith)
fault_after Failed = inr (omega arith)
fault_after Memory = inr (omega arith)

pub fault_rose : (fault : AlbumFault) (before now : ℕ) → (fault ≡ Failed → Rose before now) → fault_status fault ≡ 4 →
    Rose before now
fault_rose There before now rose is = absurd (omega (arith, is))
fault_rose Failed before now rose is = rose refl
fault_rose Memory before now rose is = absurd (omega (arith, is))

pub fault_not_shown : (fault : AlbumFault) → fault_status fault ≢ 0
fault_not_shown There = λ is. absurd (omega (arith, is))
fault_not_shown Failed = λ is. absurd (omega (arith, is))
fault_not_shown Memory = λ is. absurd (omega (arith, is))

pub page_after : (status : ℕ) → IsOfFile status → ((status < 2) ⊎ (3 < status)) × (status ≢ 4)
page_after status (inl low) = (inl low, λ is. absurd (omega (arith, low, is)))
page_after status (inr high) = (inr (omega (arith, high)), λ is. absurd (omega (arith, high, is)))

pub taken_asked : (status : ℕ) → (status < 2) ⊎ (3 < status) → status ≢ 2
taken_asked status (inl low) = λ is. absurd (omega (arith, low, is))
taken_asked status (inr high) = λ is. absurd (omega (arith, high, is))

-- reading ended the run
status_of : Outcome → ℕ
status_of outcome = outcome.status

pub stopped_not_shown : (name : List ℕ) (held : Option Files) (ending : Outcome) →
    IsMissing name held ending ⊎ (IsShelfFault ending ⊎ IsOverlong name held (BreaksLengthRule name) ending) →
    ending.status ≢ 0
unfolding status_of
stopped_not_shown name held ending (inl missing) =
    let e : ending.status ≡ 3 = ap status_of missing.ends in λ zero_is. absurd (omega (arith, e, zero_is))
stopped_not_shown name held ending (inr (inl fault)) =
    let e : ending.status ≡ 4 = ap status_of fault in λ zero_is. absurd (omega (arith, e, zero_is))
stopped_not_shown name held ending (inr (inr long)) =
    let e : ending.status ≡ 1 = ap status_of long.ends in λ zero_is. absurd (omega (arith, e, zero_is))

not_three : (status : ℕ) → (status < 2) ⊎ (3 < status) → status ≢ 3
not_three status (inl low) = λ is. absurd (omega (arith, low, is))
not_three status (inr high) = λ is. absurd (omega (arith, high, is))

pub taken_caused : (status missed_before missed_now before mid now : ℕ) → (status < 2) ⊎ (3 < status) →
    CountGoesOn before mid → (status ≡ 4 → Rose mid now) → HasCause status missed_before missed_now before now
taken_caused status missed_before missed_now before mid now after on rose = record {
  missing = λ is. absurd (not_three status after is);
  shelf_fault = λ is. Rose-after before mid now on (rose is);
}

-- ---- the document of the pictures

-- the document of a file that was opened is shown
pub held_viewed : (strict : Bool) (file : List ℕ) (opened : OpenedFile) → IsOpened file opened →
    IsViewed strict file file opened.document
held_viewed strict file opened is = inl (record { accepted = is.accepted; same = refl; holds = is.holds })

-- a file that was refused is not accepted
pub refused_by : (file : List ℕ) (fault : ReadFault) → fault ≢ NoMemory → IsReadFault (all_rules file) fault →
    ¬ (IsAccepted file)
refused_by file NoMemory other is = absurd (other refl)
refused_by file (Refused rule place offset) other is = refused_not_accepted file rule (place, offset) is

-- a strict view has no document of a file that breaks a rule
pub none_strict : (strict : Bool) (file read : List ℕ) (document : Document) → ¬ (IsAccepted file) → strict ≡ true →
    IsViewed strict file read document → ⊥
none_strict strict file read document refused is (inl held) = refused held.accepted
none_strict strict file read document refused is (inr (lifts, lifted)) = true≢false (sym is ∙ lifts)

-- what is read in place of a file is refused, or memory ran out
pub refused_ends : {K : Type 0} (sink : Sink K) (out : K) (view : View) (force : Bool)
    (folder name file read : List ℕ) (mends : List FileMend) (held : Option Files) (status : ℕ) →
    ¬ (IsAccepted file) → view.strict ≡ false → IsMendedRead file mends read → IsFaultStatus read status →
    RunEnds (ShowsTaken view force folder name held file) sink out out status
refused_ends sink out view force folder name file read mends held status refused lifts read_as is =
    ends_weaker (ShowsFile view (Some folder) name file) (ShowsTaken view force folder name held file) sink out out
    status (λ outcome shown. inl shown)
    (unopened_ends sink out (Some folder) name file read mends view status refused lifts read_as is)

-- the fault of an answer
pub same_fault : {A : Type 0} (fault : AlbumFault) → IsErrOf {T = A} (Err fault) There → fault ≡ There
same_fault fault is = cc (is)

-- a path of a picture that holds a file is a name of one
pub taken_there : (force : Bool) (folder : List ℕ) (pictures : List Picture) (held : Option Files) →
    IsPathTaken force folder pictures held → IsFileThere force folder held
taken_there force folder pictures held is =
    let path = is.path in
    record {
      keeps = is.holds.keeps;
      name = is.name;
      is = record { number = path.k + 1; kind = path.picture.file.kind; path = path.path };
      there = is.holds.there;
    }

-- the path of a picture is a name of one
pub path_named : (folder : List ℕ) (pictures : List Picture) (name : List ℕ) → ¬ (IsPictureName folder name) →
    ¬ (IsPicturePath folder pictures name)
path_named folder pictures name apart is =
    apart (record { number = is.k + 1; kind = is.picture.file.kind; path = is.path })
