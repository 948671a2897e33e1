-- What a page answers at a place of one of its runs.
use Rattle.std.proofs.Common.{◌≡◌, ℕ, suc, ◌+◌, ◌*◌, ◌^◌, ◌<◌, ◌≤◌, ◌==◌, ◌&&◌, ◌↔◌, Bool, true, false, List, ◌∷◌}
use Rattle.std.proofs.Common.{◌++◌, length, take, drop, get_or, refl, sym, ap, ◌∙◌, subst, arith, length-append}
use Rattle.std.proofs.Common.{eq-eqb}
use Rattle.std.specs.Prelude.{All, IsTrue, slice_index}
use Rattle.std.specs.FinMap.{entries}
use Rattle.std.specs.List.{flat_map}
use Rattle.sprm_table.specs.Sprm.{spelling}
use Rattle.std.proofs.Math.Seq.{split_at}
use Rattle.std.proofs.lemmas.Bool.{eqb-true}
use Rattle.std.proofs.lemmas.List.{get_or_at, drop_at}
use Rattle.doc_bits.specs.Number.{number_bytes}
use Rattle.doc_bits.proofs.Public.{number_at-number_bytes, length-number_bytes, both_true}
use Rattle.prop_map.specs.Printing.{printed_list, IsPrintOf}
use Rattle.prop_map.proofs.Public.{entries-empty, print_is}
use Rattle.fkp_pages.specs.declared.kind.PageKind.{PageKind}
use Rattle.fkp_pages.specs.declared.kind.PageKind.TheVariants.{Chpx, Papx}
use Rattle.fkp_pages.specs.declared.kind.RunAnswer.TheVariants.{Found, Empty}
use Rattle.fkp_pages.specs.declared.lists.Run.{Run}
use Rattle.fkp_pages.specs.Fkp.{run_entry_size, HasRunCount, IsFirstRun, entry_byte, list_from, list_to, spelled_list}
use Rattle.fkp_pages.specs.Properties.{bare_list}
use Rattle.fkp_pages.specs.Runs.{run_groups, run_list, IsBareRun, IsWritableRun}
use Rattle.fkp_pages.specs.Written.{is_bare_run, run_bytes_written}
use Rattle.fkp_pages.specs.PageBytes.{lowered, limit_after, first_limit, entries_end, half_offset, FitsPage}
use Rattle.fkp_pages.specs.PageBytes.{page_bytes}
use Rattle.fkp_pages.specs.Found.{HasRunNumbers, IsListOfRun, FindsRun}
use Rattle.fkp_pages.proofs.WrittenLemmas.{empty_map, written-bare, written-listed, length-run_list}
use Rattle.fkp_pages.proofs.WrittenLemmas.{length-spelled_list, spelled_len}
use Rattle.fkp_pages.proofs.LimitLemmas.{limit_after-append, limit_after_upto, lowered-some, lowered_room}
use Rattle.fkp_pages.proofs.LimitLemmas.{half_offset-none, half_offset-some}
use Rattle.fkp_pages.proofs.PageShape.{limit_after-cons, length-page, page_count-page, entry-page, HasPart, list-page}
use Rattle.fkp_pages.proofs.ListShape.{IsListAt, list_at}
use Rattle.fkp_pages.proofs.OrderLemmas.{AreInOrder, says_fcs, first_run_is}

-- ---- runs for which nothing is written

pub bare_is : (kind : PageKind) (run : Run) → IsTrue (is_bare_run kind run) ↔ IsBareRun kind run
bare_is Chpx run = empty_map run.map
bare_is Papx run = (
  λ t. let both = both_true (run.istd == 0) (length (entries run.map) == 0) t in (
    eqb-true run.istd 0 both.0,
    (empty_map run.map).0 both.1,
  ),
  λ h. ap (λ b. b && (length (entries run.map) == 0)) (eq-eqb run.istd 0 h.0) ∙ (empty_map run.map).1 h.1,
)

-- their list
bare_list_is : (kind : PageKind) (run : Run) → IsBareRun kind run → run_list kind run ≡ bare_list kind
unfolding number_bytes
bare_list_is Chpx run h = ap (flat_map spelling) (ap entries h ∙ entries-empty)
bare_list_is Papx run h = ap (λ n. number_bytes 2 n ++ printed_list run.map) h.0 ∙ ap (λ l. number_bytes 2 0 ++
    flat_map spelling l) (ap entries h.1 ∙ entries-empty)

-- ---- runs for which a list is written

-- a run of a page with its entry
pub record HasEntry (kind : PageKind) (page : List ℕ) (fc j limit : ℕ) (run : Run) : Type 0 where
  pub size : length page ≡ 512
  pub counted : HasRunCount kind page
  pub first : IsFirstRun page fc j
  pub entry : entry_byte kind page j ≡ half_offset limit (run_bytes_written kind run)
  pub part : HasPart page (run_bytes_written kind run) (lowered limit (run_bytes_written kind run))
  pub room : 2 ≤ lowered limit (run_bytes_written kind run)
  pub top : limit ≤ 511

bare_found : (kind : PageKind) (page : List ℕ) (fc j limit : ℕ) (run : Run) → HasEntry kind page fc j limit run →
    IsTrue (is_bare_run kind run) → FindsRun kind page fc run
bare_found kind page fc j limit run h bare =
    let none : length (run_bytes_written kind run) ≡ 0 = ap length (written-bare kind run bare) in
    record {
      size = h.size;
      answer = Empty;
      answers = (
        h.counted,
        record {
          run = j;
          first = h.first;
          answers = h.entry ∙ half_offset-none limit
              (run_bytes_written kind run) none;
        },
      );
      list = bare_list_is kind run ((bare_is kind run).0 bare);
      bare = λ is. refl;
      listed = λ no_such. absurd (no_such ((bare_is kind run).0 bare));
    }

spelled_some : (kind : PageKind) (len : ℕ) → 0 < spelled_len kind len
spelled_some Chpx len = omega arith
spelled_some Papx len = omega arith

listed_found : (kind : PageKind) (page : List ℕ) (fc j limit : ℕ) (run : Run) → HasEntry kind page fc j limit run →
    is_bare_run kind run ≡ false → FindsRun kind page fc run
listed_found kind page fc j limit run h bare =
    let list = run_list kind run in
    let bytes = run_bytes_written kind run in
    let offset = lowered limit bytes in
    let spelled : bytes ≡ spelled_list kind list = written-listed kind run bare in
    let size : length bytes ≡ spelled_len kind (length list) = ap length spelled ∙ length-spelled_list kind list in
    let some_bytes = spelled_some kind (length list) in
    let even = lowered-some limit bytes (omega arith) in
    let half = h.entry ∙ half_offset-some limit bytes (omega arith) in
    let room = h.room in
    let top = h.top in
    let place : offset ≡ 2 * entry_byte kind page j = omega arith in
    let within = lowered_room limit bytes (omega arith) in
    let part = h.part in
    let at : IsListAt kind page offset list =
    list_at kind part.before list part.behind page offset (part.joined ∙ ap (λ l. part.before ++ (l ++ part.behind))
    spelled) part.place in
    let here : IsListAt kind page (2 * entry_byte kind page j) list = subst (λ n. IsListAt kind page n list) place at in
    let reach = here.reach in
    let len = here.len in
    let same : length bytes ≡ length (spelled_list kind list) = ap length spelled in
    let list_len = length-run_list kind run in
    record {
      size = h.size;
      answer = Found (list_from kind page (2 * entry_byte kind page j)) (list_to kind page (2 * entry_byte kind page
          j));
      answers = (
        h.counted,
        record {
          run = j;
          first = h.first;
          answers = record {
            some = λ none. absurd (omega arith);
            starts = refl;
            ends = refl;
            within = record { room = omega arith; within = omega arith };
          };
        },
      );
      list = sym here.is;
      bare = λ is. absurd (let yes = (bare_is kind run).1 is in cc);
      listed = λ no_such. (
        list_from kind page (2 * entry_byte kind page j),
        (
          list_to kind page (2 * entry_byte kind
              page j),
          refl,
        ),
      );
    }

found_by : (kind : PageKind) (page : List ℕ) (fc j limit : ℕ) (run : Run) (bare : Bool) → is_bare_run kind run ≡ bare →
    HasEntry kind page fc j limit run → FindsRun kind page fc run
found_by kind page fc j limit run true b h = bare_found kind page fc j limit run h b
found_by kind page fc j limit run false b h = listed_found kind page fc j limit run h b

-- ---- each run of a page

two_bytes_up : (kind : PageKind) (count : ℕ) → 8 ≤ entries_end kind (suc count)
two_bytes_up Chpx count = omega arith
two_bytes_up Papx count = omega arith

has_entry : (kind : PageKind) (front back : List Run) (run : Run) (fc : ℕ) → FitsPage kind (front ++ run ∷ back) →
    AreInOrder (front ++ run ∷ back) → All HasRunNumbers (front ++ run ∷ back) → run.from ≤ fc → fc < run.to →
    HasEntry kind (page_bytes kind (front ++ run ∷ back)) fc (length front) (limit_after kind first_limit front) run
has_entry kind front back run fc fits order small low high =
    let runs = front ++ run ∷ back in
    let page = page_bytes kind runs in
    let now = limit_after kind first_limit front in
    let offset = lowered now (run_bytes_written kind run) in
    let len = length-append front (run ∷ back) in
    let count = page_count-page kind runs fits in
    let own : get_or runs (length front) run ≡ run = get_or_at front run back run (length front) refl in
    let room = fits.room in
    let few = fits.few in
    let falls : limit_after kind first_limit runs ≤ offset =
    rw (limit_after-append kind first_limit front (run ∷ back), limit_after-cons kind now run back) (limit_after_upto
    kind offset back) in
    let low_end = two_bytes_up kind (length front + length back) in
    let many : length runs ≡ suc (length front + length back) = omega arith in
    let up : 8 ≤ entries_end kind (length runs) = rw many low_end in
    record {
      size = length-page kind runs fits;
      counted = record { some = omega arith; most = omega arith };
      first = first_run_is page runs (length front) fc run (says_fcs kind runs fits order small) order (omega arith)
          (rw own low) (rw own high);
      entry = ap (λ n. slice_index page (4 * (n + 1) + run_entry_size kind * length front)) count ∙ entry-page kind
          front
          back run;
      part = list-page kind front back run fits;
      room = omega arith;
      top = limit_after_upto kind first_limit front;
    }

-- a run of a page is found at each of its places
pub page_finds : (kind : PageKind) (runs : List Run) (j fc : ℕ) (d : Run) → FitsPage kind runs → AreInOrder runs →
    All HasRunNumbers runs → j < length runs → (get_or runs j d).from ≤ fc → fc < (get_or runs j d).to →
    FindsRun kind (page_bytes kind runs) fc (get_or runs j d)
page_finds kind runs j fc d fits order small up low high =
    let run = get_or runs j d in
    let whole : runs ≡ take j runs ++ run ∷ drop (suc j) runs = split_at runs j d up in
    let P : List Run → Type 0 = λ l. FitsPage kind l → AreInOrder l → All HasRunNumbers l →
    FindsRun kind (page_bytes kind l) fc run in
    let there : P (take j runs ++ run ∷ drop (suc j) runs) =
    λ f o s. found_by kind (page_bytes kind (take j runs ++ run ∷ drop (suc j) runs)) fc (length (take j runs))
    (limit_after kind first_limit (take j runs)) run (is_bare_run kind run) refl (has_entry kind (take j runs)
    (drop (suc j) runs) run fc f o s low high) in
    subst P (sym whole) there fits order small

-- ---- what the list of a run has

pub lists_have_properties : (kind : PageKind) (run : Run) → IsWritableRun kind run → run.istd < 2 ^ 16 →
    IsListOfRun kind run (run_list kind run)
lists_have_properties Chpx run h small = record {
  istd = λ e. absurd (cc);
  properties = print_is run.map (
    run_groups Chpx,
    h.formed,
  );
}
lists_have_properties Papx run h small = record {
  istd = λ e. number_at-number_bytes 2 run.istd (printed_list run.map) small;
  properties = subst (λ l. IsPrintOf run.map l) (sym (drop_at (number_bytes 2 run.istd) (printed_list run.map) 2
      (length-number_bytes 2 run.istd))) (print_is run.map (run_groups Papx, h.formed));
}
