-- A unit that is bounded in one stream is so in another that tells the same runs at its place and behind it.
use Rattle.std.proofs.Common.{◌≡◌, ◌∙◌, sym, ap, subst, inl, inr, ℕ, ◌+◌, ◌*◌, ◌<◌, ◌≤◌, Bool, true, false}
use Rattle.std.proofs.Common.{List, length, arith}
use Rattle.std.proofs.lemmas.Bool.{cases_lt}
use Rattle.doc_bits.specs.Plc.{plc_cp}
use Rattle.fkp_pages.specs.Bin.{bin_count, IsBinTable, IsBinPage, page_at}
use Rattle.fkp_pages.specs.Fkp.{HoldsFc, page_run_count, page_fc}
use Rattle.fkp_pages.specs.Rows.{KeepsRanges}
use Rattle.fkp_pages.proofs.Public.{bin_fcs_ascend, bin_page_one}
use Rattle.piece_table.specs.Piece.{unit_bytes}
use Rattle.save_laws.specs.Places.{PagedStream}
use Rattle.save_laws.specs.KeptPages.{KeepsBytes}
use Rattle.save_laws.specs.ByRuns.{IsPageRunAt, ranges_end, BeginsRun, HasRunBegin, StaysInRun, MeetsRuns, IsBounded}
use Rattle.save_laws.proofs.Public.{page_kept, named_kept}

-- a place with a page is before the end of all ranges
pub named_low : (bin : List ℕ) (fc number : ℕ) → IsBinTable bin → IsBinPage bin fc number →
    fc < plc_cp bin (bin_count bin)
named_low bin fc number table page =
    let below = page.range.below in
    let to = page.range.to in
    let high = bin_fcs_ascend bin (page.entry + 1) (bin_count bin) table (omega (arith, below)) (omega arith) in
    omega (arith, to, high)

-- what two streams tell at a place and behind a unit
record TellAlike (old new : PagedStream) (at end : ℕ) : Type 0 where
  held : at < ranges_end old → at < ranges_end new
  here : (first : ℕ) → BeginsRun old at first → BeginsRun new at first
  here_back : (first : ℕ) → BeginsRun new at first → BeginsRun old at first
  run_back : (first lim : ℕ) → IsPageRunAt new at first lim → IsPageRunAt old at first lim
  there : (first : ℕ) → BeginsRun old end first → BeginsRun new end first
  there_back : (first : ℕ) → BeginsRun new end first → BeginsRun old end first
  run_there : (first lim : ℕ) → IsPageRunAt old end first lim → IsPageRunAt new end first lim

meets_alike : (ends : Bool) (old new : PagedStream) (at end : ℕ) → TellAlike old new at end →
    MeetsRuns ends old at end → MeetsRuns ends new at end
meets_alike true old new at end tell meets = record {
  held = tell.held meets.held;
  ends = λ first lim run. meets.ends first lim (tell.run_back first lim run);
  begins = λ first begins. meets.begins first (tell.there_back first begins);
}
meets_alike false old new at end tell meets = record {
  goes_on = λ first lim run. tell.run_there first lim (meets.goes_on first lim (tell.run_back first lim run));
  began = λ first begins. tell.here first (meets.began first (tell.there_back first begins));
}

bounded_alike : (old new : PagedStream) (at : ℕ) (wide ends : Bool) → length old.wd ≤ length new.wd →
    TellAlike old new at (at + unit_bytes wide) → IsBounded old at wide ends → IsBounded new at wide ends
bounded_alike old new at wide ends longer tell is =
    let inside = is.inside in
    let here = is.here in
    let there = is.there in
    record {
      inside = omega (arith, inside, longer);
      here = (here.0, tell.here here.0 here.1);
      there = (there.0, tell.there there.0 there.1);
      meets = meets_alike ends old new at (at + unit_bytes wide) tell is.meets;
    }

-- ---- places whose page is the same in both

-- the new stream names the page that the old one does, and it has the same bytes
record KeepsPage (old new : PagedStream) (fc : ℕ) : Type 0 where
  named : (number : ℕ) → IsBinPage old.paragraphs fc number → IsBinPage new.paragraphs fc number
  page : (number : ℕ) → 2 ≤ number → 512 * number + 512 ≤ length old.wd →
      page_at new.wd number ≡ page_at old.wd number
  longer : length old.wd ≤ length new.wd

run_kept : (old new : PagedStream) (fc first lim : ℕ) → KeepsPage old new fc → IsPageRunAt old fc first lim →
    IsPageRunAt new fc first lim
run_kept old new fc first lim keeps run =
    let page = sym (keeps.page run.number run.low run.within) in
    let within = run.within in
    let longer = keeps.longer in
    record {
      number = run.number;
      named = keeps.named run.number run.named;
      low = run.low;
      within = omega (arith, within, longer);
      run = run.run;
      below = subst (λ (p : List ℕ). run.run < page_run_count p) page run.below;
      holds = subst (λ (p : List ℕ). HoldsFc p run.run fc) page run.holds;
      first_is = run.first_is ∙ ap (λ (p : List ℕ). page_fc p run.run) page;
      lim_is = run.lim_is ∙ ap (λ (p : List ℕ). page_fc p (run.run + 1)) page;
    }

-- what the new one tells there the old one does, where it tells something
run_was : (old new : PagedStream) (fc first lim some_first some_lim : ℕ) → IsBinTable new.paragraphs →
    KeepsPage old new fc → IsPageRunAt old fc some_first some_lim → IsPageRunAt new fc first lim → IsPageRunAt old fc
    first lim
run_was old new fc first lim some_first some_lim table keeps some run =
    let same : run.number ≡ some.number =
    bin_page_one new.paragraphs fc run.number some.number table run.named (keeps.named some.number some.named) in
    let page : page_at new.wd run.number ≡ page_at old.wd some.number =
    ap (page_at new.wd) same ∙ keeps.page some.number some.low some.within in
    record {
      number = some.number;
      named = some.named;
      low = some.low;
      within = some.within;
      run = run.run;
      below = subst (λ (p : List ℕ). run.run < page_run_count p) page run.below;
      holds = subst (λ (p : List ℕ). HoldsFc p run.run fc) page run.holds;
      first_is = run.first_is ∙ ap (λ (p : List ℕ). page_fc p run.run) page;
      lim_is = run.lim_is ∙ ap (λ (p : List ℕ). page_fc p (run.run + 1)) page;
    }

-- a run of a place before the end of all ranges
run_here : (from : PagedStream) (fc : ℕ) → fc < ranges_end from → HasRunBegin from fc →
    (first : ℕ) × ((lim : ℕ) × IsPageRunAt from fc first lim)
run_here from fc low (first, inl (behind, is)) = absurd (omega (arith, low, behind))
run_here from fc low (first, inr (lim, run)) = (first, (lim, run))

module _ (old new : PagedStream) (fc : ℕ) (table : IsBinTable new.paragraphs) (keeps : KeepsPage old new fc)
    (low : fc < ranges_end old) (below : fc < ranges_end new) (has : HasRunBegin old fc) where
  kept_run_back : (first lim : ℕ) → IsPageRunAt new fc first lim → IsPageRunAt old fc first lim
  kept_run_back first lim run =
      let some = run_here old fc low has in run_was old new fc first lim some.0 some.1.0 table keeps some.1.1 run

  kept_begins : (first : ℕ) → BeginsRun old fc first → BeginsRun new fc first
  kept_begins first (inl (behind, is)) = absurd (omega (arith, low, behind))
  kept_begins first (inr (lim, run)) = inr (lim, run_kept old new fc first lim keeps run)

  kept_begins_back : (first : ℕ) → BeginsRun new fc first → BeginsRun old fc first
  kept_begins_back first (inl (behind, is)) = absurd (omega (arith, below, behind))
  kept_begins_back first (inr (lim, run)) = inr (lim, kept_run_back first lim run)

-- ---- a unit before added text

-- a stream has the pages of an older one before a place; behind the ranges of the older one, and before the place, all
-- runs begin where these ranges end, and are one
pub record HasOldPages (old new : PagedStream) (before : ℕ) : Type 0 where
  pub bytes : KeepsBytes old.wd new.wd
  pub within : length old.wd ≤ before
  pub ranges : KeepsRanges old.paragraphs new.paragraphs before
  pub old_table : IsBinTable old.paragraphs
  pub new_table : IsBinTable new.paragraphs
  pub held : (fc : ℕ) → fc < ranges_end old → fc < before → fc < ranges_end new
  pub begins : (fc first : ℕ) → ranges_end old ≤ fc → fc < before → BeginsRun new fc first → first ≡ ranges_end old
  pub has : (fc : ℕ) → ranges_end old ≤ fc → fc < before → BeginsRun new fc (ranges_end old)
  pub one_run :
      (fc later first lim : ℕ) → ranges_end old ≤ fc → fc < before → ranges_end old ≤ later → later < before →
      IsPageRunAt new fc first lim → IsPageRunAt new later first lim

module _ (old new : PagedStream) (before : ℕ) (has : HasOldPages old new before) where
  keeps_page : (fc : ℕ) → fc < before → KeepsPage old new fc
  keeps_page fc below = record {
    named = λ number page. named_kept old.paragraphs new.paragraphs before fc number has.ranges below page;
    page = λ number low within. page_kept old.wd new.wd number has.bytes low within;
    longer = has.bytes.longer;
  }

  -- behind the old ranges
  behind_begins : (fc first : ℕ) → ranges_end old ≤ fc → fc < before → BeginsRun old fc first → BeginsRun new fc first
  behind_begins fc first high below (inl (behind, is)) =
      subst (BeginsRun new fc) (sym is) (has.has fc high below)
  behind_begins fc first high below (inr (lim, run)) =
      let low = named_low old.paragraphs fc run.number has.old_table run.named in absurd (omega (arith, low, high))

  behind_back : (fc first : ℕ) → ranges_end old ≤ fc → fc < before → BeginsRun new fc first → BeginsRun old fc first
  behind_back fc first high below begins = inl (high, has.begins fc first high below begins)

  no_old_run : (fc first lim : ℕ) → ranges_end old ≤ fc → IsPageRunAt old fc first lim → ⊥
  no_old_run fc first lim high run =
      let low = named_low old.paragraphs fc run.number has.old_table run.named in omega (arith, low, high)

  -- a unit whose place is in the old ranges
  tell_by : (at end : ℕ) → at < ranges_end old → at < before → end < before → HasRunBegin old at → HasRunBegin old end →
      TellAlike old new at end
  tell_by at end low below end_below here there =
      let held = has.held at low below in
      let keeps = keeps_page at below in
      elim (cases_lt end (ranges_end old)) [
        | inl end_low ↦
            let end_held = has.held end end_low end_below in
            let end_keeps = keeps_page end end_below in
            record {
              held = λ is. held;
              here = kept_begins old new at has.new_table keeps low held here;
              here_back = kept_begins_back old new at has.new_table keeps low held here;
              run_back = kept_run_back old new at has.new_table keeps low held here;
              there = kept_begins old new end has.new_table end_keeps end_low end_held there;
              there_back = kept_begins_back old new end has.new_table end_keeps end_low end_held there;
              run_there = λ first lim run. run_kept old new end first lim end_keeps run;
            }
        | inr end_high ↦
            let high : ranges_end old ≤ end = omega (arith, end_high) in
            record {
              held = λ is. held;
              here = kept_begins old new at has.new_table keeps low held here;
              here_back = kept_begins_back old new at has.new_table keeps low held here;
              run_back = kept_run_back old new at has.new_table keeps low held here;
              there = λ first begins. behind_begins end first high end_below begins;
              there_back = λ first begins. behind_back end first high end_below begins;
              run_there = λ first lim run. absurd (no_old_run end first lim high run);
            }
      ]

  -- a unit behind the old ranges
  stays_behind : (at end : ℕ) → ranges_end old ≤ at → at ≤ end → end < before → StaysInRun new at end
  stays_behind at end high up below =
      let here : at < before = omega (arith, up, below) in
      let end_high : ranges_end old ≤ end = omega (arith, high, up) in
      record {
        goes_on = λ first lim run. has.one_run at end first lim high here end_high below run;
        began = λ first begins.
            subst (BeginsRun new at) (sym (has.begins end first end_high below begins)) (has.has at high here);
      }

  unit_up : (at : ℕ) (wide : Bool) → at ≤ at + unit_bytes wide
  unit_up at true = omega arith
  unit_up at false = omega arith

  bounded_behind : (at : ℕ) (wide ends : Bool) → ranges_end old ≤ at → at + unit_bytes wide < before →
      IsBounded old at wide ends → IsBounded new at wide ends
  bounded_behind at wide true high below is =
      let held = is.meets.held in absurd (omega (arith, held, high))
  bounded_behind at wide false high below is =
      let inside = is.inside in
      let longer = has.bytes.longer in
      let up = unit_up at wide in
      let end = at + unit_bytes wide in
      record {
        inside = omega (arith, inside, longer);
        here = (ranges_end old, has.has at high (omega (arith, up, below)));
        there = (ranges_end old, has.has end (omega (arith, high, up)) below);
        meets = stays_behind at end high up below;
      }

  pub old_bounded : (at : ℕ) (wide ends : Bool) → IsBounded old at wide ends → IsBounded new at wide ends
  old_bounded at wide ends is =
      let inside = is.inside in
      let within = has.within in
      let up = unit_up at wide in
      let below : at + unit_bytes wide < before = omega (arith, inside, within) in
      elim (cases_lt at (ranges_end old)) [
        | inl low ↦
            bounded_alike old new at wide ends has.bytes.longer
            (tell_by at (at + unit_bytes wide) low (omega (arith, up, below)) below is.here is.there) is
        | inr high ↦ bounded_behind at wide ends (omega (arith, high)) below is
      ]

-- ---- a unit of added text

-- a stream and that of a row of pages alone: where the row tells a run the stream does
pub record HasRowPages (row new : PagedStream) : Type 0 where
  pub wd : new.wd ≡ row.wd
  pub named : (fc number : ℕ) → IsBinPage row.paragraphs fc number → IsBinPage new.paragraphs fc number
  pub new_table : IsBinTable new.paragraphs
  pub end : ranges_end new ≡ ranges_end row

module _ (row new : PagedStream) (has : HasRowPages row new) where
  row_page : (fc : ℕ) → KeepsPage row new fc
  row_page fc = record {
    named = has.named fc;
    page = λ number low within. ap (λ (wd : List ℕ). page_at wd number) has.wd;
    longer = omega (arith, ap length has.wd);
  }

  pub row_begins : (fc first : ℕ) → BeginsRun row fc first → BeginsRun new fc first
  row_begins fc first (inl (behind, is)) = inl (omega (arith, behind, has.end), is ∙ sym has.end)
  row_begins fc first (inr (lim, run)) = inr (lim, run_kept row new fc first lim (row_page fc) run)

  pub row_run : (fc first lim : ℕ) → IsPageRunAt row fc first lim → IsPageRunAt new fc first lim
  row_run fc first lim run = run_kept row new fc first lim (row_page fc) run

  new_low : (fc first lim : ℕ) → IsPageRunAt new fc first lim → fc < ranges_end row
  new_low fc first lim run =
      let low = named_low new.paragraphs fc run.number has.new_table run.named in omega (arith, low, has.end)

  pub row_run_back : (fc : ℕ) → HasRunBegin row fc → (first lim : ℕ) → IsPageRunAt new fc first lim → IsPageRunAt row fc
      first lim
  row_run_back fc begin first lim run =
      let some = run_here row fc (new_low fc first lim run) begin in
      run_was row new fc first lim some.0 some.1.0 has.new_table (row_page fc) some.1.1 run

  pub row_begins_back : (fc : ℕ) → HasRunBegin row fc → (first : ℕ) → BeginsRun new fc first → BeginsRun row fc first
  row_begins_back fc begin first (inl (behind, is)) = inl (omega (arith, behind, has.end), is ∙ has.end)
  row_begins_back fc begin first (inr (lim, run)) = inr (lim, row_run_back fc begin first lim run)

  pub row_bounded : (at : ℕ) (wide ends : Bool) → IsBounded row at wide ends → IsBounded new at wide ends
  row_bounded at wide ends is =
      let end = at + unit_bytes wide in
      bounded_alike row new at wide ends (omega (arith, ap length has.wd))
      (record {
        held = λ low. omega (arith, low, has.end);
        here = row_begins at;
        here_back = row_begins_back at is.here;
        run_back = row_run_back at is.here;
        there = row_begins end;
        there_back = row_begins_back end is.there;
        run_there = λ first lim run. run_kept row new end first lim (row_page end) run;
      }) is
