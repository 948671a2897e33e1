use Rattle.std.proofs.Common.{◌≡◌, ◌∙◌, refl, sym, ap, subst, List, ℕ, length, arith}
use Rattle.std.specs.Option.{unwrap_or}
use Rattle.std.proofs.lemmas.Result.{err_from_is_err_and}
use Rattle.fib_form.specs.FibFields.{FibFields}
use Rattle.full_save.specs.WordDocument.{table_stream}
use Rattle.fast_save.specs.declared.ledgers.Counts.{Counts}
use Rattle.fast_save.specs.declared.parts.SessionParts.{SessionParts}
use Rattle.fast_save.specs.Ledgers.{after_fast, sector_bound}
use Rattle.fast_save.specs.Session.{SessionView, IsSessionCounted}
use Rattle.fast_save.specs.Written.{with_text, CanWrite, IsWrittenFile}
use Rattle.fast_save.specs.Fast.{CanSaveFast, IsFastFile, IsFastFault, IsHeldFile, AreFastParts, IsSavedFast}
use Rattle.fast_save.proofs.CanLemmas.{are_small, counted_as_added}
use Rattle.fast_save.proofs.FastLemmas.{AreAfter, session_after_fast, counted_after_fast, saved_fast}
use Rattle.fast_save.proofs.WrittenLemmas.{can_written, pieces_chosen}
use Rattle.fast_save.proofs.OpenLemmas.{few_quick_saves}
use Rattle.fast_save.proofs.session.Session.fast.Goals as goal

pub check_save-requires-clause-saves : goal.check_save-requires-clause-saves
check_save-requires-clause-saves c =
    let session = c.self.invariant.0 in
    omega (
      arith,
      ap (λ (fib : FibFields). fib.quick_saves) session.fib,
      few_quick_saves c.self.inside.file session.saved session.held session.bytes,
    )

pub returns-in_err-sectors-clause-err : goal.returns-in_err-sectors-clause-err
returns-in_err-sectors-clause-err c =
    let p = err_from_is_err_and c.from_residual.result c.from_residual.ensures.1 in
    let fault = c.in_err-sectors.field-0.0 in
    let now = c.args.self.now in
    let is : IsFastFault now.quick_saves now.counts (length (table_stream now.document)) fault =
    subst
    (λ (view : SessionView). IsFastFault view.quick_saves view.counts (length (table_stream view.document)) fault)
    c.self.view_is c.in_err-sectors.ensures in
    rw (p.1, p.2) (refl, is)

pub written_file-requires : goal.written_file-requires
written_file-requires c =
    let inside = c.self.inside in
    subst (λ (f : List ℕ). CanWrite f inside.document inside.parts inside.counts) (sym c.as_slice.ensures)
    (record {
      session = c.self.invariant.0;
      counted = counted_as_added inside.file inside.document inside.parts inside.counts c.self.invariant.1;
      judged = c.in_ok-sectors.ensures.0;
    })

pub returns-in_err-written-clause-err : goal.returns-in_err-written-clause-err
returns-in_err-written-clause-err c =
    let p = err_from_is_err_and c.from_residual-in_err-written.result c.from_residual-in_err-written.ensures.1 in
    rw (p.1, p.2, c.in_err-written.ensures) (refl, tt)

pub of_file-requires : goal.of_file-requires
of_file-requires c =
    let inside = c.self.inside in
    let can_write : CanWrite inside.file inside.document inside.parts inside.counts = record {
      session = c.self.invariant.0;
      counted = counted_as_added inside.file inside.document inside.parts inside.counts c.self.invariant.1;
      judged = c.in_ok-sectors.ensures.0;
    } in
    let written = subst (λ (f : List ℕ). IsWrittenFile f inside.document inside.parts inside.counts
    c.in_ok-written.written) c.as_slice.ensures c.in_ok-written.ensures in
    let text = unwrap_or written.chosen inside.parts.text in
    let parts : SessionParts = with_text inside.parts text in
    let can : CanSaveFast inside.file inside.document parts =
    can_written inside.file inside.document inside.parts inside.counts written.chosen can_write written.is in
    subst (λ (file : List ℕ). IsHeldFile file inside.document) (sym c.as_slice-2.ensures) (written.made can).held

pub returns-in_err-behind-clause-err : goal.returns-in_err-behind-clause-err
returns-in_err-behind-clause-err c =
    let p = err_from_is_err_and c.from_residual-in_err-behind.result c.from_residual-in_err-behind.ensures.1 in
    rw (p.1, p.2) (refl, tt)

pub invariant_of-self : goal.invariant_of-self
invariant_of-self c =
    let inside = c.self.inside in
    let can_write : CanWrite inside.file inside.document inside.parts inside.counts = record {
      session = c.self.invariant.0;
      counted = counted_as_added inside.file inside.document inside.parts inside.counts c.self.invariant.1;
      judged = c.in_ok-sectors.ensures.0;
    } in
    let written = subst (λ (f : List ℕ). IsWrittenFile f inside.document inside.parts inside.counts
    c.in_ok-written.written) c.as_slice.ensures c.in_ok-written.ensures in
    let text = unwrap_or written.chosen inside.parts.text in
    let parts : SessionParts = with_text inside.parts text in
    let can : CanSaveFast inside.file inside.document parts =
    can_written inside.file inside.document inside.parts inside.counts written.chosen can_write written.is in
    let file = c.in_ok-written.written.file in
    let behind = c.in_ok-behind.behind in
    let made : IsFastFile can file = written.made can in
    let are : AreFastParts made.held.holds behind =
    subst (λ (f : List ℕ). (held : IsHeldFile f inside.document) → AreFastParts held.holds behind) c.as_slice-2.ensures
    c.in_ok-behind.ensures made.held in
    let new : SessionParts = record {
      text = record {
        pieces = c.put_pieces.new.pieces;
        added = record { base = behind.base; items = c.new.result };
        ends = behind.ends;
        sections = behind.places;
      };
      fib = behind.fib;
      container = behind.container;
    } in
    let after : AreAfter parts behind new = record {
      pieces = c.put_pieces.ensures ∙ pieces_chosen written.chosen c.in_ok-written.written.pieces inside.parts.text
          written.pieces;
      base = refl;
      items = c.new.ensures;
      ends = refl;
      places = refl;
      fib = refl;
      contents = refl;
    } in
    let bound = sector_bound inside.counts (length (table_stream inside.document)) in
    let low = (are_small inside.counts (length (table_stream inside.document)) can.judged.sectors).bins in
    let counts : c.after_fast-self-inside.result ≡ after_fast bound inside.counts =
    c.after_fast-self-inside.ensures ∙ ap (λ (n : ℕ). after_fast n inside.counts) c.in_ok-sectors.ensures.1 in (
      session_after_fast inside.document parts can file made behind are new after,
      subst (IsSessionCounted file new) (sym counts)
          (counted_after_fast inside.document parts can file made behind are new after low),
    )

pub returns-clause-ok : goal.returns-clause-ok
returns-clause-ok c =
    let inside = c.self.inside in
    let can_write : CanWrite inside.file inside.document inside.parts inside.counts = record {
      session = c.self.invariant.0;
      counted = counted_as_added inside.file inside.document inside.parts inside.counts c.self.invariant.1;
      judged = c.in_ok-sectors.ensures.0;
    } in
    let written = subst (λ (f : List ℕ). IsWrittenFile f inside.document inside.parts inside.counts
    c.in_ok-written.written) c.as_slice.ensures c.in_ok-written.ensures in
    let text = unwrap_or written.chosen inside.parts.text in
    let parts : SessionParts = with_text inside.parts text in
    let can : CanSaveFast inside.file inside.document parts =
    can_written inside.file inside.document inside.parts inside.counts written.chosen can_write written.is in
    let file = c.in_ok-written.written.file in
    let behind = c.in_ok-behind.behind in
    let made : IsFastFile can file = written.made can in
    let are : AreFastParts made.held.holds behind =
    subst (λ (f : List ℕ). (held : IsHeldFile f inside.document) → AreFastParts held.holds behind) c.as_slice-2.ensures
    c.in_ok-behind.ensures made.held in
    let new : SessionParts = record {
      text = record {
        pieces = c.put_pieces.new.pieces;
        added = record { base = behind.base; items = c.new.result };
        ends = behind.ends;
        sections = behind.places;
      };
      fib = behind.fib;
      container = behind.container;
    } in
    let after : AreAfter parts behind new = record {
      pieces = c.put_pieces.ensures ∙ pieces_chosen written.chosen c.in_ok-written.written.pieces inside.parts.text
          written.pieces;
      base = refl;
      items = c.new.ensures;
      ends = refl;
      places = refl;
      fib = refl;
      contents = refl;
    } in
    let bound = sector_bound inside.counts (length (table_stream inside.document)) in
    let counts : c.after_fast-self-inside.result ≡ after_fast bound inside.counts =
    c.after_fast-self-inside.ensures ∙ ap (λ (n : ℕ). after_fast n inside.counts) c.in_ok-sectors.ensures.1 in
    let view : Counts → SessionView = λ numbers. record {
      bytes = file;
      document = inside.document;
      counts = numbers;
      quick_saves = behind.fib.quick_saves;
    } in
    let before : SessionView = record {
      bytes = inside.file;
      document = inside.document;
      counts = inside.counts;
      quick_saves = inside.parts.fib.quick_saves;
    } in
    subst (λ (old : SessionView). IsSavedFast old (view c.after_fast-self-inside.result)) c.self.view_is
    (subst (λ (numbers : Counts). IsSavedFast before (view numbers)) (sym counts)
    (saved_fast inside.document parts can file made behind are new after))
