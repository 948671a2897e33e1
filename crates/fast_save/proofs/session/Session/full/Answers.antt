use Rattle.std.proofs.Common.{◌≡◌, ◌∙◌, refl, sym, ap, subst, List, ℕ, length, arith}
use Rattle.std.proofs.lemmas.Result.{err_from_is_err_and}
use Rattle.cfb_sectors.specs.Header.{sector_count}
use Rattle.fib_form.specs.FibFields.{FibFields}
use Rattle.piece_table.specs.Piece.{TextPiece, one_piece}
use Rattle.doc_model.specs.Formed.{IsFormed}
use Rattle.full_save.specs.Text.{text_items}
use Rattle.full_save.specs.WordDocument.{full_fib, text_offset}
use Rattle.full_save.specs.Layout.{full_save_image, FitsCompoundFile, IsTooLarge}
use Rattle.fast_save.specs.Laws.{IsSavable, IsHeldInFull}
use Rattle.fast_save.specs.Ledgers.{AreCountsOf}
use Rattle.fast_save.specs.Session.{SessionView, IsSession, bin_length}
use Rattle.fast_save.specs.Started.{session_after_full}
use Rattle.fast_save.proofs.FullFileLemmas.{full_saves_hold}
use Rattle.fast_save.proofs.FullLemmas.{counts_in_full, full_quick_saves}
use Rattle.fast_save.proofs.OpenLemmas.{file_whole}
use Rattle.fast_save.proofs.CountLemmas.{counted_at_start}
use Rattle.fast_save.proofs.session.Session.full.Goals as goal

pub returns-in_err-file-clause-ok : goal.returns-in_err-file-clause-ok
returns-in_err-file-clause-ok c =
    let p = err_from_is_err_and c.from_residual.result c.from_residual.ensures.1 in
    rw p.1 tt

pub returns-in_err-file-clause-err : goal.returns-in_err-file-clause-err
returns-in_err-file-clause-err c =
    let p = err_from_is_err_and c.from_residual.result c.from_residual.ensures.1 in
    let is : IsTooLarge c.args.self.now.document c.in_err-file.field-0.0 =
    subst (λ (view : SessionView). IsTooLarge view.document c.in_err-file.field-0.0) c.self.view_is c.in_err-file.ensures in
    rw (p.1, p.2) (refl, is)

pub returns-in_err-image-clause-ok : goal.returns-in_err-image-clause-ok
returns-in_err-image-clause-ok c =
    let p = err_from_is_err_and c.from_residual-in_err-image.result c.from_residual-in_err-image.ensures.1 in
    rw p.1 tt

pub returns-in_err-image-clause-err : goal.returns-in_err-image-clause-err
returns-in_err-image-clause-err c =
    let p = err_from_is_err_and c.from_residual-in_err-image.result c.from_residual-in_err-image.ensures.1 in
    rw (p.1, p.2) (refl, tt)

pub invariant_of-self : goal.invariant_of-self
invariant_of-self c =
    let image = c.in_ok-image.image in
    let parts = c.in_ok-image.parts in
    let both = c.in_ok-image.ensures in
    let counts = c.counts_of-self-inside.result in
    let begun = rw both.1 at c.parts_in_full-made.ensures.session in
    let fresh = rw both.1 at c.parts_in_full-made.ensures.fresh in
    let written = rw both.1 at c.parts_in_full-made.ensures.written in
    let session : IsSession image c.self.inside.document parts =
    subst (λ (f : List ℕ). IsSession f c.self.inside.document parts) (c.as_slice.ensures ∙ sym both.0) begun in
    let are : AreCountsOf parts.text.pieces.pieces (sector_count image) (bin_length parts.fib) counts =
    subst (λ (f : List ℕ). AreCountsOf parts.text.pieces.pieces (sector_count f) (bin_length parts.fib) counts)
    c.as_slice-2.ensures c.counts_of-self-inside.ensures in (
      session,
      counted_at_start image parts counts (file_whole image session.held.rules) are fresh written,
    )

pub returns-clause-ok : goal.returns-clause-ok
returns-clause-ok c =
    let document = c.self.inside.document in
    let parts = c.in_ok-image.parts in
    let both = c.in_ok-image.ensures in
    let pieces_are = rw both.1 at c.parts_in_full-made.ensures.pieces in
    let fib_is = rw both.1 at c.parts_in_full-made.ensures.fib in
    let counts = c.counts_of-self-inside.result in
    let made : (c.in_ok-file.file ≡ full_save_image document) × (FitsCompoundFile document × IsFormed document) =
    c.in_ok-file.ensures in
    let savable : IsSavable document =
    record { formed = made.1.1; sound = c.self.invariant.0.sound; fits = made.1.0 } in
    let pieces = one_piece text_offset (length (text_items document)) in
    let file_is : c.as_slice-2.result.now ≡ full_save_image document = c.as_slice-2.ensures ∙ (both.0 ∙ made.0) in
    let first : AreCountsOf pieces (sector_count c.as_slice-2.result.now) (bin_length parts.fib) counts =
    subst
    (λ (p : List TextPiece). AreCountsOf p (sector_count c.as_slice-2.result.now) (bin_length parts.fib) counts)
    pieces_are c.counts_of-self-inside.ensures in
    let second : AreCountsOf pieces (sector_count c.as_slice-2.result.now) (bin_length (full_fib document)) counts =
    subst
    (λ (f : FibFields). AreCountsOf pieces (sector_count c.as_slice-2.result.now) (bin_length f) counts)
    fib_is first in
    let third : AreCountsOf pieces (sector_count (full_save_image document)) (bin_length (full_fib document)) counts =
    subst (λ (f : List ℕ). AreCountsOf pieces (sector_count f) (bin_length (full_fib document)) counts) file_is second
    in
    let same =
    counts_in_full text_offset (length (text_items document)) (sector_count (full_save_image document))
    (bin_length (full_fib document)) counts third in
    let quick : parts.fib.quick_saves ≡ 0 =
    ap (λ (f : FibFields). f.quick_saves) fib_is ∙ full_quick_saves document in
    let new : SessionView = record {
      bytes = c.in_ok-image.image;
      document = document;
      counts = counts;
      quick_saves = parts.fib.quick_saves;
    } in
    let before : SessionView = record {
      bytes = c.self.inside.file;
      document = document;
      counts = c.self.inside.counts;
      quick_saves = c.self.inside.parts.fib.quick_saves;
    } in
    let after : new ≡ session_after_full before = λ i. record {
      bytes = (both.0 ∙ made.0) i;
      document = document;
      counts = same i;
      quick_saves = quick i;
    } in
    subst
    (λ (view : SessionView).
    FitsCompoundFile view.document × (IsHeldInFull view.document × (new ≡ session_after_full view)))
    c.self.view_is (made.1.0, (full_saves_hold document savable, after))
