-- The runs of items whose units are from a byte on, and that pages can be written of them.
use Rattle.std.proofs.Common.{◌≡◌, ◌∙◌, refl, ap, inl, inr, subst, sym, ℕ, ◌+◌, ◌*◌, ◌^◌, ◌<◌, ◌≤◌, List, [], ◌∷◌}
use Rattle.std.proofs.Common.{length}
use Rattle.std.proofs.Common.{All, arith}
use Rattle.std.proofs.lemmas.Bool.{cases_lt}
use Rattle.std.proofs.lemmas.List.{nil_from_length}
use Rattle.std.proofs.lemmas.List.Elements.{All-nil}
use Rattle.std.proofs.lemmas.Option.{none-some}
use Rattle.std.proofs.Math.Nat.{min-le_right}
use Rattle.doc_bits.specs.Plc.{plc_cp}
use Rattle.doc_bits.proofs.Public.{All_at, All-from_slice_get}
use Rattle.fkp_pages.specs.declared.kind.PageKind.{PageKind}
use Rattle.fkp_pages.specs.declared.kind.PageKind.TheVariants.{Chpx, Papx}
use Rattle.fkp_pages.specs.Bin.{bin_count}
use Rattle.fkp_pages.specs.Runs.{IsWritableRun, AreRuns}
use Rattle.fkp_pages.specs.Pages.{first_fc}
use Rattle.doc_model.specs.declared.item.Item.{Item}
use Rattle.doc_model.specs.Collected.{joined_texts}
use Rattle.doc_model.specs.Document.{IsFormedItem, IsFormedText}
use Rattle.plain_doc.specs.RulesOfItems.{HasShortProperties}
use Rattle.doc_model.specs.Stretches.{stretches}
use Rattle.doc_model.proofs.Public.{are_stretches}
use Rattle.full_save.specs.Runs.{joins_run, runs_from, text_runs}
use Rattle.full_save.proofs.Public.{last_fc-text_runs, IsWritableItem, AreTextRuns, text_runs_right}
use Rattle.fast_save_layout.specs.KeptBins.{kept_end}
use Rattle.fast_save_layout.specs.MarkRuns.{mark_runs}
use Rattle.fast_save_layout.proofs.MarkLemmas.{AreMade, made_are}

pub writable_items : (items : List Item) → IsFormedText items → All HasShortProperties items → All IsWritableItem items
writable_items items formed_text all_short = All-from_slice_get IsWritableItem items (λ k item here.
    let formed = All_at IsFormedItem items k item formed_text.each here in
    let short = All_at HasShortProperties items k item all_short here in
    record {
      unit = formed.unit;
      formed = formed.maps.chp;
      short = short.chp;
      mark = λ mark has. record {
        istd = formed.style mark has;
        formed = formed.maps.pap mark has;
        short = short.pap mark has;
      };
    })

first_of : (kind : PageKind) (at : ℕ) (parts : List (List Item)) → 0 < length (joined_texts parts) →
    first_fc (runs_from kind at parts) ≡ at
unfolding runs_from
first_of kind at [] some = absurd (omega (arith, some))
first_of kind at (part ∷ parts) some = refl

pub text_first : (kind : PageKind) (base : ℕ) (items : List Item) → 0 < length items →
    first_fc (text_runs kind base items) ≡ base
text_first kind base items some =
    let parts = stretches (joins_run kind) items in
    let len = ap length (are_stretches (joins_run kind) items).whole in
    first_of kind base parts (omega (arith, some, len))

-- runs of paragraphs begin at the added text or before it
pub kept_end_low : (table : List ℕ) (base : ℕ) → kept_end table base ≤ base
kept_end_low table base = min-le_right (plc_cp table (bin_count table)) base

-- without items there are none
pub no_text : (kind : PageKind) (base : ℕ) → text_runs kind base [] ≡ []
unfolding stretches runs_from
no_text kind base = refl

pub no_marks : (table : List ℕ) (base : ℕ) → mark_runs table base [] ≡ []
unfolding stretches runs_from
no_marks table base = refl

no_runs : (kind : PageKind) → AreRuns kind []
no_runs kind =
    record { writable = All-nil (IsWritableRun kind); touch = λ k run next here there. absurd (none-some run here) }

module _ (base : ℕ) (items : List Item) (writable : All IsWritableItem items)
    (small : base + 2 * length items + 2 < 2 ^ 32) where
  pub text_right : (kind : PageKind) → 0 < length items → AreTextRuns kind (text_runs kind base items)
  text_right kind some = text_runs_right kind base items writable some (omega (arith, small))

  pub marks_made : (table : List ℕ) → 0 < length items →
      AreMade Papx (text_runs Papx base items) (mark_runs table base items)
  marks_made table some =
      let runs = text_right Papx some in
      let first = text_first Papx base items some in
      let last = last_fc-text_runs Papx base items some in
      let low = kept_end_low table base in
      made_are Papx (kept_end table base) items (text_runs Papx base items) (omega (arith, first, low)) runs.right
      runs.numbers runs.some (omega (arith, last, small))

  pub characters_right : AreRuns Chpx (text_runs Chpx base items)
  characters_right = elim (cases_lt 0 (length items)) [
    | inl some ↦ (text_right Chpx some).right
    | inr none ↦
        let empty = nil_from_length items (omega (arith, none)) in
        subst (AreRuns Chpx) (sym (ap (text_runs Chpx base) empty ∙ no_text Chpx base)) (no_runs Chpx)
  ]

  pub marks_right : (table : List ℕ) → AreRuns Papx (mark_runs table base items)
  marks_right table = elim (cases_lt 0 (length items)) [
    | inl some ↦ (marks_made table some).right
    | inr none ↦
        let empty = nil_from_length items (omega (arith, none)) in
        subst (AreRuns Papx) (sym (ap (mark_runs table base) empty ∙ no_marks table base)) (no_runs Papx)
  ]
