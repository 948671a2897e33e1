use Rattle.std.proofs.Common.{◌≡◌, ◌+◌, ◌∙◌, false, length, get_or, slice_index_or, slice_set, inl, inr, ap, sym}
use Rattle.std.proofs.Common.{subst, arith}
use Rattle.std.proofs.lemmas.Option.{slice_get-get_or}
use Rattle.std.proofs.lemmas.List.{get_or_default}
use Rattle.sprm_table.specs.Sprm.{IsAcceptedList}
use Rattle.prop_map.specs.Formed.{prc_groups}
use Rattle.prop_map.specs.Modifiers.{no_modifier, printed_modifier, IsSpeltModifier}
use Rattle.piece_table.specs.declared.pieces.Entry.{Entry}
use Rattle.piece_table.specs.ClxRules.{FitsPages}
use Rattle.piece_table.specs.PrintSteps.{PrcTable, prc_table, HasPrm, ArePrinted}
use Rattle.piece_table.proofs.PrcPrintLemmas.{printed_short, printed_found, printed_add, IsPrintedEntry}
use Rattle.piece_table.proofs.printing.PrintedPrcs.add.Goals as goal

abbrev none : Entry
none = record { piece = record { at = 0; wide = false; len = 0 }; modifier = 0 }

pub prm_of-requires-clause-list : goal.prm_of-requires-clause-list
prm_of-requires-clause-list c =
    let printable = c.requires.printable c.args.k none c.requires.entry in
    let m = c.index-modifiers-number.result in
    let entry = get_or c.args.entries.now c.args.k none in
    let is : slice_index_or c.args.modifiers.now entry.modifier no_modifier ≡ m = sym (c.index-modifiers-number.is ∙
    get_or_default c.args.modifiers.now entry.modifier m no_modifier printable.within) in
    omega (
      arith,
      ap length c.as_slice.ensures,
      ap length c.in_ok-list.ensures.bytes,
      printed_short m (subst FitsPages
          is printable.fits),
    )

pub returns : goal.returns
returns c =
    let printable = c.requires.printable c.args.k none c.requires.entry in
    let modifiers = c.args.modifiers.now in
    let entries = c.args.entries.now in
    let m = c.index-modifiers-number.result in
    let k = c.args.k in
    let prm = c.in_ok-prm.prm in
    let entry = get_or entries k none in
    let old = prc_table c.args.self.now in
    let new = prc_table c.prm_of.new.self in
    let is : slice_index_or modifiers entry.modifier no_modifier ≡ m = sym (c.index-modifiers-number.is ∙
    get_or_default modifiers entry.modifier m no_modifier printable.within) in
    let has : IsPrintedEntry modifiers entries k entry m = record {
      there = slice_get-get_or entries k none c.requires.entry;
      within = printable.within;
      is = is;
      some = λ e. let yes = c.is_none.ensures.1 e in cc (yes, c.if-is_none.false);
      accepted = subst (λ b. IsAcceptedList b prc_groups) c.in_ok-list.ensures.bytes c.in_ok-list.ensures.accepted;
      back = subst (λ b. IsSpeltModifier b m) c.in_ok-list.ensures.bytes c.in_ok-list.ensures.back;
    } in
    let prm_is : HasPrm old new (printed_modifier m) prm = subst (λ l. HasPrm old new l prm) (c.as_slice.ensures ∙
    c.in_ok-list.ensures.bytes) c.in_ok-prm.ensures in
    elim prm_is [
      | inl found ↦ subst (λ (t : PrcTable). ArePrinted modifiers entries (k + 1) (record {
        count = t.count;
        prms = slice_set t.prms entry.modifier prm;
        bytes = t.bytes;
        found = t.found;
      })) (sym found.1)
          (printed_found modifiers entries k old prm entry m c.requires.printed has found.0)
      | inr made ↦ printed_add modifiers entries k old new prm entry m c.requires.printed has made
    ]
