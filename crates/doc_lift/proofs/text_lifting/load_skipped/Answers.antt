use Rattle.std.proofs.Common.{◌≡◌, ◌∙◌, ◌<◌, ◌^◌, refl, sym, ap, subst, length, arith, ℕ, List}
use Rattle.fib_form.specs.FibFields.{fib_fields}
use Rattle.fib_form.specs.TableParts.{pair_number}
use Rattle.fib_form.specs.Fib.{table_part}
use Rattle.fib_form.specs.declared.table_parts.TablePart.TheVariants.{PlcfSed}
use Rattle.fib_versions.specs.Early.{early_fields, early_pairs}
use Rattle.fib_versions.specs.Versions.{all_text_length}
use Rattle.file_rules.specs.FileRules.{rules_of_pieces}
use Rattle.file_rules.proofs.Public.{pieces_single}
use Rattle.doc_lift.proofs.LiftLemmas.{early_long, early_same, front_short}
use Rattle.doc_lift.proofs.SkipLemmas.{skipped_len, table_len, skipped_holds, AreLoaded, AreCompared, text_found}
use Rattle.doc_lift.proofs.SkipLemmas.{text_keeps, rules_loaded, refused_none}
use Rattle.doc_lift.proofs.text_lifting.load_skipped.Goals as goal

pub early_fib-requires : goal.early_fib-requires
early_fib-requires c = subst (λ (w : List ℕ). length w < 2 ^ 32) (sym c.requires.same) c.requires.small

pub load_front-requires-clause-small : goal.load_front-requires-clause-small
load_front-requires-clause-small c =
    let wd = c.args.wd.now in
    let skipped = c.args.skipped.now in
    omega (
      arith,
      ap length c.deref.ensures.value,
      skipped_len wd c.args.table.now skipped.wd.items skipped.table.items c.requires.skips
          (early_long wd c.requires.version),
      c.requires.small,
    )

pub load_front-requires-clause-table_small : goal.load_front-requires-clause-table_small
load_front-requires-clause-table_small c =
    let wd = c.args.wd.now in
    omega (
      arith,
      ap length c.deref-2.ensures.value,
      table_len (early_pairs wd) c.args.table.now c.args.skipped.now.table.items c.requires.skips.table_is,
      c.requires.table_small,
    )

pub load_front-requires-clause-fields : goal.load_front-requires-clause-fields
load_front-requires-clause-fields c =
    early_same c.args.wd.now c.args.fib.now c.early_fib.result c.requires.same c.early_fib.ensures
    ∙ sym (ap fib_fields c.deref.ensures.value ∙ c.requires.skips.fields)

pub load_front-requires-clause-front : goal.load_front-requires-clause-front
load_front-requires-clause-front c =
    let wd = c.args.wd.now in
    let fields : fib_fields c.deref.result.now ≡ early_fields wd (early_pairs wd) =
    ap fib_fields c.deref.ensures.value ∙ c.requires.skips.fields in
    omega (
      arith,
      front_short wd c.deref.result.now fields,
      c.text_len.ensures.value,
      ap all_text_length c.requires.same,
    )

pub keeps_text-requires : goal.keeps_text-requires
keeps_text-requires c =
    let wd = c.args.wd.now in
    let skipped = c.args.skipped.now in
    record {
      len = omega (
        arith,
        ap length c.deref-in-Ok.ensures.value,
        skipped_len wd c.args.table.now skipped.wd.items skipped.table.items c.requires.skips
            (early_long wd c.requires.version),
      );
    }

pub returns-then-keeps_text : goal.returns-then-keeps_text
returns-then-keeps_text c =
    let wd = c.args.wd.now in
    let table = c.args.table.now in
    let skipped = c.args.skipped.now in
    let front = c.in-Ok.front in
    let are : AreLoaded wd skipped.wd.items skipped.table.items c.deref.result.now c.deref-2.result.now
    c.text_len.result = record {
      wd_is = c.deref.ensures.value;
      table_is = c.deref-2.ensures.value;
      len_is = c.text_len.ensures.value ∙ ap all_text_length c.requires.same;
    } in
    let compared : AreCompared wd table skipped.wd.items front.units.items c.part-sections.result.now
    c.deref-in-Ok.result.now c.deref-in-Ok-2.result.now = record {
      sections_are = c.part-sections.ensures ∙ ap (λ (w : List ℕ). table_part w table (pair_number PlcfSed))
          c.requires.same;
      wd_is = c.deref-in-Ok.ensures.value;
      units_are = c.deref-in-Ok-2.ensures.value;
    } in
    text_found wd table skipped.wd.items skipped.table.items c.deref.result.now c.deref-2.result.now c.text_len.result
    front.text c.args.units.now front.units.items c.part-sections.result.now c.deref-in-Ok.result.now
    c.deref-in-Ok-2.result.now c.requires.skips are compared c.in-Ok.ensures.0 c.in-Ok.ensures.1
    (c.if-keeps_text.ensures.0 refl)

pub returns-in-Ok : goal.returns-in-Ok
returns-in-Ok c =
    let wd = c.args.wd.now in
    let table = c.args.table.now in
    let skipped = c.args.skipped.now in
    let front = c.in-Ok.front in
    let are : AreLoaded wd skipped.wd.items skipped.table.items c.deref.result.now c.deref-2.result.now
    c.text_len.result = record {
      wd_is = c.deref.ensures.value;
      table_is = c.deref-2.ensures.value;
      len_is = c.text_len.ensures.value ∙ ap all_text_length c.requires.same;
    } in
    let compared : AreCompared wd table skipped.wd.items front.units.items c.part-sections.result.now
    c.deref-in-Ok.result.now c.deref-in-Ok-2.result.now = record {
      sections_are = c.part-sections.ensures ∙ ap (λ (w : List ℕ). table_part w table (pair_number PlcfSed))
          c.requires.same;
      wd_is = c.deref-in-Ok.ensures.value;
      units_are = c.deref-in-Ok-2.ensures.value;
    } in
    λ other is.
    absurd (cc (c.if-keeps_text.ensures.1
    (text_keeps wd table skipped.wd.items skipped.table.items c.deref.result.now c.deref-2.result.now c.text_len.result
    front.text other c.args.units.now front.units.items c.part-sections.result.now c.deref-in-Ok.result.now
    c.deref-in-Ok-2.result.now c.requires.skips are compared c.in-Ok.ensures.1 is)))

pub returns-in-Err-Refused : goal.returns-in-Err-Refused
returns-in-Err-Refused c =
    let wd = c.args.wd.now in
    let table = c.args.table.now in
    let skipped = c.args.skipped.now in
    let w = c.deref.result.now in
    let t = c.deref-2.result.now in
    let len = c.text_len.result in
    let are : AreLoaded wd skipped.wd.items skipped.table.items w t len = record {
      wd_is = c.deref.ensures.value;
      table_is = c.deref-2.ensures.value;
      len_is = c.text_len.ensures.value ∙ ap all_text_length c.requires.same;
    } in
    λ other is.
    let hold = rules_loaded wd skipped.wd.items skipped.table.items w t len are
    (skipped_holds wd table skipped.wd.items skipped.table.items c.args.units.now other c.requires.skips is) in
    refused_none (rules_of_pieces w t len) c.in-Err-Refused.field-0 c.in-Err-Refused.field-0-0
    c.in-Err-Refused.field-0-1 c.in-Err-Refused.field-0-2 c.in-Err-Refused.field-0-is c.in-Err-Refused.ensures
    (pieces_single w t len) hold
