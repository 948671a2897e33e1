use Rattle.std.proofs.Common.{◌≡◌, ◌∙◌, refl, sym, subst, List, ℕ}
use Rattle.file_rules.specs.FileRules.{IsFrontOf, rules_of_pieces}
use Rattle.file_rules.proofs.Public.{pieces_single}
use Rattle.doc_lift.proofs.SkipLemmas.{AreLoaded, AreOneStreams, loaded_front, loaded_rules, rules_loaded, refused_none}
use Rattle.doc_lift.proofs.SkipLemmas.{units_one}
use Rattle.doc_lift.proofs.gap_filling.load_filled.Goals as goal

pub returns-then-are_units : goal.returns-then-are_units
returns-then-are_units c =
    let wd = c.args.filled.now.wd.items in
    let table = c.args.filled.now.table.items in
    let front = c.in-Ok.front in
    let are : AreLoaded c.args.fib.now wd table c.deref.result.now c.deref-2.result.now c.text_len.result = record {
      wd_is = c.deref.ensures.value;
      table_is = c.deref-2.ensures.value;
      len_is = c.text_len.ensures.value;
    } in
    let own = loaded_front c.args.fib.now wd table c.deref.result.now c.deref-2.result.now c.text_len.result front.text
    front.units.items are c.in-Ok.ensures.1 in
    let units : front.units.items ≡ c.args.units.now =
    sym c.deref-in-Ok.ensures.value ∙ c.if-are_units.ensures.0 refl in
    record {
      rules = loaded_rules c.args.fib.now wd table c.deref.result.now c.deref-2.result.now c.text_len.result are
          c.in-Ok.ensures.0;
      front = subst (λ (us : List ℕ). IsFrontOf wd table front.text us) units own;
    }

pub returns-in-Ok : goal.returns-in-Ok
returns-in-Ok c =
    let wd = c.args.filled.now.wd.items in
    let table = c.args.filled.now.table.items in
    let front = c.in-Ok.front in
    let are : AreLoaded c.args.fib.now wd table c.deref.result.now c.deref-2.result.now c.text_len.result = record {
      wd_is = c.deref.ensures.value;
      table_is = c.deref-2.ensures.value;
      len_is = c.text_len.ensures.value;
    } in
    let own = loaded_front c.args.fib.now wd table c.deref.result.now c.deref-2.result.now c.text_len.result front.text
    front.units.items are c.in-Ok.ensures.1 in
    let same : AreOneStreams wd table wd table = record { wd_is = refl; table_is = refl } in
    λ text is.
    let units : front.units.items ≡ c.args.units.now =
    units_one wd table wd table c.args.units.now front.units.items text front.text is.front own same in
    absurd (cc (c.if-are_units.ensures.1 (c.deref-in-Ok.ensures.value ∙ units)))

pub returns-in-Err-Refused : goal.returns-in-Err-Refused
returns-in-Err-Refused c =
    let wd = c.args.filled.now.wd.items in
    let table = c.args.filled.now.table.items in
    let w = c.deref.result.now in
    let t = c.deref-2.result.now in
    let len = c.text_len.result in
    let are : AreLoaded c.args.fib.now wd table w t len = record {
      wd_is = c.deref.ensures.value;
      table_is = c.deref-2.ensures.value;
      len_is = c.text_len.ensures.value;
    } in
    λ text is.
    refused_none (rules_of_pieces w t len) c.in-Err-Refused.field-0 c.in-Err-Refused.field-0-0
    c.in-Err-Refused.field-0-1 c.in-Err-Refused.field-0-2 c.in-Err-Refused.field-0-is c.in-Err-Refused.ensures
    (pieces_single w t len) (rules_loaded c.args.fib.now wd table w t len are is.rules)
