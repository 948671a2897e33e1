use Rattle.std.proofs.Common.{◌≡◌, ◌∙◌, ◌++◌, ap, subst, List}
use Rattle.doc_losses.specs.References.{Names, names_of}
use Rattle.doc_losses.proofs.Public.{same_names}
use Rattle.doc_mends.specs.Mending.{IsMended}
use Rattle.doc_mends.specs.declared.mends.Mend.{Mend}
use Rattle.huge_papx.proofs.Public.{struck_defined_formed}
use Rattle.doc_fit.proofs.MendLemmas.{struck_text, main_same, own_table}
use Rattle.doc_fit.proofs.opening.mend_lifted.Goals as goal

pub mend-requires : goal.mend-requires
mend-requires c =
    let before = c.args.lifted.now in
    let has = c.requires.deletions in
    let struck = struck_text before c.in_ok-found.found c.strike_and_define.new.document c.deref.result.now
    c.deref-2.result.now c.in_ok-mends.mends.items has c.in_ok-found.ensures
    (c.deref.ensures.value ∙ (λ i. (c.replace-deleted.ensures.value i).items))
    (c.deref-2.ensures.value ∙ (λ i. (c.replace-offsets.ensures.value i).items)) c.in_ok-mends.ensures in
    struck_defined_formed has.text before.document c.strike_and_define.new.document c.in_ok-mends.mends.items c.requires.formed struck

pub returns : goal.returns
returns c =
    let before = c.args.lifted.now in
    let after = c.mend.new.document in
    let found = c.in_ok-found.ensures in
    let has = c.requires.deletions in
    let marks = c.in_ok-found.found.marks in
    let struck = struck_text before c.in_ok-found.found c.strike_and_define.new.document c.deref.result.now
    c.deref-2.result.now c.in_ok-mends.mends.items has found
    (c.deref.ensures.value ∙ (λ i. (c.replace-deleted.ensures.value i).items))
    (c.deref-2.ensures.value ∙ (λ i. (c.replace-offsets.ensures.value i).items)) c.in_ok-mends.ensures in
    let wd : found.losses.wd ≡ has.text.wd = main_same before c.in_ok-found.found has found in
    let table : found.losses.table ≡ has.text.table = own_table before c.in_ok-found.found has found in
    let names : names_of found.losses.wd found.losses.table ≡ names_of has.text.wd has.text.table =
    λ i. names_of (wd i) (table i) in
    record {
      losses = found.losses;
      text = has.text;
      has_text = has.has_text;
      mended = record {
        struck = c.strike_and_define.new.document;
        strikes = c.in_ok-mends.mends.items;
        struck_is = struck;
        others = c.in_ok-others.others.items;
        mended_is = subst (λ (n : Names). IsMended n c.strike_and_define.new.document after c.in_ok-others.others.items)
            (same_names found.losses.wd found.losses.table marks found.marks ∙ names) c.in_ok-others.ensures.ok;
        mends_are = c.in_ok-extend_from_slice.ensures.items
            ∙ ap (λ (l : List Mend). c.in_ok-mends.mends.items ++ l) c.deref-3.ensures.value;
      };
    }
