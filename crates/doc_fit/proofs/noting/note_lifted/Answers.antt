use Rattle.std.proofs.Common.{◌≡◌, ◌∙◌, ◌++◌, ap, subst, refl, ℕ, List, Option, map, arith, ◌<◌, ◌≤◌}
use Rattle.std.specs.Prelude.{MatchOption}
use Rattle.doc_bits.specs.Number.{AreBytes}
use Rattle.plain_doc.specs.Sound.{document_rules}
use Rattle.file_rules.specs.declared.fault.ReadFault.{ReadFault}
use Rattle.file_rules.specs.Faults.{IsReadFault}
use Rattle.doc_mends.specs.declared.mends.Mend.{Mend}
use Rattle.doc_mends.specs.declared.mends.Mend.TheVariants.{MakeNote}
use Rattle.further_notes.specs.declared.splicing.Spliced.{Spliced}
use Rattle.doc_fit.specs.Noted.{HasNoSpliceOf, IsSplicedOf}
use Rattle.doc_fit.proofs.NotedLemmas.{struck_streams, no_splice, spliced_formed, noted_formed, not_noted}
use Rattle.doc_fit.proofs.NotedLemmas.{noted_report_is}
use Rattle.doc_fit.proofs.noting.note_lifted.Goals as goal

pub splice_lifted-requires : goal.splice_lifted-requires
splice_lifted-requires c =
    let file = c.args.file.now in
    let stories = c.args.stories in
    let bytes : AreBytes file = λ i. omega (arith, c.type_inv.file i) in
    struck_streams stories file c.args.lifted.now bytes c.requires c.strike_lifted.new.lifted c.in_ok-strikes.strikes.items
    c.in_ok-strikes.ensures

pub returns-in_default : goal.returns-in_default
returns-in_default c =
    let file = c.args.file.now in
    let stories = c.args.stories in
    let bytes : AreBytes file = λ i. omega (arith, c.type_inv.file i) in
    let struck = c.strike_lifted.new.lifted in
    no_splice stories file c.args.lifted.now bytes c.requires struck c.in_ok-strikes.strikes.items c.in_ok-strikes.ensures
    (subst (λ (o : Option Spliced). MatchOption o (HasNoSpliceOf stories struck) (IsSplicedOf stories struck)) c.in_default.is
    c.in_ok-spliced.ensures)

pub mend-requires : goal.mend-requires
mend-requires c =
    let file = c.args.file.now in
    let stories = c.args.stories in
    let bytes : AreBytes file = λ i. omega (arith, c.type_inv.file i) in
    let struck = c.strike_lifted.new.lifted in
    spliced_formed stories file c.args.lifted.now bytes c.requires struck c.in_ok-strikes.strikes.items c.in_ok-strikes.ensures
    c.in-Some.spliced
    (subst (λ (o : Option Spliced). MatchOption o (HasNoSpliceOf stories struck) (IsSplicedOf stories struck)) c.in-Some.is
    c.in_ok-spliced.ensures)

pub check_document-requires : goal.check_document-requires
check_document-requires c =
    let file = c.args.file.now in
    let stories = c.args.stories in
    let bytes : AreBytes file = λ i. omega (arith, c.type_inv.file i) in
    let struck = c.strike_lifted.new.lifted in
    noted_formed stories file c.args.lifted.now bytes c.requires struck c.in_ok-strikes.strikes.items c.in_ok-strikes.ensures
    c.in-Some.spliced
    (subst (λ (o : Option Spliced). MatchOption o (HasNoSpliceOf stories struck) (IsSplicedOf stories struck)) c.in-Some.is
    c.in_ok-spliced.ensures) c.in_ok-found.found c.in_ok-found.ensures c.mend.new.document
    c.in_ok-others.others.items c.in_ok-others.ensures.ok

pub returns-in-Ok : goal.returns-in-Ok
returns-in-Ok c =
    let file = c.args.file.now in
    let stories = c.args.stories in
    let bytes : AreBytes file = λ i. omega (arith, c.type_inv.file i) in
    let struck = c.strike_lifted.new.lifted in
    let strikes : List Mend = c.in_ok-strikes.strikes.items in
    let made = c.in-Some.spliced.made.items in
    let mends : c.in_ok-mends-in-Ok.mends.items ≡ map MakeNote made ++ (strikes ++ c.in_ok-others.others.items) =
    c.in_ok-mends-in-Ok.ensures
    ∙ (λ i. map MakeNote (c.deref.ensures.value i) ++ (strikes ++ c.deref-in-Ok.ensures.value i)) in
    noted_report_is stories file c.args.lifted.now bytes c.requires struck strikes c.in_ok-strikes.ensures c.in-Some.spliced
    (subst (λ (o : Option Spliced). MatchOption o (HasNoSpliceOf stories struck) (IsSplicedOf stories struck)) c.in-Some.is
    c.in_ok-spliced.ensures) c.in_ok-found.found c.in_ok-found.ensures c.mend.new.document
    c.in_ok-others.others.items c.in_ok-others.ensures.ok
    (record {
      document = c.mend.new.document;
      outer = c.strike_lifted.new.lifted.outer;
      units = c.strike_lifted.new.lifted.units;
      deleted = c.strike_lifted.new.lifted.deleted;
      offsets = c.strike_lifted.new.lifted.offsets;
    }) c.in_ok-losses-in-Ok.losses c.in_ok-mends-in-Ok.mends.items refl
    c.in_ok-losses-in-Ok.ensures mends c.in-Ok.ensures

pub returns-in-Err-Refused : goal.returns-in-Err-Refused
returns-in-Err-Refused c =
    let file = c.args.file.now in
    let stories = c.args.stories in
    let bytes : AreBytes file = λ i. omega (arith, c.type_inv.file i) in
    let struck = c.strike_lifted.new.lifted in
    not_noted stories file c.args.lifted.now bytes c.requires struck c.in_ok-strikes.strikes.items c.in_ok-strikes.ensures
    c.in-Some.spliced
    (subst (λ (o : Option Spliced). MatchOption o (HasNoSpliceOf stories struck) (IsSplicedOf stories struck)) c.in-Some.is
    c.in_ok-spliced.ensures) c.in_ok-found.found c.in_ok-found.ensures c.mend.new.document
    c.in_ok-others.others.items c.in_ok-others.ensures.ok c.in-Err-Refused.field-0-0
    (c.in-Err-Refused.field-0-1, c.in-Err-Refused.field-0-2)
    (subst (λ (f : ReadFault). IsReadFault (document_rules c.mend.new.document) f) c.in-Err-Refused.field-0-is
    c.in-Err-Refused.ensures)
