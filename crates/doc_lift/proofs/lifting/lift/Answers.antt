-- What is lifted out of the streams of a file is lifted out of the file.
use Rattle.std.proofs.Common.{sym, subst}
use Rattle.doc_bits.specs.declared.places.Where.TheVariants.{File}
use Rattle.doc_bits.specs.Rules.{given}
use Rattle.doc_bits.specs.Places.{rules_in}
use Rattle.doc_bits.proofs.Public.{hold_in}
use Rattle.cfb_streams.specs.Contents.{Contents}
use Rattle.cfb_streams.specs.Container.{outer_rules, HasContents}
use Rattle.file_rules.specs.Faults.{IsReadFault, cfb_refusal}
use Rattle.file_rules.proofs.Public.{refused-first, refused-next, refused-given, refused-container}
use Rattle.doc_read.specs.CarriedParts.{AreWithinBounds}
use Rattle.doc_meaning.proofs.Public.{file_means}
use Rattle.doc_lift.specs.LiftedRules.{lifted_contents_rules}
use Rattle.doc_lift.specs.LiftedTexts.{IsLiftedBy}
use Rattle.doc_lift.specs.LiftedFiles.{IsLifted}
use Rattle.doc_lift.proofs.LiftLemmas.{outer_bounded}
use Rattle.doc_lift.proofs.lifting.lift.Goals as goal

pub returns-in-Err : goal.returns-in-Err
returns-in-Err c =
    let rules = outer_rules c.args.file.now in
    rw c.refused_container.ensures (refused-first (rules_in File rules) (given (HasContents c.args.file.now)
    lifted_contents_rules) (cfb_refusal c.in-Err.fault) (refused-container rules c.in-Err.fault c.in-Err.ensures))

pub lift_contents-requires : goal.lift_contents-requires
lift_contents-requires c =
    let outer = c.in-Ok.ensures in
    subst AreWithinBounds (sym c.container.ensures)
    (outer_bounded c.args.file.now c.in-Ok.outer.container outer.0 outer.1.0)

pub returns-in-Ok-lift_contents : goal.returns-in-Ok-lift_contents
returns-in-Ok-lift_contents c =
    let file = c.args.file.now in
    let contents = c.in-Ok.outer.container in
    let outer = c.in-Ok.ensures in
    let found = c.in-Ok-lift_contents.found in
    let is : IsLiftedBy (lifted_contents_rules contents) contents found =
    subst (λ (k : Contents). IsLiftedBy (lifted_contents_rules k) k found) c.container.ensures
    c.in-Ok-lift_contents.ensures in
    subst (IsLifted file) (sym c.lifted_of.ensures) (record {
      rules = (hold_in File (outer_rules file) outer.0, (contents, (outer.1.0, is.hold)));
      has_contents = outer.1.0;
      storages = outer.1.1;
      text = is.text;
      has_text = is.has_text;
      fib = is.fib;
      units = is.units;
      deleted = is.deleted;
      offsets = is.offsets;
      means = file_means file contents found.document outer.1.0 is.means;
      formed = is.formed;
    })

pub returns-in-Err-lift_contents : goal.returns-in-Err-lift_contents
returns-in-Err-lift_contents c =
    let file = c.args.file.now in
    let contents = c.in-Ok.outer.container in
    let outer = c.in-Ok.ensures in
    let fault = c.in-Err-lift_contents.fault in
    let refused : IsReadFault (lifted_contents_rules contents) fault =
    subst (λ (k : Contents). IsReadFault (lifted_contents_rules k) fault) c.container.ensures
    c.in-Err-lift_contents.ensures in
    rw c.drop_then.ensures
    (refused-next (rules_in File (outer_rules file)) (given (HasContents file) lifted_contents_rules) fault
    (hold_in File (outer_rules file) outer.0)
    (refused-given (HasContents file) lifted_contents_rules contents fault outer.1.0 refused))
