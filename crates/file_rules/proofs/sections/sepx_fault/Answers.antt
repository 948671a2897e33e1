use Rattle.std.proofs.Common.{◌≡◌, refl, length, subst, arith}
use Rattle.doc_bits.specs.Rules.{LeastOrNone, Among}
use Rattle.doc_bits.proofs.Public.{least_step, least_none}
use Rattle.doc_parts.specs.declared.lists.Sed.{Sed}
use Rattle.doc_parts.specs.Sections.{place_of_fc_sepx}
use Rattle.fib_form.specs.declared.table_parts.TablePart.TheVariants.{PlcfSed}
use Rattle.file_rules.specs.Source.{part_place}
use Rattle.file_rules.specs.SectionRules.{section_fc, LacksSepx, HasSepxFault}
use Rattle.file_rules.proofs.RowLemmas.{index_of_get}
use Rattle.file_rules.proofs.sections.sepx_fault.Goals as goal

pub fault-requires-clause-there : goal.fault-requires-clause-there
fault-requires-clause-there c = λ lacks.
    let source = c.args.source.now in
    let list = c.args.list.now in
    let at = part_place source PlcfSed in
    let fc : section_fc list c.loop-k.k ≡ c.get-fc.result.1 = index_of_get (λ (sed : Sed). sed.sepx) list c.loop-k.k _
    c.get-fc.ensures in
    let lost : LacksSepx source.wd (section_fc list c.loop-k.k) = rw (fc, ← c.wd-wd.ensures.bytes) lacks in
    c.requires (place_of_fc_sepx at (length list) c.loop-k.k) (record {
      entry = c.loop-k.k;
      below = omega (
        arith,
        c.len-k-end.ensures,
      );
      broken = record { here = refl; broken = lost };
    })

pub loop-k-init : goal.loop-k-init
loop-k-init c =
    let source = c.args.source.now in
    record {
      least = least_none (λ k. HasSepxFault source.wd (section_fc c.args.list.now k));
      judged = c.in_ok-judged.ensures;
    }

pub loop-k-preserved : goal.loop-k-preserved
loop-k-preserved c =
    let source = c.args.source.now in
    let list = c.args.list.now in
    let fc : section_fc list c.loop-k.k ≡ c.get-fc.result.1 = index_of_get (λ (sed : Sed). sed.sepx) list c.loop-k.k _
    c.get-fc.ensures in
    let here : LeastOrNone (HasSepxFault source.wd (section_fc list c.loop-k.k)) c.in_ok-fault.fault = rw (
      fc,
      ← c.wd-wd.ensures.bytes,
    ) c.in_ok-fault.ensures.fault in
    record {
      least = rw c.lesser-least.ensures (least_step (λ k. HasSepxFault source.wd (section_fc list k)) c.loop-k.k _ _
          c.loop-k.invariant.least here);
      judged = c.in_ok-fault.ensures.judged;
    }

pub returns : goal.returns
returns c =
    let source = c.args.source.now in
    let list = c.args.list.now in
    let all : c.loop-k.k ≡ length list = omega (arith, c.len-k-end.ensures) in
    subst (λ n. LeastOrNone (Among n (λ k. HasSepxFault source.wd (section_fc list k))) c.loop-k.least) all
    c.loop-k.invariant.least
