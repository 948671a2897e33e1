use Rattle.std.proofs.Common.{◌≡◌, ◌∙◌, ap, arith}
use Rattle.doc_parts.specs.declared.lists.Sed.{Sed}
use Rattle.file_rules.specs.Source.{DocSource}
use Rattle.file_rules.specs.SectionRules.{section_fc}
use Rattle.file_rules.specs.FileRules.{doc_source_of}
use Rattle.file_rules.proofs.Public.{index_of_get}
use Rattle.doc_read.specs.Sections.{IsSectionProperties}
use Rattle.doc_read.proofs.SettingsLemmas.{sepx-there, sepx-right, maps_none, maps_more}
use Rattle.doc_read.proofs.sections.read_section_maps.Goals as goal

pub loop-k-init : goal.loop-k-init
loop-k-init c = record {
  so_far = rw c.in_ok-maps.ensures.items (maps_none c.args.text.now.wd c.args.sections.now);
  met = c.in_ok-met.ensures;
}

pub properties-requires-clause-there : goal.properties-requires-clause-there
properties-requires-clause-there c =
    let source = doc_source_of c.args.text.now in
    let wd : c.wd-wd.result.now ≡ source.wd = c.wd-wd.ensures.bytes ∙ ap (λ (s : DocSource). s.wd)
    c.source-source.ensures in
    let list = c.args.sections.now in
    let fc : section_fc list c.loop-k.k ≡ c.get-fc.result.1 =
    index_of_get (λ (sed : Sed). sed.sepx) list c.loop-k.k _ c.get-fc.ensures in
    rw (wd, ← fc) (sepx-there source list c.loop-k.k c.requires.rules c.requires.sections (omega (
      arith,
      c.len-k-end.ensures,
    )))

pub properties-requires-clause-right : goal.properties-requires-clause-right
properties-requires-clause-right c =
    let source = doc_source_of c.args.text.now in
    let wd : c.wd-wd.result.now ≡ source.wd = c.wd-wd.ensures.bytes ∙ ap (λ (s : DocSource). s.wd)
    c.source-source.ensures in
    let list = c.args.sections.now in
    let fc : section_fc list c.loop-k.k ≡ c.get-fc.result.1 =
    index_of_get (λ (sed : Sed). sed.sepx) list c.loop-k.k _ c.get-fc.ensures in
    rw (wd, ← fc) (sepx-right source list c.loop-k.k c.requires.rules c.requires.sections (omega (
      arith,
      c.len-k-end.ensures,
    )))

pub loop-k-preserved : goal.loop-k-preserved
loop-k-preserved c =
    let source = doc_source_of c.args.text.now in
    let wd : c.wd-wd.result.now ≡ source.wd = c.wd-wd.ensures.bytes ∙ ap (λ (s : DocSource). s.wd)
    c.source-source.ensures in
    let list = c.args.sections.now in
    let fc : section_fc list c.loop-k.k ≡ c.get-fc.result.1 =
    index_of_get (λ (sed : Sed). sed.sepx) list c.loop-k.k _ c.get-fc.ensures in
    let map = c.in_ok-properties.field-0 in
    let properties : IsSectionProperties source.wd c.get-fc.result.1 map =
    rw (← wd) c.in_ok-properties.ensures.properties in
    record {
      so_far = rw c.in_ok-push.ensures.items
          (maps_more source.wd list c.loop-k.k c.get-fc.result.1 c.loop-k.maps.items map c.loop-k.invariant.so_far fc
          properties c.in_ok-properties.ensures.formed);
      met = c.in_ok-properties.ensures.met;
    }
