use Rattle.std.proofs.Common.{◌++◌, sym, ap, ◌∙◌, append_assoc}
use Rattle.std.specs.List.{flat_map}
use Rattle.std.proofs.lemmas.List.{append-nil}
use Rattle.doc_show.specs.Settings.{property_text}
use Rattle.doc_show.proofs.settings.push_properties.Goals as goal

pub loop-code-init : goal.loop-code-init
loop-code-init c = ap (λ es. c.args.text.now ++ flat_map property_text es) c.entries-left.ensures

pub loop-code-preserved : goal.loop-code-preserved
loop-code-preserved c =
    ap (λ t. t ++ flat_map property_text c.next.new.self) c.in_ok-push_property.ensures
    ∙ (append_assoc c.loop-code.text (property_text (c.in-Some.code.0, c.in-Some.value.now)) (flat_map property_text
    c.next.new.self)
    ∙ (ap (λ es. c.loop-code.text ++ flat_map property_text es) (sym c.in-Some.ensures) ∙ c.loop-code.invariant))

pub returns : goal.returns
returns c = sym (append-nil c.loop-code.text) ∙ (ap (λ es. c.loop-code.text ++ flat_map property_text es)
    (sym c.in_default.ensures.0) ∙ c.loop-code.invariant)
