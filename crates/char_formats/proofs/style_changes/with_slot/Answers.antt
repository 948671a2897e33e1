use Rattle.std.proofs.Common.{ap, sym, subst, ◌∙◌}
use Rattle.std.specs.Prelude.{option_map}
use Rattle.style_sheet.specs.Changes.{kind_characters}
use Rattle.effective_props.specs.Layers.{character_properties}
use Rattle.char_formats.specs.Changes.{with_layer, IsChangeOf}
use Rattle.char_formats.proofs.ChainLemmas.{nothing_said}
use Rattle.char_formats.proofs.style_changes.with_slot.Goals as goal

pub returns-in_default : goal.returns-in_default
returns-in_default c = λ act h.
    nothing_said (character_properties (option_map (λ x. x.now) c.args.style)) act c.args.below (ap (λ s.
    character_properties (option_map (λ x. x.now) s)) c.in_default.is) h

pub returns-in-Para : goal.returns-in-Para
returns-in-Para c = λ act h.
    subst (λ m. IsChangeOf (with_layer m act) c.lay_all.new.self) (sym (ap (λ s. character_properties (option_map (λ x.
    x.now) s)) c.in-Some.is ∙ ap kind_characters c.in-Para.is)) (c.lay_all.ensures act h)

pub returns-in-Char : goal.returns-in-Char
returns-in-Char c = λ act h.
    subst (λ m. IsChangeOf (with_layer m act) c.lay_all-in-Char.new.self)
    (sym (ap (λ s. character_properties (option_map (λ x. x.now) s)) c.in-Some.is
    ∙ ap kind_characters c.in-Char.is)) (c.lay_all-in-Char.ensures act h)

pub returns-in-Other : goal.returns-in-Other
returns-in-Other c = λ act h.
    nothing_said (character_properties (option_map (λ x. x.now) c.args.style)) act c.args.below (ap (λ s.
    character_properties (option_map (λ x. x.now) s)) c.in-Some.is ∙ ap kind_characters c.in-Other.is) h
