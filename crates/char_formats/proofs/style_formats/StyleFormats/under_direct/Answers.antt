use Rattle.effective_props.specs.Layers.{named_style}
use Rattle.char_formats.proofs.FormatLemmas.{under-both, under-style}
use Rattle.char_formats.proofs.style_formats.StyleFormats.under_direct.Goals as goal

pub returns-in-None : goal.returns-in-None
returns-in-None c =
    under-style c.args.self.now c.args.istd (named_style c.args.direct.now) c.style_change-style.result
    c.style_change-style.ensures c.in-None.ensures

pub returns-in-Some : goal.returns-in-Some
returns-in-Some c =
    under-both c.args.self.now c.args.istd (named_style c.args.direct.now) c.style_change-style.result c.in-Some.named
    c.then.result c.style_change-style.ensures c.in-Some.ensures c.then.ensures
