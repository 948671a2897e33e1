use Rattle.std.proofs.Common.{◌≡◌, None, Option, ℕ, subst}
use Rattle.char_formats.specs.Changes.{Act, IsChangeOf}
use Rattle.char_formats.specs.Formats.{format_in}
use Rattle.char_formats.proofs.FormatLemmas.{format_said}
use Rattle.char_formats.proofs.style_formats.StyleFormats.format.Goals as goal

pub returns : goal.returns
returns c =
    format_said c.args.self.now c.args.istd c.args.direct.now c.under_direct-change.result c.lay_all.new.self
    c.format.result c.under_direct-change.ensures c.lay_all.ensures
    (subst (λ (picture : Option ℕ). (act : Act) → IsChangeOf act c.lay_all.new.self →
    c.format.result ≡ format_in picture (λ code. act code None)) c.location_in.ensures c.format.ensures)
