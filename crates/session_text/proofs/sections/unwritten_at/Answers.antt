use Rattle.std.proofs.Common.{arith}
use Rattle.session_text.proofs.SectionLemmas.{section_below}
use Rattle.session_text.proofs.sections.unwritten_at.Goals as goal

pub index_mut-requires : goal.index_mut-requires
index_mut-requires c =
    let below = section_below c.args.main.now c.args.at (c.has_section.ensures.0 c.if-has_section.true) in
    omega (arith, below, c.requires.count, c.section_number-number.ensures.number, c.args.places.ok.0)
