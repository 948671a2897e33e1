use Rattle.std.proofs.Common.{arith}
use Rattle.char_formats.proofs.ChangeLemmas.{change-laid}
use Rattle.char_formats.proofs.change.Change.lay.Goals as goal

pub returns : goal.returns
returns c = λ act h.
    change-laid c.args.self.now _ c.args.code.0 c.args.value.now act (omega (arith, h.count)) c.lay_flag.ensures
    c.position_after-self.ensures c.symbol_after-self.ensures c.font_after-self.ensures h
