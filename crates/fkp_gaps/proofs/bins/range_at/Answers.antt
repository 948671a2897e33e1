use Rattle.std.proofs.Common.{inl, refl}
use Rattle.fkp_gaps.proofs.bins.range_at.Goals as goal

pub returns-in-None-clause-range : goal.returns-in-None-clause-range
returns-in-None-clause-range c =
    let end = c.end_of_none.ensures in
    record {
      order = end.up;
      end = end.end;
      page = c.requires.number;
      right = λ fc low high. inl (inl (end.none fc low high), refl);
    }
