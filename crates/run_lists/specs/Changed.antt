-- A list some of whose values became others.
use Rattle.std.specs.Prelude.{◌≡◌, ℕ, List, slice_range}
use Rattle.std.specs.List.{splice}
use Rattle.doc_bits.specs.Together.{AreTogether}

-- from `from` to before `to` fresh values are, each of which the one before it may become; the rest stayed
pub record IsChanged {T : Type 0} (becomes : T → T → Type 0) (from to : ℕ) (old new : List T) : Type 0 where
  pub fresh : List T
  pub spliced : new ≡ splice old from to fresh
  pub each : AreTogether becomes (slice_range old from to) fresh
