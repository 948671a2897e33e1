-- Pieces that are added one behind the other.
use Rattle.std.proofs.Common.{◌≡◌, ◌++◌, ℕ, List, [], length-append, refl, sym, ap, ◌∙◌, subst}
use Rattle.std.proofs.Common.{append_assoc, append-nil, arith}
use Rattle.json_values.specs.Out.{Output, Adds}

-- nothing is added
pub Adds-nothing : (out : Output) → Adds out out []
Adds-nothing out = record {
  same = refl;
  counted = omega arith;
  kept = λ short. sym (append-nil out.text);
}

-- two pieces are one
pub Adds-Adds : (a b c : Output) (one other : List ℕ) → Adds a b one → Adds b c other → Adds a c (one ++ other)
Adds-Adds a b c one other first second = record {
  same = second.same ∙ first.same;
  counted = omega (arith, first.counted, second.counted, length-append one other);
  kept = λ short.
      second.kept (omega (arith, short, first.same))
      ∙ ap (λ text. text ++ other) (first.kept (omega (arith, short, second.counted)))
      ∙ append_assoc a.text one other;
}

-- the same piece in other words
pub Adds-same : (a b : Output) (one other : List ℕ) → one ≡ other → Adds a b one → Adds a b other
Adds-same a b one other same adds = subst (Adds a b) same adds
