-- A list is skipped in one way.
use Rattle.std.specs.Prelude.{IsTrue, ◌==◌}
use Rattle.std.proofs.Common.{◌≡◌, ◌∙◌, ◌%◌, ◌^◌, ◌++◌, sym, ap, subst, inl, inr, ℕ, List, false, length, take}
use Rattle.std.proofs.Common.{drop, map, get_or}
use Rattle.std.specs.List.{flat_map}
use Rattle.std.proofs.Math.Nat.{zero-div}
use Rattle.std.proofs.Math.Seq.{drop-append_seam}
use Rattle.sprm_table.specs.Codes.{sgc, is_held}
use Rattle.sprm_table.specs.Sprm.{Prl, spelling, SpellsSprmList, IsAcceptedList}
use Rattle.sprm_table.proofs.Public.{spelt_unique}
use Rattle.prl_skips.specs.Skips.{skipped, SkipsRefused, SkipsOrStays, PutsSkipped}

-- a place that holds no group refuses no code
none_held : (code : ℕ) → is_held 0 code ≡ false
none_held code = ap (λ n. n % 2 == 1) (zero-div (2 ^ sgc code))

pub spelt_accepted : (bytes : List ℕ) (prls : List Prl) → SpellsSprmList bytes prls → IsAcceptedList bytes 0
spelt_accepted bytes prls spelt = record {
  list = prls;
  spelt = spelt;
  accepted = λ k prl low refused. absurd (cc (subst IsTrue (none_held (get_or prls k prl).0) refused.0));
}

-- what follows the same front
same_behind : (front one other : List ℕ) → front ++ one ≡ front ++ other → one ≡ other
same_behind front one other same =
    sym (drop-append_seam front one) ∙ (ap (drop (length front)) same ∙ drop-append_seam front other)

-- what ends a list is one
pub rest_one : (bytes : List ℕ) (a b : List Prl) (x : SpellsSprmList bytes a) (y : SpellsSprmList bytes b) →
    x.rest ≡ y.rest
rest_one bytes a b x y =
    same_behind (flat_map spelling a) x.rest y.rest
    (sym x.spelt ∙ (y.spelt ∙ ap (λ l. flat_map spelling l ++ y.rest) (sym (spelt_unique bytes a b x y))))

refused_one : (old a b : List ℕ) → SkipsRefused old a → SkipsRefused old b → a ≡ b
refused_one old a b one other =
    let prls : other.prls ≡ one.prls = spelt_unique old other.prls one.prls other.spelt one.spelt in
    let front = flat_map spelling (map skipped one.prls) in
    let rest : one.skips.rest ≡ other.skips.rest =
    one.rest ∙ (rest_one old one.prls other.prls one.spelt other.spelt ∙ sym other.rest) in
    one.skips.spelt
    ∙ (ap (λ r. front ++ r) rest
    ∙ (ap (λ l. flat_map spelling (map skipped l) ++ other.skips.rest) (sym prls) ∙ sym other.skips.spelt))

pub or_one : (old a b : List ℕ) → SkipsOrStays old a → SkipsOrStays old b → a ≡ b
or_one old a b (inl one) (inl other) = refused_one old a b one other
or_one old a b (inl one) (inr stays) = absurd (stays.0 (spelt_accepted old one.prls one.spelt))
or_one old a b (inr stays) (inl other) = absurd (stays.0 (spelt_accepted old other.prls other.spelt))
or_one old a b (inr one) (inr other) = one.1 ∙ sym other.1

pub puts_one : (old a b : List ℕ) (from to : ℕ) → PutsSkipped old a from to → PutsSkipped old b from to → a ≡ b
puts_one old a b from to one other =
    let mid : one.mid ≡ other.mid = or_one _ one.mid other.mid one.skips other.skips in
    one.put ∙ (ap (λ l. take from old ++ (l ++ drop to old)) mid ∙ sym other.put)
