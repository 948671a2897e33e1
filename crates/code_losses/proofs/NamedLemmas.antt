-- What counts name is what the lists that were counted name.
use Rattle.std.specs.Prelude.{slice_index}
use Rattle.std.proofs.Common.{◌≡◌, ◌∙◌, ◌+◌, ◌<◌, refl, sym, ap, ℕ, List, [], ◌∷◌, ◌++◌, suc, zero, arith, map}
use Rattle.std.proofs.Common.{append_assoc}
use Rattle.std.specs.List.{flat_map, range_with_len}
use Rattle.std.proofs.lemmas.List.{append-nil}
use Rattle.std.proofs.lemmas.Grind.{flat_map-append}
use Rattle.sprm_table.specs.Sprm.{Prl}
use Rattle.text_losses.specs.declared.features.ListKind.{ListKind}
use Rattle.text_losses.specs.declared.features.TextFeature.{TextFeature}
use Rattle.text_losses.specs.Counts.{lists_with, lists_again, skipped_codes, repeated_codes}
use Rattle.code_losses.specs.declared.counts.CodeCounts.{CodeCounts}
use Rattle.code_losses.specs.Tallies.{code_count}
use Rattle.code_losses.specs.Counted.{AreCodeCounts}
use Rattle.code_losses.specs.Losses.{skipped_of, repeated_of, features_by_code, codes_of}
use Rattle.doc_bits.proofs.Public.{range_more}

-- the features of the first codes
abbrev pub named_below : (ℕ → List TextFeature) → ℕ → List TextFeature
named_below each count = flat_map each (range_with_len 0 count)

pub below_one : (each : ℕ → List TextFeature) (n : ℕ) → named_below each (n + 1) ≡ named_below each n ++ each n
below_one each n =
    ap (flat_map each) (range_more n)
    ∙ (flat_map-append each (range_with_len 0 n) (n ∷ [])
    ∙ ap (λ l. named_below each n ++ l) (append-nil (each n)))

-- one code more
pub named_more : (each : ℕ → List TextFeature) (n : ℕ) (start now next : List TextFeature) →
    now ≡ start ++ named_below each n → next ≡ now ++ each n → next ≡ start ++ named_below each (n + 1)
named_more each n start now next before is =
    is
    ∙ (ap (λ l. l ++ each n) before
    ∙ (append_assoc start (named_below each n) (each n) ∙ ap (λ l. start ++ l) (sym (below_one each n))))

-- what is the same for each code
pub below_same : (one other : ℕ → List TextFeature) (n : ℕ) → ((code : ℕ) → code < n → one code ≡ other code) →
    named_below one n ≡ named_below other n
below_same one other zero same = refl
below_same one other (suc n) same =
    let e : suc n ≡ n + 1 = omega arith in
    let rest = below_same one other n (λ code low. same code (omega (arith, low))) in
    let last : one n ≡ other n = same n (omega arith) in
    ap (named_below one) e
    ∙ (below_one one n
    ∙ (ap (λ l. l ++ one n) rest
    ∙ (ap (λ l. named_below other n ++ l) last
    ∙ (sym (below_one other n) ∙ ap (named_below other) (sym e)))))

pub named_lists : (kind : ListKind) (lists : List (List Prl)) (counts : CodeCounts) → AreCodeCounts lists counts →
    features_by_code (λ code. skipped_of kind code (slice_index counts.first.counts.items code))
    ++ features_by_code (λ code. repeated_of kind code (slice_index counts.again.counts.items code)) ≡ codes_of kind
    lists
unfolding features_by_code codes_of
named_lists kind lists counts is =
    let first : features_by_code (λ code. skipped_of kind code (slice_index counts.first.counts.items code))
    ≡ skipped_codes kind lists =
    below_same (λ code. skipped_of kind code (slice_index counts.first.counts.items code))
    (λ code. skipped_of kind code (lists_with code lists)) code_count
    (λ code low. ap (skipped_of kind code) (is.first.counts code low)) in
    let again : features_by_code (λ code. repeated_of kind code (slice_index counts.again.counts.items code))
    ≡ repeated_codes kind lists =
    below_same (λ code. repeated_of kind code (slice_index counts.again.counts.items code))
    (λ code. repeated_of kind code (lists_again code lists)) code_count
    (λ code low. ap (repeated_of kind code) (is.again.counts code low)) in
    λ i. first i ++ again i

-- the first codes are all of them
pub named_all : (each : ℕ → List TextFeature) (n : ℕ) → n ≡ code_count → named_below each n ≡ features_by_code each
unfolding features_by_code
named_all each n same = ap (named_below each) same
