use Rattle.std.specs.Prelude.{slice_index, replicate}
use Rattle.std.proofs.Common.{◌≡◌, ◌∙◌, sym, ap, subst, arith, ◌+◌, ◌<◌, List, [], ◌∷◌, ◌++◌, ℕ, Option, None, length, drop, get_or}
use Rattle.std.proofs.lemmas.List.{length-append, length-replicate, length-drop, drop-drop, get_or-drop}
use Rattle.huge_papx.specs.Offsets.{IsOffsetOf}
use Rattle.huge_papx.proofs.EachLemmas.{each_more, each_run}
use Rattle.huge_papx.proofs.offsets.offsets_of.Goals as goal

pub loop-left-init : goal.loop-left-init
loop-left-init c = record {
  left = c.skip-left.ensures ∙ ap (λ n. drop n c.args.places.now) (sym (ap length c.in_ok-offsets.ensures.items));
  count = omega (arith, ap length c.skip-left.ensures, ap length c.in_ok-offsets.ensures.items);
  each = λ k low. absurd (omega (arith, low, ap length c.in_ok-offsets.ensures.items));
}

pub loop-left-preserved : goal.loop-left-preserved
loop-left-preserved c =
    let inv = c.loop-left.invariant in
    let wd = c.args.wd.now in
    let bin = c.args.bin.now in
    let places = c.args.places.now in
    let units = c.args.units.now in
    let left = c.loop-left.left in
    let offsets = c.loop-left.offsets.items in
    let bare = c.bare_len-bare.result in
    let nothing : List (Option ℕ) = replicate bare None in
    let added = c.in_ok-add_nothing.ensures in
    let grown : List (Option ℕ) = c.add_nothing.new.offsets.items in
    let grown_size = ap length added ∙ length-append offsets nothing in
    let count : length nothing ≡ bare = length-replicate bare None in
    let all : length offsets + bare ≡ length grown = omega (arith, grown_size, count) in
    let rest_is : c.skip-rest.result ≡ drop (length grown) places =
    c.skip-rest.ensures
    ∙ (ap (drop bare) inv.left ∙ (drop-drop bare (length offsets) places ∙ ap (λ n. drop n places) all)) in
    let zero_more : length grown + 0 ≡ length grown = omega arith in
    let first : c.first.result ≡ slice_index places (length grown) =
    c.first.ensures
    ∙ (ap (λ (l : List ℕ). slice_index l 0) rest_is
    ∙ (get_or-drop (length grown) places 0 0 ∙ ap (slice_index places) zero_more)) in
    let number : c.len-in-loop-left-4.result ≡ length grown = omega (arith, c.len-in-loop-left-4.ensures) in
    let unit : c.unit_at-unit.result ≡ slice_index units (length grown) =
    c.unit_at-unit.ensures ∙ ap (slice_index units) number in
    let found = c.offset_of.result in
    let pushed = c.in_ok-push.ensures.items in
    let size = ap length pushed ∙ length-append grown (found ∷ []) in
    let Is : ℕ → Option ℕ → Type 0 = λ k o. IsOffsetOf wd bin (slice_index places k) (slice_index units k) o in
    let from : c.len-in-loop-left-2.result ≡ length offsets = omega (arith, c.len-in-loop-left-2.ensures) in
    let each_grown : (k : ℕ) → k < length grown → Is k (get_or grown k None) =
    subst (λ (l : List (Option ℕ)). (k : ℕ) → k < length l → Is k (get_or l k None)) (sym added)
    (each_run Is offsets bare None None inv.each (λ k low offset is.
    c.bare_len-bare.ensures.bare k low (ap (λ n. slice_index units (n + k)) from ∙ is.cell))) in
    let here : Is (length grown) found =
    subst (λ fc. IsOffsetOf wd bin fc (slice_index units (length grown)) found) first
    (subst (λ u. IsOffsetOf wd bin c.first.result u found) unit c.offset_of.ensures) in
    record {
      left = c.skip-left-in-loop-left.ensures
          ∙ (ap (drop 1) rest_is
          ∙ (drop-drop 1 (length grown) places ∙ ap (λ n. drop n places) (sym size)));
      count = omega (
        arith,
        inv.count,
        all,
        size,
        ap length c.skip-left-in-loop-left.ensures,
        length-drop 1 c.skip-rest.result,
        ap length c.skip-rest.ensures,
        length-drop bare left,
        c.bare_len-bare.ensures.within,
        c.loop-left-test.true,
        c.len-in-loop-left.ensures,
      );
      each = subst (λ (l : List (Option ℕ)). (k : ℕ) → k < length l → Is k (get_or l k None)) (sym pushed)
          (each_more Is grown found None each_grown here);
    }

pub returns : goal.returns
returns c = record {
  table = c.requires;
  len = omega (arith, c.loop-left.invariant.count, c.loop-left-test.false);
  each = c.loop-left.invariant.each;
}
