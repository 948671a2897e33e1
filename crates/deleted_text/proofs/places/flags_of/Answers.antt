use Rattle.std.proofs.Common.{◌≡◌, ◌∙◌, sym, ap, subst, arith, ◌+◌, List, [], ◌∷◌, ℕ, length, drop}
use Rattle.std.specs.Prelude.{slice_index}
use Rattle.std.proofs.lemmas.List.{length-append, length-drop, drop-drop, get_or-drop}
use Rattle.deleted_text.proofs.PlaceLemmas.{AreFlags, flags_more}
use Rattle.deleted_text.proofs.places.flags_of.Goals as goal

pub loop-left-init : goal.loop-left-init
loop-left-init c = record {
  around = λ fc low high. absurd (omega (arith, low, high));
  left = c.skip-left.ensures ∙ ap (λ n. drop n c.args.places.now) (sym (ap length c.in_ok-flags.ensures.items));
  count = omega (arith, ap length c.skip-left.ensures, ap length c.in_ok-flags.ensures.items);
  each = λ k low. absurd (omega (arith, low, ap length c.in_ok-flags.ensures.items));
}

pub loop-left-preserved : goal.loop-left-preserved
loop-left-preserved c =
    let inv = c.loop-left.invariant in
    let places = c.args.places.now in
    let flags = c.loop-left.flags.items in
    let zero_more : length flags + 0 ≡ length flags = omega arith in
    let first : c.first.result ≡ slice_index places (length flags) =
    c.first.ensures
    ∙ (ap (λ (l : List ℕ). slice_index l 0) inv.left
    ∙ (get_or-drop (length flags) places 0 0 ∙ ap (slice_index places) zero_more)) in
    let around = c.at-around.result in
    let pushed = c.in_ok-push.ensures.items in
    let size = ap length pushed ∙ length-append flags (around.deleted ∷ []) in
    record {
      around = c.at-around.ensures.around;
      left = c.skip-left-in-loop-left.ensures
          ∙ (ap (drop 1) inv.left
          ∙ (drop-drop 1 (length flags) places ∙ ap (λ n. drop n places) (sym size)));
      count = omega (
        arith,
        inv.count,
        size,
        ap length c.skip-left-in-loop-left.ensures,
        length-drop 1 c.loop-left.left,
        c.loop-left-test.true,
        c.len-in-loop-left.ensures,
      );
      each = subst (AreFlags c.args.wd.now c.args.bin.now places) (sym pushed)
          (flags_more c.args.wd.now c.args.bin.now places flags around.deleted c.first.result inv.each first
          (c.at-around.ensures.around c.first.result c.at-around.ensures.at.0 c.at-around.ensures.at.1));
    }

pub returns : goal.returns
returns c = record {
  len = omega (arith, c.loop-left.invariant.count, c.loop-left-test.false);
  each = c.loop-left.invariant.each;
}
