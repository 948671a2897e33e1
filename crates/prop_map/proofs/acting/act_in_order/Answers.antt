use Rattle.std.proofs.Common.{◌≡◌, [], ◌∷◌, ◌++◌, refl, sym, ap, ◌∙◌, subst, append_assoc}
use Rattle.std.proofs.lemmas.List.{append-nil}
use Rattle.std.specs.Prelude.{slice_range, IfSome}
use Rattle.std.specs.Ordering.{nat_cmp}
use Rattle.std.specs.Option.{option_or}
use Rattle.std.specs.FinMap.{get, empty, from_sorted}
use Rattle.sprm_table.specs.Sprm.{Prl}
use Rattle.prop_map.specs.Acting.{value_after, style_named, ArePropertiesAfter}
use Rattle.prop_map.specs.Block.{entries_in, map_of, HasCodesBelow}
use Rattle.prop_map.proofs.ActingLemmas.{value_after-append, style_of-append}
use Rattle.prop_map.proofs.EntriesLemmas.{from_sorted-nil}
use Rattle.prop_map.proofs.BlockLemmas.{entries_in-none}
use Rattle.prop_map.proofs.MergeLemmas.{none_below}
use Rattle.prop_map.proofs.acting.act_in_order.Goals as goal

pub loop-code-init : goal.loop-code-init
loop-code-init c =
    let start = c.new-prls.ensures in
    let nothing = ap from_sorted (ap entries_in c.in_ok-bytes.ensures ∙ entries_in-none) ∙ from_sorted-nil in
    record {
      list_is = ap (λ s. s.bytes) start;
      below = none_below c.in_ok-bytes.bytes c.in_ok-bytes.ensures;
      so_far = λ prls h. record {
        done = [];
        others = prls;
        joined = refl;
        spelt = rw start h;
        map = λ code. ap (λ m. get m code) nothing;
        style = refl;
      };
    }

pub push_property-requires : goal.push_property-requires
push_property-requires c = c.loop-code.invariant.below

pub loop-code-preserved : goal.loop-code-preserved
loop-code-preserved c =
    let bytes = c.loop-code.invariant.list_is in
    let entry : Prl = (c.in-Some.code.0, slice_range c.args.list.now c.in-Some.from c.in-Some.to) in
    let made = subst (λ o. IfSome o (λ next. HasCodesBelow c.push_property.new.bytes next × ArePropertiesAfter
    (entry ∷ []) c.args.groups (map_of c.loop-code.bytes) (map_of c.push_property.new.bytes))) c.in-Some-2.is
    c.in_ok-push_property.ensures in
    record {
      list_is = c.in-Some.ensures.given.bytes ∙ bytes;
      below = made.0;
      so_far = λ prls h.
          let before = c.loop-code.invariant.so_far prls h in
          let step = c.in-Some.ensures.taken before.others before.spelt in
          let is = subst (λ b. before.others ≡ (c.in-Some.code.0, slice_range b c.in-Some.from c.in-Some.to) ∷
          step.others) bytes step.is in
          record {
            done = before.done ++ (entry ∷ []);
            others = step.others;
            joined = before.joined ∙ (ap (λ o. before.done ++ o) is ∙ sym (append_assoc before.done (entry ∷ [])
                step.others));
            spelt = step.left;
            map = λ code. made.1 code ∙ (ap (value_after (entry ∷ []) c.args.groups code) (before.map code) ∙ sym
                (value_after-append before.done (entry ∷ []) c.args.groups code (get {R = nat_cmp} empty code)));
            style = c.style-istd.ensures ∙ (ap (option_or (style_named (entry ∷ []) c.args.groups)) before.style ∙ sym
                (style_of-append before.done (entry ∷ []) c.args.groups));
          };
    }

pub of_bytes-requires : goal.of_bytes-requires
of_bytes-requires c = c.loop-code.invariant.below.ascending

pub returns : goal.returns
returns c = λ prls h.
    let before = c.loop-code.invariant.so_far prls h in
    let none = c.in_default.ensures.taken before.others before.spelt in
    let all : before.done ≡ prls = sym (append-nil before.done) ∙ (ap (λ o. before.done ++ o) (sym none) ∙ sym
    before.joined) in
    record {
      map = λ code. ap (λ m. get m code) (c.in_ok-map.ensures ∙ c.of_bytes.ensures) ∙ subst (λ l. get (map_of
          c.loop-code.bytes) code ≡ value_after l c.args.groups code (get {R = nat_cmp} empty code)) all
          (before.map code);
      style = subst (λ l. c.loop-code.istd ≡ style_named l c.args.groups) all before.style;
    }
