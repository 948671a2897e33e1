use Rattle.std.proofs.Common.{◌≡◌, [], ◌∷◌, ◌++◌, refl, sym, ap, ◌∙◌, subst, append_assoc}
use Rattle.std.proofs.lemmas.List.{append-nil}
use Rattle.std.specs.Prelude.{slice_range, IfSome}
use Rattle.std.specs.Ordering.{nat_cmp}
use Rattle.std.specs.Option.{option_or}
use Rattle.std.specs.FinMap.{get, empty}
use Rattle.sprm_table.specs.Sprm.{Prl}
use Rattle.prop_map.specs.Acting.{value_after, style_named, ArePropertiesAfter}
use Rattle.prop_map.specs.Values.{set_map, AreCodesInOrder}
use Rattle.prop_map.proofs.ActingLemmas.{value_after-append, style_of-append}
use Rattle.prop_map.proofs.EntriesLemmas.{from_sorted-nil}
use Rattle.prop_map.proofs.acting.act_by_values.Goals as goal

pub loop-code-init : goal.loop-code-init
loop-code-init c =
    let start = c.new-prls.ensures in
    record {
      list_is = ap (λ s. s.bytes) start;
      order = subst AreCodesInOrder (sym c.new-values.ensures.items) refl;
      so_far = λ prls h. record {
        done = [];
        others = prls;
        joined = refl;
        spelt = rw start h;
        map = λ code. ap (λ m. get m code) (ap set_map c.new-values.ensures.items ∙ from_sorted-nil);
        style = refl;
      };
    }

pub loop-code-preserved : goal.loop-code-preserved
loop-code-preserved c =
    let bytes = c.loop-code.invariant.list_is in
    let entry : Prl = (c.in-Some.code.0, slice_range c.args.list.now c.in-Some.from c.in-Some.to) in
    let made : ArePropertiesAfter (entry ∷ []) c.args.groups (set_map c.loop-code.values.items)
    (set_map c.keep_value.new.values.items) = subst (λ o. IfSome o (λ _. ArePropertiesAfter (entry ∷ []) c.args.groups
    (set_map c.loop-code.values.items) (set_map c.keep_value.new.values.items))) c.in-Some-2.is
    c.in_ok-keep_value.ensures.kept in
    record {
      list_is = c.in-Some.ensures.given.bytes ∙ bytes;
      order = c.in_ok-keep_value.ensures.order;
      so_far = λ prls h.
          let before = c.loop-code.invariant.so_far prls h in
          let step = c.in-Some.ensures.taken before.others before.spelt in
          let is = subst (λ b. before.others ≡ (c.in-Some.code.0, slice_range b c.in-Some.from c.in-Some.to) ∷
          step.others) bytes step.is in
          record {
            done = before.done ++ (entry ∷ []);
            others = step.others;
            joined = before.joined ∙ (ap (λ o. before.done ++ o) is ∙ sym (append_assoc before.done (entry ∷ [])
                step.others));
            spelt = step.left;
            map = λ code. made code ∙ (ap (value_after (entry ∷ []) c.args.groups code) (before.map code) ∙ sym
                (value_after-append before.done (entry ∷ []) c.args.groups code (get {R = nat_cmp} empty code)));
            style = c.style-istd.ensures ∙ (ap (option_or (style_named (entry ∷ []) c.args.groups)) before.style ∙ sym
                (style_of-append before.done (entry ∷ []) c.args.groups));
          };
    }

pub returns : goal.returns
returns c = λ prls h.
    let before = c.loop-code.invariant.so_far prls h in
    let none = c.in_default.ensures.taken before.others before.spelt in
    let all : before.done ≡ prls = sym (append-nil before.done) ∙ (ap (λ o. before.done ++ o) (sym none) ∙ sym
    before.joined) in
    record {
      map = λ code.
          ap (λ m. get m code) (c.in_ok-map.ensures ∙ (c.in_ok-block_of.ensures ∙ ap set_map c.deref.ensures.value))
          ∙ subst (λ l. get (set_map c.loop-code.values.items) code ≡ value_after l c.args.groups code
          (get {R = nat_cmp} empty code)) all (before.map code);
      style = subst (λ l. c.loop-code.istd ≡ style_named l c.args.groups) all before.style;
    }
