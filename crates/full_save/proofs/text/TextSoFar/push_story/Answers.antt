use Rattle.std.proofs.Common.{◌≡◌, ◌++◌, ℕ, Bool, length, ap, sym, ◌∙◌, arith}
use Rattle.std.specs.Prelude.{nat_lt}
use Rattle.std.proofs.lemmas.List.{length-append}
use Rattle.doc_model.specs.Collected.{joined_texts}
use Rattle.full_save.specs.Text.{mark_if, with_mark}
use Rattle.full_save.proofs.TextLemmas.{goes_on_both, goes_on_by, with_mark_is, came_behind}
use Rattle.full_save.proofs.text.TextSoFar.push_story.Goals as goal

pub push_texts-requires : goal.push_texts-requires
push_texts-requires c = let small = c.requires in omega arith

pub mark_behind-requires : goal.mark_behind-requires
mark_behind-requires c = let small = c.requires in let count = c.in_ok-push_texts.ensures.count in omega arith

-- whether a mark follows
mark_is : (c : goal.In_ok-mark_behind) →
    nat_lt c.args.self.now.len c.push_texts.new.self.len ≡ nat_lt 0
    (length (joined_texts c.args.texts.now))
mark_is c =
    let old = c.args.self.now.len in
    ap (λ (n : ℕ). nat_lt old n) c.in_ok-push_texts.ensures.count
    ∙ came_behind old (length (joined_texts c.args.texts.now))

pub returns-clause-text : goal.returns-clause-text
returns-clause-text c =
    let items = joined_texts c.args.texts.now in
    let mark = mark_if (nat_lt c.args.self.now.len c.push_texts.new.self.len) in
    let same = ap (λ (b : Bool). items ++ mark_if b) (mark_is c) ∙ sym (with_mark_is items) in
    goes_on_by (items ++ mark) (with_mark items) c.args.self.now c.mark_behind.new.self same
    (goes_on_both items mark c.args.self.now c.push_texts.new.self c.mark_behind.new.self
    c.in_ok-push_texts.ensures.text c.in_ok-mark_behind.ensures.text)

pub returns-clause-count : goal.returns-clause-count
returns-clause-count c =
    let items = joined_texts c.args.texts.now in
    let mark = mark_if (nat_lt c.args.self.now.len c.push_texts.new.self.len) in
    let same = ap length (ap (λ (b : Bool). items ++ mark_if b) (mark_is c) ∙ sym (with_mark_is items)) in
    let first = c.in_ok-push_texts.ensures.count in
    let second = c.in_ok-mark_behind.ensures.count in
    omega (arith, length-append items mark)
