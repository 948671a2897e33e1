use Rattle.std.proofs.Common.{[], ◌∷◌, ◌++◌, ap, refl, sym, subst, take, ◌∙◌, arith}
use Rattle.prop_map.specs.Settings.{Properties}
use Rattle.doc_model.specs.declared.item.Item.{Item}
use Rattle.full_save.specs.Alike.{HaveAlike}
use Rattle.full_save.proofs.ColumnRuns.{next_place, characters_more, characters_begin, characters_changed}
use Rattle.full_save.proofs.runs.CharacterRuns.push_run.Goals as goal

pub returns-then-self-end : goal.returns-then-self-end
returns-then-self-end c = λ at done text place here are so.
    let chp : Item → Properties = λ item. item.chp in
    let next = next_place chp c.args.chp.now at c.args.end done text place c.args.count here are in
    let begun = characters_begin at c.args.end (done ++ take place text) c.args.self.now _ next c.if-self-end.true so in
    characters_more at done text place c.args.count _
    (subst (λ (value : Properties). HaveAlike chp value text place c.args.count) (sym c.in_ok-self.ensures) are) begun

pub returns-then-equal : goal.returns-then-equal
returns-then-equal c = λ at done text place here are so.
    let chp : Item → Properties = λ item. item.chp in
    characters_more at done text place c.args.count c.args.self.now
    (subst (λ (value : Properties). HaveAlike chp value text place c.args.count) (sym (c.if-equal.ensures.0 refl)) are)
    so

pub returns : goal.returns
returns c = λ at done text place here are so.
    let old = c.args.self.now in
    let chp : Item → Properties = λ item. item.chp in
    let next = next_place chp c.args.chp.now at c.args.end done text place c.args.count here are in
    let is = c.replace-last.ensures.after ∙ c.in_ok-copy.ensures in
    let closed = c.in_ok-add.ensures.ok ∙ ap
    (λ (chp : Properties). old.closed ++ (record { from = old.from; to = c.args.end; istd = 0; map = chp }) ∷ [])
    c.replace-last.ensures.value in
    let none = c.if-count-eq0.false in
    characters_changed at c.args.end done text place c.args.count old
    (record { closed = c.add.new.self; from = c.args.end; chp = c.replace-last.new.dest }) (omega arith) next
    c.if-self-end.false (λ same. absurd (cc (c.if-equal.ensures.1 (same ∙ is))))
    (subst (λ (value : Properties). HaveAlike chp value text place c.args.count) (sym is) are) closed refl so
