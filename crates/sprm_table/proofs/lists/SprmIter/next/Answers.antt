use Rattle.std.proofs.Common.{List, ℕ, length, drop, take, ◌-◌, ◌+◌, ap, ◌∙◌, ◌≡◌, subst}
use Rattle.std.proofs.lemmas.List.{take_rest}
use Rattle.sprm_table.specs.Cursor.{SprmCursor, left}
use Rattle.sprm_table.specs.Sprm.{EndsSprmList, IsShortPrl}
use Rattle.sprm_table.proofs.SprmLemmas.{gives, gives_takes, spells_nothing, spells_no_short}
use Rattle.sprm_table.proofs.lists.SprmIter.next.Goals as goal

-- the part that is read is what is left
rest_left : (old : SprmCursor) (bytes : List ℕ) (at : ℕ) → record { bytes = bytes; at = at } ≡ old →
    take (length bytes - at) (drop at bytes) ≡ left old
rest_left old bytes at is = take_rest bytes at ∙ ap left is

pub returns-in-Prl-clause-taken : goal.returns-in-Prl-clause-taken
returns-in-Prl-clause-taken c = λ list spelt.
    let bytes = c.self.inside.list.now in
    let at = c.self.inside.at in
    gives_takes c.args.self.now (record { bytes = bytes; at = at + c.in-Prl.to }) c.in-Prl.code.0 (at + c.in-Prl.from)
    (at + c.in-Prl.to) list
    (gives c.args.self.now bytes (take (length bytes - at) (drop at bytes)) at c.in-Prl.code.0 c.in-Prl.from
    c.in-Prl.to c.self.view_is (take_rest bytes at) c.in-Prl.ensures)
    spelt

pub returns-in-End-clause-taken : goal.returns-in-End-clause-taken
returns-in-End-clause-taken c = λ list spelt.
    let rest = rest_left c.args.self.now c.self.inside.list.now c.self.inside.at c.self.view_is in
    spells_nothing (left c.args.self.now) list (subst EndsSprmList rest c.in-End.ensures) spelt

pub returns-in-Short-clause-taken : goal.returns-in-Short-clause-taken
returns-in-Short-clause-taken c = λ list spelt.
    let rest = rest_left c.args.self.now c.self.inside.list.now c.self.inside.at c.self.view_is in
    absurd (spells_no_short (left c.args.self.now) list (subst IsShortPrl rest c.in-Short.ensures) spelt)
