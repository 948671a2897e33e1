use Rattle.std.proofs.Common.{List, ℕ, subst}
use Rattle.cfb_in_place.specs.declared.roles.Part.TheVariants.{MiniFat, Directory}
use Rattle.cfb_in_place.specs.Roles.{AreGiven, part_sectors}
use Rattle.cfb_in_place.proofs.RoleLemmas.{roles_are}
use Rattle.cfb_in_place.proofs.roles.give_parts.Goals as goal

pub returns : goal.returns
returns c =
    roles_are (part_sectors c.args.layout.now.parts c.args.fats.now c.args.grown.now c.args.fresh.now)
    c.args.roles.now c.give.new.roles c.give-2.new.roles c.give-3.new.roles c.give-4.new.roles c.give-5.new.roles
    c.requires.none c.give.ensures c.give-2.ensures
    (subst (λ (xs : List ℕ). AreGiven c.give-2.new.roles c.give-3.new.roles xs Directory) c.directory.ensures.sectors
    c.give-3.ensures)
    (subst (λ (xs : List ℕ). AreGiven c.give-3.new.roles c.give-4.new.roles xs MiniFat) c.mini_fat.ensures
    c.give-4.ensures) c.give-5.ensures
