use Rattle.std.proofs.Common.{◌≤◌, ◌*◌, length, sym, subst}
use Rattle.cfb_sectors.specs.Header.{fat_sectors}
use Rattle.cfb_sectors.specs.Chain.{AreSectorsOf}
use Rattle.cfb_sectors.proofs.FatLemmas.{fat_few, fat_inside, fat_room}
use Rattle.cfb_sectors.proofs.front.read_fat.Goals as goal

pub read_fat_sectors-requires-clause-few : goal.read_fat_sectors-requires-clause-few
read_fat_sectors-requires-clause-few c = fat_few c.args.file.now c.requires.is_fat

pub read-requires-clause-inside : goal.read-requires-clause-inside
read-requires-clause-inside c =
    subst (AreSectorsOf c.args.file.now) (sym c.in_ok-sectors.ensures)
    (fat_inside c.args.file.now c.requires.is_whole c.requires.is_fat)

pub read-requires-clause-room : goal.read-requires-clause-room
read-requires-clause-room c =
    subst (λ xs. c.valid_sectors.result ≤ 128 * length xs) (sym c.in_ok-sectors.ensures)
    (subst (λ n. n ≤ 128 * length (fat_sectors c.args.file.now)) (sym c.valid_sectors.ensures)
    (fat_room c.args.file.now))
