-- The file that is written sector by sector is the one of the places.
use Rattle.std.proofs.Common.{◌≡◌, ℕ, ◌+◌, ◌-◌, ◌*◌, ◌<◌, List}
use Rattle.std.proofs.Common.{◌++◌, Some, length, get_or, slice_get}
use Rattle.std.proofs.Common.{ap}
use Rattle.std.proofs.Common.{◌∙◌, arith, length-append}
use Rattle.std.specs.List.{flat_map, range_with_len}
use Rattle.std.proofs.lemmas.List.{get_or_append_left, get_or-append_right}
use Rattle.std.proofs.lemmas.List.FromFn.{length-range_with_len}
use Rattle.std.proofs.lemmas.Option.{slice_get-get_or, slice_get_within, get_or_from_slice_get}
use Rattle.cfb_sectors.specs.Header.{sector_count}
use Rattle.cfb_layout.proofs.Public.{length-padded}
use Rattle.cfb_in_place.specs.Change.{fresh_from, sectors_after}
use Rattle.cfb_in_place.specs.Roles.{IsSectorAt, IsOfPart, other_role}
use Rattle.cfb_in_place.specs.Sources.{header_after, Sources}
use Rattle.cfb_in_place.specs.Sources.{part_sector_bytes, sector_after, HasPart, HasAllParts}
use Rattle.cfb_in_place.specs.Sources.{written_sectors}
use Rattle.cfb_in_place.specs.declared.roles.Part.{Part}
use Rattle.cfb_in_place.specs.declared.roles.Part.TheVariants.{Fat, MiniFat, Directory, Grown, Fresh, Other}
use Rattle.cfb_in_place.specs.declared.roles.Role.{Role}
use Rattle.cfb_in_place.proofs.FileAfter.{Before, added_of, sizes_of, fats_after}
use Rattle.cfb_in_place.proofs.FileAfter.{file_after}
use Rattle.cfb_in_place.proofs.FileAfter.{file_by_sectors}
use Rattle.cfb_in_place.proofs.TablesThere.{length-fats_after}
use Rattle.cfb_in_place.proofs.TablesThere.{directory_low}
use Rattle.cfb_in_place.proofs.SectorsThere.{length_grown_joined}
use Rattle.cfb_in_place.proofs.SliceLemmas.{blocks_in, length_blocks}
use Rattle.cfb_in_place.proofs.TablesMade.{AreOf, parts_of, IsMade, fat_made, mini_made}
use Rattle.cfb_in_place.proofs.DirectoryMade.{directory_made}
use Rattle.cfb_in_place.proofs.StreamsMade.{grown_same, grown_made, table_made, other_low, other_made}
use Rattle.cfb_in_place.proofs.HeaderMade.{length_header, header_is}

-- a sector of the directory is an old one
pub entry_low : (b : Before) (s index : ℕ) → IsSectorAt (parts_of b).entries s index → s < sector_count b.old
entry_low b s index of =
    let low = directory_low b index of.inside in
    let here = of.here in
    let from = (sizes_of b).from in
    omega arith

pub part_made : (b : Before) (sources : Sources) (s index : ℕ) (part : Part) → AreOf b sources → s < sectors_after b.old
    (added_of b) → IsOfPart (parts_of b) s index part → IsMade b s (part_sector_bytes b.old sources s index part)
part_made b sources s index Fat are h of = fat_made b sources s index are of
part_made b sources s index MiniFat are h of = mini_made b sources s index are of
part_made b sources s index Directory are h of = directory_made b sources s index are (entry_low b s index of) of
part_made b sources s index Grown are h of = grown_made b sources s index are of
part_made b sources s index Fresh are h of = table_made b sources s index are of
part_made b sources s index Other are h of = other_made b sources s index h of

-- what the sectors are made of is there
pub part_there : (b : Before) (sources : Sources) (s index : ℕ) (part : Part) → AreOf b sources →
    s < sectors_after b.old
    (added_of b) → IsOfPart (parts_of b) s index part → HasPart b.old sources s index part
unfolding fats_after
part_there b sources s index Fat are h of =
    let count = length-fats_after b in
    let all = are.fat.len in
    let inside = of.inside in
    omega arith
part_there b sources s index MiniFat are h of =
    let first = are.mini.are.len in
    let all = are.mini.table.len in
    let inside = of.inside in
    omega arith
part_there b sources s index Directory are h of =
    let short = b.has.directory.short in
    let inside = of.inside in
    (entry_low b s index of, omega arith)
part_there b sources s index Grown are h of =
    let len = ap (λ (xs : List ℕ). length xs) (grown_same b sources are) in
    let all = length_grown_joined b in
    let inside = of.inside in
    omega arith
part_there b sources s index Fresh are h of =
    let count = length-range_with_len (fresh_from (added_of b)) (added_of b).fresh in
    let fresh = (sizes_of b).fresh in
    let len = ap (λ (xs : List ℕ). length xs) are.table in
    let all = length-padded 512 0 b.change.table (omega arith) in
    let inside = of.inside in
    omega arith
part_there b sources s index Other are h of = other_low b s h of

pub parts_there : (b : Before) (sources : Sources) → AreOf b sources → HasAllParts b.old sources
parts_there b sources are s role here =
    let low = slice_get_within sources.roles s role here in
    let len = are.roles.len in
    part_there b sources s role.index role.part are (omega arith) (are.roles.each s role here)

pub sector_made : (b : Before) (sources : Sources) (s : ℕ) → AreOf b sources → s < sectors_after b.old (added_of b) →
    IsMade b
    s (sector_after b.old sources s)
unfolding sector_after
sector_made b sources s are h =
    let len = are.roles.len in
    let role : Role = get_or sources.roles s other_role in
    part_made b sources s role.index role.part are h (are.roles.each s role (slice_get-get_or sources.roles s other_role
    (omega arith)))

pub written_is : (b : Before) (sources : Sources) → AreOf b sources → written_sectors b.old (added_of b) sources ≡
    file_after b
unfolding written_sectors
written_is b sources are =
    let head = header_after b.old (added_of b) in
    let f = sector_after b.old sources in
    let count = length sources.roles in
    let rest = flat_map f (range_with_len 0 count) in
    let roles = are.roles.len in
    let sized : (j : ℕ) → j < 0 + count → length (f j) ≡ 512 = λ j h. (sector_made b sources j are (omega arith)).len in
    let hl = length_header b in
    let rl = length_blocks f 512 0 count sized in
    let all = length-append head rest in
    file_by_sectors b (head ++ rest) (omega arith)
    (λ at h. get_or_append_left head rest 0 at (omega arith) ∙ header_is b at h)
    (λ x o low h.
    let place : (x + 1) * 512 + o - 512 ≡ 512 * x + o = omega arith in
    get_or-append_right head rest 512 ((x + 1) * 512 + o) 0 hl (omega arith)
    ∙ (blocks_in f 512 0 count x o ((x + 1) * 512 + o - 512) x sized (omega arith) h place (omega arith) ∙
    (sector_made b sources x are
    low).each o h))

-- a sector of the list has its role's bytes
pub sector_is : (old : List ℕ) (sources : Sources) (s : ℕ) (role : Role) → slice_get sources.roles s ≡ Some role →
    sector_after old sources s ≡ part_sector_bytes old sources s role.index role.part
unfolding sector_after
sector_is old sources s role here = ap (λ (r : Role). part_sector_bytes old sources s r.index r.part)
    (get_or_from_slice_get
    sources.roles s role other_role here)
