use Rattle.std.proofs.Common.{rules, ◌*◌, ◌^◌, ◌<◌, ◌++◌, List, ℕ, length, sym, ap, ◌∙◌, subst, arith}
use Rattle.cfb_sectors.specs.Chain.{AreSectorsOf}
use Rattle.cfb_streams.specs.StreamRules.{IsMiniFat}
use Rattle.cfb_streams.proofs.Public.{mini_fat_inside}
use Rattle.cfb_in_place.proofs.chains.read_mini.Goals as goal

pub overflow_mul-mini_fat : goal.overflow_mul-mini_fat
overflow_mul-mini_fat c =
    let mini_fat = c.args.layout.now.parts.mini_fat in
    let is = subst (λ f. IsMiniFat f mini_fat) c.requires.places c.directory-directory.ensures.is_layout.mini_fat in
    let few = (mini_fat_inside c.args.file.now mini_fat c.requires.whole is).few in
    let len = ap (λ (xs : List ℕ). length xs) c.mini_fat-mini_fat.ensures in
    let room : 128 * length c.mini_fat-mini_fat.result.now < 2 ^ 64 = omega arith in
    search rules

pub read-requires-clause-inside : goal.read-requires-clause-inside
read-requires-clause-inside c =
    let mini_fat = c.args.layout.now.parts.mini_fat in
    let is = subst (λ f. IsMiniFat f mini_fat) c.requires.places c.directory-directory.ensures.is_layout.mini_fat in
    let inside = mini_fat_inside c.args.file.now mini_fat c.requires.whole is in
    let items = c.in_ok-extend_from_slice.ensures.items ∙ (ap (λ (xs : List ℕ). xs ++
    c.mini_fat-mini_fat.result.now) c.in_ok-sectors.ensures.items ∙ c.mini_fat-mini_fat.ensures) in
    subst (λ (xs : List ℕ). AreSectorsOf c.args.file.now xs) (sym items) inside
