use Rattle.std.proofs.Common.{◌≡◌, ◌∙◌, ◌+◌, ◌∷◌, [], ℕ, List, sym, ap, subst, arith}
use Rattle.std.specs.Prelude.{slice_index, slice_range}
use Rattle.std.specs.Char.{IsScalar}
use Rattle.std.specs.List.{All}
use Rattle.html_text.specs.Tokens.{printed}
use Rattle.html_page.specs.Pages.{characters}
use Rattle.html_page.proofs.PutLemmas.{put_as}
use Rattle.html_page.proofs.UnitLemmas.{plain_range, scalar_at}
use Rattle.html_page.proofs.units.push_some.Goals as goal
use Rattle.doc_bits.proofs.Public.{one_range}
use Rattle.glyph_units.proofs.Public.{range_scalars}

pub push_character-requires : goal.push_character-requires
push_character-requires g c = scalar_at c.args.units.now c.args.from c.requires.within c.requires.characters

pub returns-then-end-from-clause-puts : goal.returns-then-end-from-clause-puts
returns-then-end-from-clause-puts g c =
    let units = c.args.units.now in
    let put = c.push_character in
    put_as g.K.Sink c.args.out.now put.new.out c.args.page.now put.new.page (printed (characters (slice_index units
    c.args.from ∷ []))) (printed (characters (slice_range units c.args.from (c.args.from + 1)))) (ap (λ (text : List
    ℕ). printed (characters text)) (sym (one_range units c.args.from c.requires.within))) put.ensures

pub push_units-requires : goal.push_units-requires
push_units-requires g c =
    range_scalars c.args.units.now c.args.from c.plain_end-end.result c.requires.characters

pub returns-clause-puts : goal.returns-clause-puts
returns-clause-puts g c =
    let units = c.args.units.now in
    let put = c.push_units in
    let range = slice_range units c.args.from c.plain_end-end.result in
    put_as g.K.Sink c.args.out.now put.new.out c.args.page.now put.new.self range (printed (characters range)) (sym
    (plain_range units c.args.from c.plain_end-end.result c.plain_end-end.ensures.within c.plain_end-end.ensures.plain))
    put.ensures
