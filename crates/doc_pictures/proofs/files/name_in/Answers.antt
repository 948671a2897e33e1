use Rattle.std.proofs.Common.{◌<◌, length, sym, arith}
use Rattle.doc_pictures.proofs.FileLemmas.{name-here, none-here, none-left}
use Rattle.doc_pictures.proofs.files.name_in.Goals as goal

pub returns-then-at-pictures : goal.returns-then-at-pictures
returns-then-at-pictures c =
    sym (none-left c.args.pictures.now c.args.place c.count_before-at.result c.count_before-at.ensures
    c.if-at-pictures.true)

pub returns-then-picture-place : goal.returns-then-picture-place
returns-then-picture-place c =
    let at = c.count_before-at.result in
    let most = c.count_before-at.ensures.inside in
    let inside : at < length c.args.pictures.now = omega (arith, most, c.if-at-pictures.false) in
    sym (none-here c.args.pictures.now c.args.place at _ c.requires c.count_before-at.ensures inside
    c.if-picture-place.true)

pub returns : goal.returns
returns c =
    let at = c.count_before-at.result in
    let most = c.count_before-at.ensures.inside in
    let inside : at < length c.args.pictures.now = omega (arith, most, c.if-at-pictures.false) in
    sym (name-here c.args.pictures.now 1 c.args.place at _ inside c.count_before-at.ensures.below
    c.if-picture-place.false)
