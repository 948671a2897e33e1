use Rattle.std.proofs.Common.{◌≡◌, arith}
use Rattle.inline_pictures.specs.Records.{record_type}
use Rattle.inline_pictures.proofs.PictureLemmas.{picture-of_block}
use Rattle.inline_pictures.proofs.picture.picture_at.Goals as goal

pub returns-clause-picture : goal.returns-clause-picture
returns-clause-picture c =
    let type_is = c.record_type.ensures in
    let is_shape = c.if-record_type.false in
    let container : record_type c.args.stream.now c.art_at-shape.result ≡ 0xF004 = omega arith in
    picture-of_block c.args.stream.now c.args.offset c.in_ok-end.end c.art_at-shape.result c.in_ok-blocks.blocks
    c.block_file.result c.in_ok-end.ensures.0 c.in_ok-end.ensures.1 c.art_at-shape.ensures c.in_ok-blocks.ensures.0
    c.in_ok-blocks.ensures.1 container c.block_file.ensures
