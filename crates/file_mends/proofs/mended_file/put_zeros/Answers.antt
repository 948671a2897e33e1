use Rattle.file_mends.proofs.PlaceLemmas.{put_zeros_is}
use Rattle.file_mends.proofs.mended_file.put_zeros.Goals as goal

pub returns : goal.returns
returns c =
    put_zeros_is c.args.at c.args.count c.args.bytes.now c.fill.new.self c.requires (c.fill.ensures.after (λ y h. cc))
