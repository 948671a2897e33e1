use Rattle.cfb_in_place.proofs.CountLemmas.{fat_fits}
use Rattle.cfb_in_place.proofs.laws.fat_fits_the_header.Goals as goal

pub returns : goal.returns
returns c = fat_fits
