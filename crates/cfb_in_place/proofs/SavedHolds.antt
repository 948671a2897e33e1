-- The file after a save breaks none of the rules 1 to 14.
use Rattle.std.proofs.Common.{refl, List, ℕ}
use Rattle.doc_bits.specs.Rules.{Hold}
use Rattle.cfb_streams.specs.Contents.{Contents}
use Rattle.cfb_streams.specs.Container.{container_rules, HasContents}
use Rattle.cfb_in_place.specs.Change.{StreamChange, OldChains, added_sectors}
use Rattle.cfb_in_place.specs.Save.{IsSave}
use Rattle.cfb_in_place.proofs.Saved.{Save, length_again, signature_again, header_again, difat_again, fat_again}
use Rattle.cfb_in_place.proofs.ChainsAgain.{directory_again}
use Rattle.cfb_in_place.proofs.TreeAgain.{tree_after}
use Rattle.cfb_in_place.proofs.StreamsAgain.{directory_holds, mini_fat_again, mini_fat_holds, mini_stream_again}
use Rattle.cfb_in_place.proofs.StreamsAgain.{mini_stream_holds, streams_again}
use Rattle.cfb_in_place.proofs.SharingAgain.{sharing_again}

pub saved_holds : (s : Save) → Hold (container_rules s.new)
saved_holds s =
    let tree = tree_after s in (
      (length_again s, signature_again s),
      (
        (header_again s, (difat_again s, fat_again s)),
        (
          directory_holds s,
          (
            s.has.parts.directory,
            (
              directory_again s,
              (
                tree.root,
                (
                  tree.tree,
                  (
                    tree.names,
                    (
                      tree.storages,
                      (
                        mini_fat_holds s,
                        (
                          s.has.parts.mini_fat,
                          (
                            mini_fat_again s,
                            (
                              mini_stream_holds s,
                              (
                                s.has.parts.mini_stream,
                                (mini_stream_again s, (streams_again s, sharing_again s)),
                              ),
                            ),
                          ),
                        ),
                      ),
                    ),
                  ),
                ),
              ),
            ),
          ),
        ),
      ),
    )

unfoldable pub save_of : (old new : List ℕ) (contents : Contents) (has : HasContents old contents) (chains : OldChains)
    (change : StreamChange) → IsSave old new contents has chains change → Save
save_of old new contents has chains change is = record {
  old = old;
  new = new;
  contents = contents;
  has = has;
  chains = chains;
  added = added_sectors old chains change;
  change = change;
  hold = is.hold;
  are = is.are;
  put = is.put;
  is_added = refl;
  fits = is.fits;
  saved = is.saved;
}

pub save_holds : (old new : List ℕ) (contents : Contents) (has : HasContents old contents) (chains : OldChains) (change
    : StreamChange) → IsSave old new contents has chains change → Hold (container_rules new)
unfolding save_of
save_holds old new contents has chains change is = saved_holds (save_of old new contents has chains change is)
