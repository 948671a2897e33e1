-- An image breaks none of the rules 1 to 14.
use Rattle.std.proofs.Common.{ℕ, List}
use Rattle.doc_bits.specs.Rules.{Hold}
use Rattle.cfb_streams.specs.Contents.{NamedBytes, AreStreams}
use Rattle.cfb_streams.specs.Container.{container_rules}
use Rattle.cfb_layout.specs.Layout.{lengths_of}
use Rattle.cfb_layout.specs.Laws.{AreLayoutStreams}
use Rattle.cfb_layout.proofs.Image.{IsImage}
use Rattle.cfb_layout.proofs.ImageChains.{mini_sectors}
use Rattle.cfb_layout.proofs.ImageTree.{directory_of, root_holds, tree_holds, storage_holds}
use Rattle.cfb_layout.proofs.ImageNames.{names_hold}
use Rattle.cfb_layout.proofs.ImageParts.{parts_of, image_directory, image_mini_fat, image_mini_stream}
use Rattle.cfb_layout.proofs.ImageRules.{length_holds, header_holds, fat_holds, directory_holds, mini_fat_holds}
use Rattle.cfb_layout.proofs.ImageRules.{mini_stream_holds, streams_hold}
use Rattle.cfb_layout.proofs.ImageSharing.{sharing_holds}

-- all rules
pub image_holds : (file : List ℕ) (streams : List NamedBytes) (clsid : List ℕ) → IsImage file streams clsid →
    AreStreams streams → AreLayoutStreams streams clsid → Hold (container_rules file)
image_holds file streams clsid im are lay =
    let lengths = lengths_of streams in (
      (length_holds file lengths im.header lay.fits, λ p b. b.wrong im.header.signed),
      (
        (header_holds file lengths im.header, (λ p b. b.1 im.header.difats, fat_holds file lengths im.header lay.fits)),
        (
          directory_holds file streams clsid im lay,
          (
            directory_of streams,
            (
              image_directory file streams clsid im lay,
              (
                root_holds file streams clsid im,
                (
                  tree_holds file streams clsid im lay.few,
                  (
                    names_hold file streams clsid im are lay.few,
                    (
                      storage_holds file streams clsid im lay.few,
                      (
                        mini_fat_holds file streams clsid im lay,
                        (
                          mini_sectors lengths,
                          (
                            image_mini_fat file streams clsid im lay,
                            (
                              mini_stream_holds file streams clsid im lay,
                              (
                                (parts_of streams).mini_stream,
                                (
                                  image_mini_stream file streams clsid im lay,
                                  (
                                    streams_hold file streams clsid im lay,
                                    sharing_holds file streams clsid im lay,
                                  ),
                                ),
                              ),
                            ),
                          ),
                        ),
                      ),
                    ),
                  ),
                ),
              ),
            ),
          ),
        ),
      ),
    )
