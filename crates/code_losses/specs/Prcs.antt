-- [MS-DOC] Clx, Prc: the lists of the Prcs at the front of a Clx.
use Rattle.std.specs.Prelude.{◌≡◌, ℕ, List, length, slice_get, Some}
use Rattle.std.specs.List.{flat_map}
use Rattle.sprm_table.specs.Sprm.{Prl}
use Rattle.piece_table.specs.Front.{AreAllPrcs}
use Rattle.code_losses.specs.Counted.{IsFoundPrlList}

-- the lists of ranges of bytes, one after the other
pub record AreFoundIn (ranges : List (List ℕ)) (lists : List (List Prl)) : Type 0 where
  pub parts : List (List (List Prl))
  pub len : length parts ≡ length ranges
  pub each : (k : ℕ) (bytes : List ℕ) (part : List (List Prl)) → slice_get ranges k ≡ Some bytes →
      slice_get parts k ≡ Some part → IsFoundPrlList bytes part
  pub joined : lists ≡ flat_map (λ part. part) parts

-- those of the Prcs, whether a piece names them or not
pub record AreListsOfPrcs (clx : List ℕ) (lists : List (List Prl)) : Type 0 where
  pub prcs : List (List ℕ)
  pub end : ℕ
  pub are : AreAllPrcs clx prcs end
  pub found : AreFoundIn prcs lists
