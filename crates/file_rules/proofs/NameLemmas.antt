-- A file has one stream of a name.
use Rattle.std.proofs.Common.{◌≡◌, ◌∙◌, sym, ap, ℕ, List, slice_get, Some}
use Rattle.std.proofs.lemmas.Option.{same_Some}
use Rattle.cfb_directory.specs.Directory.{AreSameNames}
use Rattle.cfb_streams.specs.Contents.{Stream, Contents, HasNamed}
use Rattle.cfb_streams.specs.Container.{HasContents}
use Rattle.cfb_streams.proofs.Public.{named_place}

-- streams with one name are one
pub one_stream : (file : List ℕ) (contents : Contents) (name : List ℕ) (i j : ℕ) (one other : Stream) →
    HasContents file contents → slice_get contents.streams i ≡ Some one → slice_get contents.streams j ≡ Some other →
    AreSameNames one.name name → AreSameNames other.name name → one ≡ other
one_stream file contents name i j one other has here there first second =
    let place : i ≡ j = named_place file contents has name i j one other here there first second in
    same_Some one other (sym here ∙ (ap (λ (k : ℕ). slice_get contents.streams k) place ∙ there))

-- and so are the bytes by a name
pub named_one : (file : List ℕ) (contents : Contents) (name bytes other : List ℕ) → HasContents file contents →
    HasNamed contents.streams name bytes → HasNamed contents.streams name other → bytes ≡ other
named_one file contents name bytes other has a b =
    let one = one_stream file contents name a.index b.index a.stream b.stream has a.here b.here a.named b.named in
    a.same ∙ (ap (λ (stream : Stream). stream.bytes) one ∙ sym b.same)
