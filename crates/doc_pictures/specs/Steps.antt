-- One place more, of places in their order.
use Rattle.std.specs.Prelude.{◌≡◌, ℕ, ◌<◌, ◌≤◌, List, [], ◌∷◌, ◌++◌, ◌⊎◌}
use Rattle.inline_pictures.specs.declared.picture.PictureFile.{PictureFile}
use Rattle.doc_pictures.specs.declared.pictures.Picture.{Picture}
use Rattle.doc_pictures.specs.Pictures.{HasFile}

-- it has a picture behind the end of the last one, which is put last
pub record IsPictureAdded (stream : List ℕ) (place ended behind : ℕ) (old new : List Picture) : Type 0 where
  pub file : PictureFile
  pub after : ended ≤ place
  pub has : HasFile stream place file
  pub put : new ≡ old ++ record { place = place; file = file } ∷ []
  pub ends : behind ≡ file.to

-- it has none, or lies in front of that end
pub record IsPlacePassed (stream : List ℕ) (place ended behind : ℕ) (old new : List Picture) : Type 0 where
  pub none : (place < ended) ⊎ ((file : PictureFile) → ¬ (HasFile stream place file))
  pub same : new ≡ old
  pub ends : behind ≡ ended

abbrev pub IsPictureStep : (stream : List ℕ) → (place ended behind : ℕ) → (old new : List Picture) → Type 0
IsPictureStep stream place ended behind old new = IsPlacePassed stream place ended behind old new ⊎ IsPictureAdded
    stream place ended behind old new
