use Rattle.std.proofs.Common.{◌≡◌, take, None}
use Rattle.std.specs.List.{find}
use Rattle.field_links.specs.OpenFields.{is_link}
use Rattle.field_links.proofs.places.first_link.Given as goal

-- none so far is one
abbrev pub invariant-loop-field : goal.invariant-loop-field
invariant-loop-field l = find (is_link l.begin) (take l.field-index l.fields) ≡ None
