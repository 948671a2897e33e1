-- Where the links of a document may lead.
use Rattle.std.proofs.Common.{◌≡◌, ℕ, Bool, true, false, List, Option, Some, None, ◌⊎◌}
use Rattle.std.specs.Prelude.{if◌then◌else◌}
use Rattle.field_links.specs.Instructions.{target_of}
use Rattle.field_links.specs.Laws.{IsSchemeUrl, IsLocalUrl}
use Rattle.field_links.specs.Urls.{url_text}
use Rattle.field_links.proofs.Public.{allowed}
use Rattle.link_targets.specs.Links.{begins_no_field, url_in}

-- each URL of an instruction is allowed
pub known_url : (instruction url : List ℕ) → url_in instruction ≡ Some url → IsSchemeUrl url ⊎ IsLocalUrl url
known_url instruction url is =
    elim (begins_no_field instruction) as (λ (b : Bool). (if b then url_text (target_of instruction) else None) ≡ Some
    url →
    IsSchemeUrl url ⊎ IsLocalUrl url) [
      | true ↦ λ e. allowed (target_of instruction) url e
      | false ↦ λ e. absurd (cc (e))
    ] is
