-- What other crates may cite of these proofs.

-- Events nest, and show the glyphs of their places.
pub use Rattle.view_paths.proofs.NestLemmas.{events_from-append, events_up_to-append, last_path-append}
pub use Rattle.view_paths.proofs.NestLemmas.{nested-events_from}
-- What is opened on the way through places, and what the events of places cost.
pub use Rattle.view_paths.proofs.OpeningLemmas.{behind_less, event_cost, events_cost, glyph_cost, opened-append}
pub use Rattle.view_paths.proofs.OpeningLemmas.{opened_less, opened_on, opened_within, shown_cost, shown_within, total}
pub use Rattle.view_paths.proofs.OpeningLemmas.{total-append, total-both, total-less, within}
-- The way from a path to another one, step by step: what is closed from the innermost, and what is opened.
pub use Rattle.view_paths.proofs.WayLemmas.{closes-next, closes-none, opens-next, opens-none, take-closed}
pub use Rattle.view_paths.proofs.WayLemmas.{transition-shared}
