-- The links that came in one after another, each of which was served on the same book with the same words.
use Rattle.std.specs.Prelude.{◌≡◌, ℕ, List, [], ◌∷◌, ◌++◌}
use Rattle.cell_base.specs.declared.level.Level.{Level}
use Rattle.link_traits.specs.Traffic.{Sight}
use Rattle.history_core.specs.declared.event.Event.{Event}
use Rattle.history_book.specs.Book.{Past, no_session}
use Rattle.session_core.specs.declared.served.Served.{Served}
use Rattle.session_core.specs.Record.{events_of}
use Rattle.session_core.specs.Serve.{Account, Serves, scene_of}

-- a link that came in, was served and went back
pub record Visit : Type 0 where
  -- what the link told when it came in, and when it went back
  pub came : Sight
  pub went : Sight
  -- what became of its session
  pub outcome : Served
  -- what went to and fro
  pub account : Account

-- These links were served at the level one after another, the first on a book with this past and with these words, each later one with what
-- the one before it left; the last one left that past and those words. Each left the book without a session.
abbrev pub AreVisits : {W : Type 0} → (W → ℕ → W → Type 0) → Level → Past → W → List Visit → Past → W → Type 0
AreVisits gives level past words [] left_past left_words = (left_past ≡ past) × (left_words ≡ words)
AreVisits {W} gives level past words (visit ∷ visits) left_past left_words =
    (next_past : Past) × (next_words : W)
    × Serves gives level (scene_of past words visit.came) visit.outcome (scene_of next_past next_words visit.went) visit.account
    × (next_past.state ≡ no_session)
    × AreVisits gives level next_past next_words visits left_past left_words

-- the events of these sessions, in order
abbrev pub events_of_visits : List Visit → List Event
events_of_visits [] = []
events_of_visits (visit ∷ visits) = events_of visit.account.entries ++ events_of_visits visits

-- what the links told when they came in
abbrev pub came_of : Visit → Sight
came_of visit = visit.came

-- what the links told when they went back
abbrev pub went_of : Visit → Sight
went_of visit = visit.went

-- what became of the session
abbrev pub outcome_of : Visit → Served
outcome_of visit = visit.outcome
