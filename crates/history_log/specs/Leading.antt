-- Events that stand with their line feed at the front of a text.
use Rattle.std.specs.Prelude.{◌≡◌, ◌≤◌, ◌+◌, ℕ, List, ◌∷◌, ◌++◌, length}
use Rattle.cell_base.specs.declared.level.Level.{Level}
use Rattle.history_core.specs.declared.event.Event.{Event}
use Rattle.history_log.specs.declared.draft.Draft.{Draft}
use Rattle.history_log.specs.declared.version.Version.{Version}
use Rattle.history_log.specs.Cut.{cut_at}
use Rattle.history_log.specs.Spelling.{event_line}
use Rattle.history_log.specs.Reading.{FitsEvent, IsEventIn}
use Rattle.history_log.specs.Draft.{IsRight, said}

-- in each version and under each head, the text is the event's line, its line feed, and the rest
pub record IsLeading (event : Event) (text rest : List ℕ) : Type 0 where
  pub fits : FitsEvent event
  pub anywhere : (v : Version) (head : Level) → IsEventIn v head event
  pub line : (v : Version) → text ≡ event_line v event ++ 10 ∷ rest

-- in this version and under this head, the text is the event's line, its line feed, and the rest
pub record IsLeadingIn (v : Version) (head : Level) (event : Event) (text rest : List ℕ) : Type 0 where
  pub fits : FitsEvent event
  pub own : IsEventIn v head event
  pub line : text ≡ event_line v event ++ 10 ∷ rest

-- the draft says so many lines, and these and the parts of the rest are all parts
pub record IsReadTo (parts : List (List ℕ)) (d : Draft) (number : ℕ) (rest : List ℕ) : Type 0 where
  pub right : IsRight d
  pub cut : parts ≡ said d ++ cut_at 10 rest
  pub count : length (said d) ≡ number
  pub room : number + length rest ≤ 268435456
