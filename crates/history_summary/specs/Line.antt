-- The summary line.
use Rattle.std.specs.Prelude.{◌≡◌, ℕ, List, [], ◌∷◌, ◌++◌, codes, decimal, length}
use Rattle.std.specs.List.{join_with_byte}
use Rattle.cell_base.specs.declared.level.Level.{Level}
use Rattle.cell_base.specs.declared.level.Level.TheVariants.{Rc, Ra, Cc}
use Rattle.history_core.specs.declared.event.Event.{Event}
use Rattle.history_core.specs.Events.{opened, begun}
use Rattle.history_summary.specs.Latest.{HasWeak}
use Rattle.history_summary.specs.Counts.{reads, offered}

abbrev pub level_word : Level → List ℕ
level_word Rc = codes "rc"
level_word Ra = codes "ra"
level_word Cc = codes "cc"

-- the words of the line, where so many reads are weak
abbrev pub summary_words : Level → ℕ → List Event → ℕ → List (List ℕ)
summary_words level seed events weak =
    codes "sim" ∷ level_word level ∷ decimal seed
    ∷ codes "sessions" ∷ decimal (opened events)
    ∷ codes "transactions" ∷ decimal (begun events)
    ∷ codes "events" ∷ decimal (length events)
    ∷ codes "reads" ∷ decimal (reads events)
    ∷ codes "offered" ∷ decimal (offered events)
    ∷ codes "weak" ∷ decimal weak
    ∷ []

-- the words with a blank between each two, and a line feed
pub record IsSummary (level : Level) (seed : ℕ) (events : List Event) (line : List ℕ) : Type 0 where
  pub weak : ℕ
  pub has : HasWeak events weak
  pub is : line ≡ join_with_byte 32 (summary_words level seed events weak) ++ 10 ∷ []
