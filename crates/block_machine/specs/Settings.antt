-- The settings that SET and SHOW name (PostgreSQL's documentation, "SET", "SHOW"). Those whose names begin `monkey.` are this server's
-- own.
use Rattle.std.specs.Prelude.{ℕ, ◌≤◌, length, ◌==◌, List, [], ◌∷◌, codes, if◌then◌else◌, Bool, Option, Some, None}
use Rattle.std.specs.List.{starts_with}
use Rattle.std.specs.Str.{bytes_eq}
use Rattle.cell_base.specs.Texts.{HasNoZero}
use Rattle.cell_base.specs.declared.level.Level.{Level}
use Rattle.cell_base.specs.declared.level.Level.TheVariants.{Rc, Ra, Cc}

-- whether a setting is one of the server's own
abbrev pub is_own : List ℕ → Bool
is_own name = starts_with ◌==◌ name (codes "monkey.")

-- the setting whose value is how many events the history has
abbrev pub history_name : List ℕ
history_name = codes "monkey.history"

-- the setting whose value is the level of the session's next transactions, the one of the server's own that can be set
abbrev pub level_name : List ℕ
level_name = codes "monkey.level"

-- the word of a level, by which the server is started and a session's level is set
abbrev pub level_word : Level → List ℕ
level_word Rc = codes "rc"
level_word Ra = codes "ra"
level_word Cc = codes "cc"

-- the first of these levels that has this word; none where none has it
abbrev pub level_among : List Level → List ℕ → Option Level
level_among [] word = None
level_among (level ∷ more) word = if bytes_eq word (level_word level) then Some level else level_among more word

-- the level with this word
abbrev pub level_named : List ℕ → Option Level
level_named word = level_among (Rc ∷ Ra ∷ Cc ∷ []) word

-- The level that the values of a SET choose, given the level of the server: there is one value, the word of a level, or `default` for
-- the server's level. Other values choose none.
abbrev pub chosen_level : Level → List (List ℕ) → Option Level
chosen_level served (value ∷ []) = if bytes_eq value (codes "default") then Some served else level_named value
chosen_level served _ = None

-- The settings that a session is told at its start, by ParameterStatus, each with its name and its value: the same for each session.
abbrev pub parameters : List (List ℕ × List ℕ)
parameters =
    (codes "server_version", codes "14.0")
    ∷ (codes "server_encoding", codes "UTF8")
    ∷ (codes "client_encoding", codes "UTF8")
    ∷ (codes "DateStyle", codes "ISO, MDY")
    ∷ (codes "integer_datetimes", codes "on")
    ∷ (codes "standard_conforming_strings", codes "on")
    ∷ []

-- the value of the first of these with this name; none where the name is another
abbrev pub value_among : List (List ℕ × List ℕ) → List ℕ → Option (List ℕ)
value_among [] name = None
value_among (p ∷ more) name = if bytes_eq name p.0 then Some p.1 else value_among more name

-- The value of a setting of the start. SHOW takes DateStyle in small letters too, which is how its name is read where it stands without
-- quotes.
abbrev pub parameter_value : List ℕ → Option (List ℕ)
parameter_value name =
    if bytes_eq name (codes "datestyle") then value_among parameters (codes "DateStyle") else value_among parameters name

-- the value of a setting but for the history's, given the session's level; none where there is no such setting
abbrev pub value_of : Level → List ℕ → Option (List ℕ)
value_of level name = if bytes_eq name level_name then Some (level_word level) else parameter_value name

-- a name that can be told as that of a column
pub record IsShown (name : List ℕ) : Type 0 where
  pub no_zero : HasNoZero name
  pub fits : length name ≤ 64
