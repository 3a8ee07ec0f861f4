-- What steps of a hall come to.
use Rattle.std.specs.Prelude.{◌≡◌, ◌+◌, ◌%◌, ℕ, List, [], ◌∷◌, Some, length, slice_get}
use Rattle.cell_base.specs.declared.level.Level.{Level}
use Rattle.session_hall.specs.declared.client.Client.{Client}
use Rattle.session_hall.specs.declared.client.Stepped.{Stepped}
use Rattle.session_hall.specs.declared.hall.Hall.{Hall}
use Rattle.session_hall.specs.Halls.{StandsFor}
use Rattle.sim_clients.specs.Clients.{AreClients}
use Rattle.sim_command.specs.Runs.{Moment, Pick, Runs, at_first}
use Rattle.sim_command.specs.Simulations.{going_after}

-- the hall stands for this moment of a run
abbrev pub StandsAt : Level → List Client → Moment → Hall → Type 0
StandsAt level clients moment hall = StandsFor level moment.history clients moment.accounts hall

-- From one hall to another by steps of which this holds, with so many steps left before and after: whatever moment the first stands at.
pub record Plays (P : List Pick → Type 0) (level : Level) (clients : List Client) (before : Moment) (left : ℕ) (hall : Hall) (rest : ℕ) : Type 0 where
  pub picks : List Pick
  pub after : Moment
  pub runs : Runs level clients before picks after
  pub stands : StandsAt level clients after hall
  pub count : length picks + rest ≡ left
  pub holds : P picks

abbrev pub Goes : (List Pick → Type 0) → ℕ → Hall → ℕ → Hall → Type 0
Goes P left old rest new = (level : Level) (clients : List Client) (before : Moment) → StandsAt level clients before old →
    Plays P level clients before left new rest

-- one step, of this client
abbrev pub IsStepOf : ℕ → Stepped → List Pick → Type 0
IsStepOf client stepped picks = picks ≡ record { client = client; stepped = stepped } ∷ []

-- one step, of the client that the word picks of those that go on, of whom these are left
pub record IsPicked (word : ℕ) (going left : List ℕ) (picks : List Pick) : Type 0 where
  pub pick : Pick
  pub is : picks ≡ pick ∷ []
  pub picked : slice_get going (word % length going) ≡ Some pick.client
  pub left_is : left ≡ going_after pick.stepped (word % length going) going

-- no step
abbrev pub AreNone : List Pick → Type 0
AreNone picks = picks ≡ []

-- the hall has the clients of the seed, of which nothing was heard yet
pub record IsNewHall (level : Level) (seed sessions queries : ℕ) (hall : Hall) : Type 0 where
  pub clients : List Client
  pub are : AreClients seed sessions queries clients
  pub stands : StandsAt level clients (at_first level) hall
