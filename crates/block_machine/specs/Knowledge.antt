-- What a session knows: it is handed on from each statement to the next, and from each message to the next.
use Rattle.std.specs.Prelude.{List, [], ◌++◌}
use Rattle.cell_base.specs.declared.level.Level.{Level}
use Rattle.sql_tree.specs.declared.table.Table.{Table}
use Rattle.block_machine.specs.declared.known.Known.{Known}

pub record Knowledge : Type 0 where
  -- the tables that it was shown
  pub tables : List Table
  -- the level of its next transactions
  pub level : Level
  -- the level of the server, at which each session begins
  pub served : Level

-- what a session knows at its start, by the level of the server
abbrev pub at_start : Level → Knowledge
at_start level = record { tables = []; level = level; served = level }

-- it was shown these tables too
abbrev pub with_tables : Knowledge → List Table → Knowledge
with_tables known tables = record { tables = known.tables ++ tables; level = known.level; served = known.served }

-- its next transactions are at this level
abbrev pub with_level : Knowledge → Level → Knowledge
with_level known level = record { tables = known.tables; level = level; served = known.served }

-- what the code keeps of it
abbrev pub knowledge_in : Known → Knowledge
knowledge_in k = record { tables = k.tables.items; level = k.level; served = k.served }
