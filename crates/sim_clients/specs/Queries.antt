-- The queries of a simulated client.
use Rattle.std.specs.Prelude.{◌==◌, ◌+◌, ◌%◌, ◌/◌, if◌then◌else◌, ℕ, List, ◌++◌, codes, decimal}
use Rattle.sim_clients.specs.declared.query.Query.{Query}
use Rattle.sim_clients.specs.declared.query.Action.{Action}
use Rattle.sim_clients.specs.declared.query.Action.TheVariants.{Insert, Increment, Select, Delete}

-- the text of the statement on the row of a key
abbrev pub text_for : ℕ → Action → List ℕ
text_for key (Insert value) = codes "INSERT INTO t VALUES (" ++ (decimal key ++ (codes ", " ++ (decimal value ++ codes ")")))
text_for key Increment = codes "UPDATE t SET v = v + 1 WHERE k = " ++ decimal key
text_for key Select = codes "SELECT v FROM t WHERE k = " ++ decimal key
text_for key Delete = codes "DELETE FROM t WHERE k = " ++ decimal key

abbrev pub text_of : Query → List ℕ
text_of query = text_for query.key query.action

-- what the second word says: by its remainder the kind, and by what is left an inserted value
abbrev pub action_for : ℕ → ℕ → Action
action_for value kind = if kind == 0 then Insert value else (if kind == 1 then Increment else (if kind == 2 then Select else Delete))

-- the query that two words of the generator say: one of eight keys, and what is done with its row
abbrev pub query_of : ℕ → ℕ → Query
query_of first second = record { key = 1 + first % 8; action = action_for (second / 4) (second % 4) }
