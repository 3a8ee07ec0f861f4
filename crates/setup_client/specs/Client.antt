-- The client of a setup: what it sends.
use Rattle.std.specs.Prelude.{ℕ, ◌+◌, List, [], ◌∷◌, ◌++◌, length, codes, Some}
use Rattle.std.specs.Int.{w32, to_be_bytes}
use Rattle.link_traits.specs.Traffic.{Sight, untouched}

-- the greatest number of bytes of a setup: the most that the text of one query message has
abbrev pub most_text : ℕ
most_text = 1048571

-- the startup message of version 3.0, whose user is `setup`
abbrev pub startup : List ℕ
startup = to_be_bytes w32 20 ++ (to_be_bytes w32 196608 ++ (codes "user" ++ 0 ∷ (codes "setup" ++ 0 ∷ 0 ∷ [])))

-- the Query message of this text
abbrev pub query_message : List ℕ → List ℕ
query_message text = codes "Q" ++ (to_be_bytes w32 (length text + 5) ++ (text ++ 0 ∷ []))

-- the Terminate message
abbrev pub terminate : List ℕ
terminate = codes "X" ++ to_be_bytes w32 4

-- the bytes of a client that starts, sends this text as one query, and terminates
abbrev pub setup_bytes : List ℕ → List ℕ
setup_bytes text = startup ++ (query_message text ++ terminate)

-- a link on which this client stands, and over which nothing went
abbrev pub link_of : List ℕ → Sight
link_of text = record { traffic = Some (untouched (setup_bytes text)); read_faults = 0; write_faults = 0 }
