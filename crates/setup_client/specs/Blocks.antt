-- Whether a session was told that it stands inside a block, as PostgreSQL's protocol chapter has it under "Message Formats", ReadyForQuery.
use Rattle.std.specs.Prelude.{ℕ, zero, suc, ◌==◌, List, [], ◌∷◌, length, if◌then◌else◌, Bool, true, false}
use Rattle.setup_client.specs.Errors.{has_message, kind_at, body_at, following}

-- the status of a ReadyForQuery, which is its body, is T
abbrev pub is_in_block : List ℕ → Bool
is_in_block [] = false
is_in_block (status ∷ more) = status == 84

-- the message at the front is a ReadyForQuery of this status
abbrev pub says_block : List ℕ → Bool
says_block bytes = if kind_at bytes == 90 then is_in_block (body_at bytes) else false

-- one of at most so many messages is
abbrev pub block_among : ℕ → List ℕ → Bool
block_among zero bytes = false
block_among (suc more) bytes = if has_message bytes then (if says_block bytes then true else block_among more (following bytes)) else false

-- One of the messages that these bytes tell is a ReadyForQuery of status T: after it the session stands inside a block. There are at most as many
-- messages as bytes.
abbrev pub tells_block : List ℕ → Bool
tells_block bytes = block_among (length bytes) bytes
