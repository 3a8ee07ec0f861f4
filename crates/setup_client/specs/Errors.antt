-- The first error that a session was told, as PostgreSQL's protocol chapter has it under "Message Formats" and "Error and Notice Message Fields".
use Rattle.std.specs.Prelude.{ℕ, zero, suc, ◌+◌, ◌==◌, nat_lt, List, [], ◌∷◌, length, drop, slice_index, slice_range, if◌then◌else◌, Bool, true, false, Option, None, Some}
use Rattle.client_framing.specs.Fronts.{number_at}
use Rattle.setup_client.specs.declared.errors.StatementFault.{StatementFault}

-- ---- the fields of an error

-- what stands before the first zero byte
abbrev pub text_at : List ℕ → List ℕ
text_at [] = []
text_at (byte ∷ bytes) = if byte == 0 then [] else byte ∷ text_at bytes

-- a field of this letter begins with this byte, given whether a field begins here
abbrev pub is_field : Bool → ℕ → ℕ → Bool
is_field begins letter byte = if begins then byte == letter else false

-- The value of the first field of this letter, given whether a field begins here: one begins at the front, and after each zero byte.
abbrev pub field_from : Bool → ℕ → List ℕ → List ℕ
field_from begins letter [] = []
field_from begins letter (byte ∷ bytes) = if is_field begins letter byte then text_at bytes else field_from (byte == 0) letter bytes

-- the value of the first field of this letter, which ends at a zero byte; none where there is no such field
abbrev pub field : ℕ → List ℕ → List ℕ
field letter body = field_from true letter body

-- the error of the statement of this number: the fields C and M of the message
abbrev pub fault_of : ℕ → List ℕ → StatementFault
fault_of number body = record { number = number; code = field 67 body; message = field 77 body }

-- ---- the messages

-- A whole message stands at the front: a type byte and a length, which counts itself, and as many bytes.
abbrev pub has_message : List ℕ → Bool
has_message bytes = if nat_lt (length bytes) 5 then false else (if nat_lt (number_at 1 bytes) 4 then false else nat_lt (number_at 1 bytes) (length bytes))

-- the type byte of the message at the front
abbrev pub kind_at : List ℕ → ℕ
kind_at bytes = slice_index bytes 0

-- what stands after its length
abbrev pub body_at : List ℕ → List ℕ
body_at bytes = slice_range bytes 5 (1 + number_at 1 bytes)

-- what stands after the message
abbrev pub following : List ℕ → List ℕ
following bytes = drop (1 + number_at 1 bytes) bytes

-- a statement is done: CommandComplete, or EmptyQueryResponse
abbrev pub ends_statement : ℕ → Bool
ends_statement kind = if kind == 67 then true else kind == 73

-- the number of the statement that goes on after a message of this kind
abbrev pub number_after : ℕ → ℕ → ℕ
number_after kind number = if ends_statement kind then number + 1 else number

-- the first ErrorResponse of at most so many messages, given the number of the statement that goes on at first
abbrev pub first_among : ℕ → ℕ → List ℕ → Option StatementFault
first_among zero number bytes = None
first_among (suc more) number bytes =
    if has_message bytes then
    (if kind_at bytes == 69 then Some (fault_of number (body_at bytes))
    else first_among more (number_after (kind_at bytes) number) (following bytes))
    else None

-- The first error that these bytes tell, and the number of its statement, from 1: one more than the statements that were done before it. There
-- are at most as many messages as bytes.
abbrev pub first_error : List ℕ → Option StatementFault
first_error bytes = first_among (length bytes) 1 bytes
