-- How the messages of the server are spelled, as PostgreSQL's protocol chapter has it under "Message Formats".
use Rattle.std.specs.Prelude.{ℕ, ◌+◌, ◌<◌, ◌≤◌, ◌^◌, ◌==◌, List, [], ◌∷◌, ◌++◌, length, flat_map, codes, if◌then◌else◌, true, false, Option, Some, None}
use Rattle.std.specs.Int.{w16, to_be_bytes}
use Rattle.std.specs.Fmt.{signed_decimal}
use Rattle.cell_base.specs.declared.sql_type.SqlType.{SqlType}
use Rattle.cell_base.specs.declared.sql_type.SqlType.TheVariants.{Boolean, Integer, Bigint, Varchar, Numeric}
use Rattle.cell_base.specs.declared.sql_type.SqlType.TheVariants as types
use Rattle.cell_base.specs.declared.sql_state.SqlState.{SqlState}
use Rattle.cell_base.specs.declared.value.Value.{Value}
use Rattle.cell_base.specs.declared.value.Value.TheVariants.{Unset, Null, Flag, Int, Wide}
use Rattle.cell_base.specs.declared.value.Value.TheVariants as values
use Rattle.cell_base.specs.Codes.{code_of, text_of}
use Rattle.cell_base.specs.Texts.{HasNoZero}
use Rattle.sql_tree.specs.declared.table.OutField.{OutField}
use Rattle.pg_framing.specs.declared.replies.Severity.{Severity}
use Rattle.pg_framing.specs.declared.replies.Severity.TheVariants.{Error, Fatal}
use Rattle.pg_framing.specs.declared.replies.TransactionState.{TransactionState}
use Rattle.pg_framing.specs.declared.replies.TransactionState.TheVariants.{Idle, Block, Failed}
use Rattle.pg_framing.specs.Spelling.{four_bytes, sized}

-- a number in two bytes, the greater first
unfoldable pub two_bytes : ℕ → List ℕ
two_bytes n = to_be_bytes w16 n

-- a type byte, the length of what stands from there on, and a body
unfoldable pub framed : ℕ → List ℕ → List ℕ
framed kind body = kind ∷ sized body

-- a text and the zero byte that ends it
abbrev pub ended : List ℕ → List ℕ
ended text = text ++ 0 ∷ []

-- the user is accepted without a password
unfoldable pub auth_ok : List ℕ
auth_ok = framed 82 (four_bytes 0)

-- a setting and its value
unfoldable pub parameter : List ℕ → List ℕ → List ℕ
parameter name value = framed 83 (ended name ++ ended value)

-- what a cancel request of this session would have to name
unfoldable pub key_data : ℕ → ℕ → List ℕ
key_data pid secret = framed 75 (four_bytes pid ++ four_bytes secret)

-- I outside a block, T in one, E in a failed one
abbrev pub state_byte : TransactionState → ℕ
state_byte Idle = 73
state_byte Block = 84
state_byte Failed = 69

-- the next query may come
unfoldable pub ready : TransactionState → List ℕ
ready state = framed 90 (state_byte state ∷ [])

-- the number of a type in PostgreSQL's catalogue
abbrev pub type_oid : SqlType → ℕ
type_oid Boolean = 16
type_oid Bigint = 20
type_oid Integer = 23
type_oid types.Text = 25
type_oid (Varchar limit) = 1043
type_oid Numeric = 1700

-- the length of a type's values; minus one, in sixteen bits, where it varies
abbrev pub type_length : SqlType → ℕ
type_length Boolean = 1
type_length Bigint = 8
type_length Integer = 4
type_length types.Text = 65535
type_length (Varchar limit) = 65535
type_length Numeric = 65535

-- the limit of a varchar and four; minus one, in 32 bits, where there is none
abbrev pub type_modifier : SqlType → ℕ
type_modifier Boolean = 4294967295
type_modifier Bigint = 4294967295
type_modifier Integer = 4294967295
type_modifier types.Text = 4294967295
type_modifier (Varchar limit) = if limit == 0 then 4294967295 else limit + 4
type_modifier Numeric = 4294967295

-- a column: its name; no table and no column of one; its type, with length and modifier; text format
unfoldable pub field_bytes : OutField → List ℕ
field_bytes field =
    ended field.name
    ++ (four_bytes 0
    ++ (two_bytes 0
    ++ (four_bytes (type_oid field.kind) ++ (two_bytes (type_length field.kind) ++ (four_bytes (type_modifier field.kind) ++ two_bytes 0)))))

-- the columns of the rows that follow
unfoldable pub row_description : List OutField → List ℕ
row_description fields = framed 84 (two_bytes (length fields) ++ flat_map field_bytes fields)

-- the text of a value; none stands for null
abbrev pub value_text : Value → Option (List ℕ)
value_text Unset = None
value_text Null = None
value_text (Flag true) = Some (codes "t")
value_text (Flag false) = Some (codes "f")
value_text (Int n) = Some (signed_decimal n)
value_text (Wide n) = Some (signed_decimal n)
value_text (values.Text text) = Some text

-- a length and as many bytes, or minus one in 32 bits for null
abbrev pub text_bytes : Option (List ℕ) → List ℕ
text_bytes None = four_bytes 4294967295
text_bytes (Some text) = four_bytes (length text) ++ text

unfoldable pub value_bytes : Value → List ℕ
value_bytes value = text_bytes (value_text value)

-- one row
unfoldable pub data_row : List Value → List ℕ
data_row values = framed 68 (two_bytes (length values) ++ flat_map value_bytes values)

-- a statement is done
unfoldable pub command_complete : List ℕ → List ℕ
command_complete tag = framed 67 (ended tag)

-- a query without a statement is done
unfoldable pub empty_query : List ℕ
empty_query = framed 73 []

-- severity twice (for display and for programs), code and text
abbrev pub report : List ℕ → SqlState → List ℕ
report severity state = (83 ∷ ended severity) ++ ((86 ∷ ended severity) ++ ((67 ∷ ended (code_of state)) ++ ((77 ∷ ended (text_of state)) ++ 0 ∷ [])))

-- the word for how severe an error is
abbrev pub severity_word : Severity → List ℕ
severity_word Error = codes "ERROR"
severity_word Fatal = codes "FATAL"

-- an error, which ends the session where it is fatal
unfoldable pub error_response : Severity → SqlState → List ℕ
error_response severity state = framed 69 (report (severity_word severity) state)

-- a warning
unfoldable pub notice_response : SqlState → List ℕ
notice_response state = framed 78 (report (codes "WARNING") state)

-- a type whose modifier can be told: a varchar has at most 65,536 characters
abbrev pub FitsModifier : SqlType → Type 0
FitsModifier (Varchar limit) = limit ≤ 65536
FitsModifier Boolean = Unit {0}
FitsModifier Bigint = Unit {0}
FitsModifier Integer = Unit {0}
FitsModifier types.Text = Unit {0}
FitsModifier Numeric = Unit {0}

-- a column that can be described: no zero byte in its name, and a type that can be told
pub record IsField (field : OutField) : Type 0 where
  pub no_zero : HasNoZero field.name
  pub fits : FitsModifier field.kind

-- a body whose message has a length below 2 ^ 31
abbrev pub FitsMessage : List ℕ → Type 0
FitsMessage body = 4 + length body < 2 ^ 31
