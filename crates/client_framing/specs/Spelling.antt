-- How the messages of a client are spelled, as PostgreSQL's protocol chapter has it under "Message Formats". Bodies that
-- nobody reads have many spellings, so this is a relation between a message and bytes.
use Rattle.std.specs.Prelude.{◌≡◌, ℕ, ◌+◌, ◌≤◌, ◌≢◌, List, [], ◌∷◌, ◌++◌, length, take, drop, flat_map, Bool, true, false, Option, None, Some}
use Rattle.std.specs.Int.{w32, from_be_bytes}
use Rattle.std.specs.List.{AllByRecursion}
use Rattle.cell_base.specs.Texts.{HasNoZero}
use Rattle.client_framing.specs.declared.frontend_message.FrontendMessage.{FrontendMessage}
use Rattle.client_framing.specs.declared.frontend_message.FrontendMessage.TheVariants.{Ssl, Gss, Cancel, Startup, Version, Query, Terminate, Sync, Flush, Extended, FunctionCall, Copy}
use Rattle.client_framing.specs.declared.frontend_message.Extended.TheVariants.{Parse, Bind, Describe, Execute, Close}
use Rattle.client_framing.specs.declared.frontend_message.CopyMessage.TheVariants.{Data, Done, Fail}

-- the number that bytes are, the greatest first
unfoldable pub number_of : List ℕ → ℕ
number_of bytes = from_be_bytes w32 bytes

-- the bytes are this number in four bytes
abbrev pub IsInt32 : ℕ → List ℕ → Type 0
IsInt32 n bytes = (length bytes ≡ 4) × (number_of bytes ≡ n)

-- a name and its value
abbrev pub Pair : Type 0
Pair = (List ℕ) × (List ℕ)

-- a name isn't empty, and neither part holds a zero byte
abbrev pub IsPair : Pair → Type 0
IsPair p = (p.0 ≢ []) × HasNoZero p.0 × HasNoZero p.1

-- a name and its value, each closed by a zero byte
abbrev pub pair_bytes : Pair → List ℕ
pair_bytes p = p.0 ++ (0 ∷ (p.1 ++ 0 ∷ []))

-- the pairs and the zero byte that ends them
abbrev pub pairs_bytes : List Pair → List ℕ
pairs_bytes pairs = flat_map pair_bytes pairs ++ 0 ∷ []

-- a code that is neither of protocol 3.0 nor of a cancel, SSL or GSS request
abbrev pub IsOtherVersion : ℕ → Type 0
IsOtherVersion code = (code ≢ 196608) × (code ≢ 80877102) × (code ≢ 80877103) × (code ≢ 80877104)

-- the code of a message that stands before the startup's end
abbrev pub code_of : FrontendMessage → Option ℕ
code_of Ssl = Some 80877103
code_of Gss = Some 80877104
code_of (Cancel pid secret) = Some 80877102
code_of (Startup pairs) = Some 196608
code_of (Version code) = Some code
code_of _ = None

-- the type byte of a message that stands after the startup
abbrev pub type_of : FrontendMessage → Option ℕ
type_of (Query text) = Some 81
type_of Terminate = Some 88
type_of Sync = Some 83
type_of Flush = Some 72
type_of (Extended Parse) = Some 80
type_of (Extended Bind) = Some 66
type_of (Extended Describe) = Some 68
type_of (Extended Execute) = Some 69
type_of (Extended Close) = Some 67
type_of FunctionCall = Some 70
type_of (Copy Data) = Some 100
type_of (Copy Done) = Some 99
type_of (Copy Fail) = Some 102
type_of _ = None

-- what stands after the code, or after the length of a message that has a type byte
abbrev pub IsBody : FrontendMessage → List ℕ → Type 0
IsBody Ssl body = body ≡ []
IsBody Gss body = body ≡ []
IsBody (Cancel pid secret) body = IsInt32 pid (take 4 body) × IsInt32 secret (drop 4 body)
IsBody (Startup pairs) body = AllByRecursion IsPair pairs × (body ≡ pairs_bytes pairs)
IsBody (Version code) body = IsOtherVersion code
IsBody (Query text) body = HasNoZero text × (body ≡ text ++ 0 ∷ [])
IsBody Terminate body = body ≡ []
IsBody Sync body = body ≡ []
IsBody Flush body = body ≡ []
IsBody (Extended _) body = Unit {0}
IsBody FunctionCall body = Unit {0}
IsBody (Copy _) body = Unit {0}

-- before the startup: a length, which counts itself and is at most 10,000, a code and a body
pub record IsOpening (front : FrontendMessage) (bytes : List ℕ) : Type 0 where
  pub size : List ℕ
  pub code : List ℕ
  pub body : List ℕ
  pub whole : bytes ≡ size ++ (code ++ body)
  pub size_is : IsInt32 (8 + length body) size
  pub fits : 8 + length body ≤ 10000
  pub code_held : length code ≡ 4
  pub code_is : code_of front ≡ Some (number_of code)
  pub body_is : IsBody front body

-- after the startup: a type byte, a length, which counts itself and is at most 1,048,576, and a body
pub record IsMessage (front : FrontendMessage) (bytes : List ℕ) : Type 0 where
  pub kind : ℕ
  pub size : List ℕ
  pub body : List ℕ
  pub whole : bytes ≡ kind ∷ (size ++ body)
  pub size_is : IsInt32 (4 + length body) size
  pub fits : 4 + length body ≤ 1048576
  pub kind_is : type_of front ≡ Some kind
  pub body_is : IsBody front body

-- the bytes spell the message in this phase, before the startup (false) or after it (true)
abbrev pub IsSpelling : Bool → FrontendMessage → List ℕ → Type 0
IsSpelling false front bytes = IsOpening front bytes
IsSpelling true front bytes = IsMessage front bytes

-- the phase after a message
abbrev pub phase_after : Bool → FrontendMessage → Bool
phase_after started (Startup pairs) = true
phase_after started _ = started
