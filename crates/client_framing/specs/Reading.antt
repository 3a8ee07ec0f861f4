-- What the parts of a reader of messages say of each other. The pages of definitions are `Spelling` and `Fronts`.
use Rattle.std.specs.Prelude.{◌≡◌, ℕ, ◌-◌, List, ◌++◌, length, take, drop, false, Option, Some, MatchOption}
use Rattle.std.specs.List.{AllByRecursion}
use Rattle.client_framing.specs.declared.frontend_message.FrontendMessage.{FrontendMessage}
use Rattle.client_framing.specs.declared.frontend_message.Extended.TheVariants.{Parse, Bind, Describe, Execute, Close}
use Rattle.client_framing.specs.declared.frontend_message.CopyMessage.TheVariants.{Data, Done, Fail}
use Rattle.client_framing.specs.declared.frontend_message.FrameFault.{FrameFault}
use Rattle.client_framing.specs.declared.message_type.MessageType.{MessageType}
use Rattle.client_framing.specs.declared.message_type.MessageType.TheVariants.{Query, Terminate, Sync, Flush, Extended, FunctionCall, Copy}
use Rattle.client_framing.specs.declared.opening_type.OpeningType.{OpeningType}
use Rattle.client_framing.specs.declared.opening_type.OpeningType.TheVariants.{Startup, Cancel, Ssl, Gss, Version}
use Rattle.client_framing.specs.Spelling.{Pair, pair_bytes, pairs_bytes, code_of, IsPair, IsBody, IsOtherVersion}
use Rattle.client_framing.specs.Fronts.{Held, TakesFronts, IsPartial, HasFault, phase_following, number_at}

-- the byte of a message's type
abbrev pub byte_of : MessageType → ℕ
byte_of Query = 81
byte_of Terminate = 88
byte_of Sync = 83
byte_of Flush = 72
byte_of (Extended Parse) = 80
byte_of (Extended Bind) = 66
byte_of (Extended Describe) = 68
byte_of (Extended Execute) = 69
byte_of (Extended Close) = 67
byte_of FunctionCall = 70
byte_of (Copy Data) = 100
byte_of (Copy Done) = 99
byte_of (Copy Fail) = 102

-- the code of an opening message's type
abbrev pub opening_code : OpeningType → ℕ
opening_code Startup = 196608
opening_code Cancel = 80877102
opening_code Ssl = 80877103
opening_code Gss = 80877104
opening_code (Version code) = code

-- a type that is named another version is one
abbrev pub IsRightlyNamed : OpeningType → Type 0
IsRightlyNamed (Version code) = IsOtherVersion code
IsRightlyNamed _ = Unit {0}

-- no pair stands at the front
abbrev pub HasNoPair : List ℕ → Type 0
HasNoPair bytes = (pair : Pair) (more : List ℕ) → IsPair pair → bytes ≡ pair_bytes pair ++ more → ⊥

-- the bytes are pairs and their end
pub record ArePairs (bytes : List ℕ) : Type 0 where
  pub pairs : List Pair
  pub each : AllByRecursion IsPair pairs
  pub whole : bytes ≡ pairs_bytes pairs

-- with more bytes after them, these are pairs and their end, of this size
pub record CanBePairs (size : ℕ) (held : List ℕ) : Type 0 where
  pub pairs : List Pair
  pub more : List ℕ
  pub each : AllByRecursion IsPair pairs
  pub fills : length (pairs_bytes pairs) ≡ size
  pub whole : held ++ more ≡ pairs_bytes pairs

-- with more bytes after them, these are the body of a message of this code, of this size
pub record CanBeBody (code size : ℕ) (held : List ℕ) : Type 0 where
  pub front : FrontendMessage
  pub more : List ℕ
  pub code_is : code_of front ≡ Some code
  pub body_is : IsBody front (held ++ more)
  pub fills : length (held ++ more) ≡ size

-- what is held of an opening message's body, which goes as far as its length says
abbrev pub held_body : List ℕ → List ℕ
held_body bytes = take (number_at 0 bytes - 8) (drop 8 bytes)

-- the stream is these messages, and after them what is held
pub record SplitsInto (stream : List ℕ) (fronts : List FrontendMessage) (held : Held) : Type 0 where
  pub takes : TakesFronts false stream fronts held.rest
  pub phase : held.started ≡ phase_following false fronts

-- what is held begins with this fault, or with neither a message nor a fault
pub record EndsWith (held : Held) (fault : Option FrameFault) : Type 0 where
  pub kept : held.fault ≡ fault
  pub stands : MatchOption fault (IsPartial held.started held.rest) (HasFault held.started held.rest)
