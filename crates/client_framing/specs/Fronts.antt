-- A stream of a client's messages: the messages that stand in it, what is left after them, and what is wrong there.
use Rattle.std.specs.Prelude.{◌≡◌, ℕ, ◌+◌, ◌-◌, ◌≤◌, ◌<◌, List, [], ◌∷◌, ◌++◌, length, take, drop, slice_index, Bool, true, false, Option, None, Some}
use Rattle.client_framing.specs.declared.frontend_message.FrontendMessage.{FrontendMessage}
use Rattle.client_framing.specs.declared.frontend_message.FrontendMessage.TheVariants.{Query}
use Rattle.client_framing.specs.declared.frontend_message.FrameFault.{FrameFault}
use Rattle.client_framing.specs.declared.frontend_message.FrameFault.TheVariants.{BadLength, BadStartup, TooLong, UnknownType, NoTerminator, Memory}
use Rattle.client_framing.specs.Spelling.{number_of, type_of, IsBody, IsSpelling, phase_after}

-- what a reader of messages holds
pub record Held : Type 0 where
  pub started : Bool
  pub rest : List ℕ
  pub fault : Option FrameFault

-- one message comes off the front
pub record TakesFront (started : Bool) (bytes : List ℕ) (front : FrontendMessage) (more : List ℕ) : Type 0 where
  pub taken : List ℕ
  pub spelled : IsSpelling started front taken
  pub whole : bytes ≡ taken ++ more

-- no message of this phase stands at the front
abbrev pub HasNoFront : Bool → List ℕ → Type 0
HasNoFront started bytes = (front : FrontendMessage) (more : List ℕ) → TakesFront started bytes front more → ⊥

-- the number that the four bytes at this place are
abbrev pub number_at : ℕ → List ℕ → ℕ
number_at place bytes = number_of (take 4 (drop place bytes))

-- before the startup: a length and a code are held, and the length is good
pub record HasCode (bytes : List ℕ) : Type 0 where
  pub held : 8 ≤ length bytes
  pub low : 8 ≤ number_at 0 bytes
  pub high : number_at 0 bytes ≤ 10000

-- however the bytes go on, no message will stand at their front
abbrev pub CannotOpen : List ℕ → Type 0
CannotOpen bytes = (more : List ℕ) → HasNoFront false (bytes ++ more)

-- a message has this type byte
pub record IsType (kind : ℕ) : Type 0 where
  pub front : FrontendMessage
  pub kind_is : type_of front ≡ Some kind

-- a message of this type byte can have this length
pub record CanHaveLength (kind len : ℕ) : Type 0 where
  pub front : FrontendMessage
  pub body : List ℕ
  pub kind_is : type_of front ≡ Some kind
  pub body_is : IsBody front body
  pub length_is : 4 + length body ≡ len

-- after the startup: a type byte and a length are held
pub record HasLength (bytes : List ℕ) (len : ℕ) : Type 0 where
  pub held : 5 ≤ length bytes
  pub known : IsType (slice_index bytes 0)
  pub length_is : number_at 1 bytes ≡ len

-- a query of a good length is held whole
pub record HasQuery (bytes : List ℕ) : Type 0 where
  pub kind_is : slice_index bytes 0 ≡ 81
  pub low : 5 ≤ number_at 1 bytes
  pub high : number_at 1 bytes ≤ 1048576
  pub whole : 1 + number_at 1 bytes ≤ length bytes

-- what stands after the length of a message that is held whole
abbrev pub body_at_front : List ℕ → List ℕ
body_at_front bytes = take (number_at 1 bytes - 4) (drop 5 bytes)

-- the bytes are no text that its only zero byte ends
abbrev pub IsNoText : List ℕ → Type 0
IsNoText body = (text : List ℕ) → IsBody (Query text) body → ⊥

-- this fault stands at the front, however the bytes go on
abbrev pub HasFault : Bool → List ℕ → FrameFault → Type 0
HasFault false bytes (BadLength len) = (4 ≤ length bytes) × (number_at 0 bytes ≡ len) × (len < 8)
HasFault false bytes (TooLong len) = (4 ≤ length bytes) × (number_at 0 bytes ≡ len) × (10000 < len)
HasFault false bytes BadStartup = HasCode bytes × CannotOpen bytes
HasFault false bytes (UnknownType kind) = ⊥
HasFault false bytes NoTerminator = ⊥
HasFault false bytes Memory = ⊥
HasFault true bytes (UnknownType kind) = (0 < length bytes) × (slice_index bytes 0 ≡ kind) × (¬ (IsType kind))
HasFault true bytes (BadLength len) = HasLength bytes len × (¬ (CanHaveLength (slice_index bytes 0) len))
HasFault true bytes (TooLong len) = HasLength bytes len × CanHaveLength (slice_index bytes 0) len × (1048576 < len)
HasFault true bytes NoTerminator = HasQuery bytes × IsNoText (body_at_front bytes)
HasFault true bytes BadStartup = ⊥
HasFault true bytes Memory = ⊥

-- neither a message nor a fault stands at the front
pub record IsPartial (started : Bool) (bytes : List ℕ) : Type 0 where
  pub no_front : HasNoFront started bytes
  pub no_fault : (fault : FrameFault) → HasFault started bytes fault → ⊥

-- a stream as it is read: messages, and then less than a whole one, or a fault, or what nobody has looked at
pub data Stream : Type 0 where
  message : FrontendMessage → Stream → Stream
  partial : List ℕ → Stream
  faulty : FrameFault → Stream
  unread : Stream

-- the bytes, in this phase, are that stream
abbrev pub IsStream : Bool → List ℕ → Stream → Type 0
IsStream started bytes (message front stream) = (more : List ℕ) × TakesFront started bytes front more × IsStream (phase_after started front) more stream
IsStream started bytes (partial rest) = (rest ≡ bytes) × IsPartial started bytes
IsStream started bytes (faulty fault) = HasFault started bytes fault
IsStream started bytes unread = Unit {0}

-- the stream is read to its end or to its fault
abbrev pub IsRead : Stream → Type 0
IsRead (message front stream) = IsRead stream
IsRead (partial rest) = Unit {0}
IsRead (faulty fault) = Unit {0}
IsRead unread = ⊥

-- the messages, and after them the stream
abbrev pub grafted : List FrontendMessage → Stream → Stream
grafted [] stream = stream
grafted (front ∷ fronts) stream = message front (grafted fronts stream)

-- the phase after the messages
abbrev pub phase_following : Bool → List FrontendMessage → Bool
phase_following started [] = started
phase_following started (front ∷ fronts) = phase_following (phase_after started front) fronts

-- the messages come off the front of the bytes one after another, and this is left after them
abbrev pub TakesFronts : Bool → List ℕ → List FrontendMessage → List ℕ → Type 0
TakesFronts started bytes [] rest = bytes ≡ rest
TakesFronts started bytes (front ∷ fronts) rest = (more : List ℕ) × TakesFront started bytes front more × TakesFronts (phase_after started front) more fronts rest

-- how a stream ends with this rest and this fault
abbrev pub end_of : List ℕ → Option FrameFault → Stream
end_of rest None = partial rest
end_of rest (Some fault) = faulty fault
