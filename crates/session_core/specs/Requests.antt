-- What a client says: its messages, each as what it asks for.
use Rattle.std.specs.Prelude.{◌≡◌, ℕ, List, Bool}
use Rattle.client_framing.specs.declared.frontend_message.FrontendMessage.{FrontendMessage}
use Rattle.client_framing.specs.declared.frontend_message.FrontendMessage.TheVariants.{Ssl, Gss, Cancel, Startup, Version, Query, Terminate, Sync, Flush, Extended, FunctionCall, Copy}
use Rattle.client_framing.specs.declared.frontend_message.FrameFault.{FrameFault}
use Rattle.client_framing.specs.Spelling.{phase_after}
use Rattle.client_framing.specs.Fronts.{TakesFront, IsPartial, HasFault}
use Rattle.block_machine.specs.declared.message.Message.{Message}
use Rattle.block_machine.specs.Messages.{IsMessage}
use Rattle.session_core.specs.Users.{HasUser}

-- what a message asks for
pub data Request : Type 0 where
  -- a request for encryption, of either kind
  encryption : Request
  -- a cancel request
  cancel : Request
  -- a startup that names a user
  start : Request
  -- a startup that names none
  userless : Request
  -- a startup of another version
  version : Request
  query : Message → Request
  -- a query that nobody reads: it is discarded, or memory runs out
  unread_query : Request
  terminate : Request
  sync : Request
  -- nothing: a Flush, or a message of a copy
  nothing : Request
  -- a step of the extended query
  extended : Request
  -- a function call
  function : Request

abbrev pub Says : FrontendMessage → Request → Type 0
Says Ssl encryption = Unit {0}
Says Gss encryption = Unit {0}
Says (Cancel pid secret) cancel = Unit {0}
Says (Startup pairs) start = HasUser pairs
Says (Startup pairs) userless = ¬ (HasUser pairs)
Says (Version code) version = Unit {0}
Says (Query text) (query message) = IsMessage text message
Says (Query text) unread_query = Unit {0}
Says Terminate terminate = Unit {0}
Says Sync sync = Unit {0}
Says Flush nothing = Unit {0}
Says (Copy part) nothing = Unit {0}
Says (Extended step) extended = Unit {0}
Says FunctionCall function = Unit {0}
Says _ _ = ⊥

-- a stream as a session hears it: what is asked for, message after message, and then bytes that are no whole message, or a
-- fault, or what nobody has looked at
pub data Requests : Type 0 where
  asks : Request → Requests → Requests
  partial : List ℕ → Requests
  faulty : FrameFault → Requests
  unread : Requests

-- the bytes, before the startup or after it, are these requests
abbrev pub AreRequests : Bool → List ℕ → Requests → Type 0
AreRequests started bytes (asks ask requests) =
    (front : FrontendMessage) × (more : List ℕ) × TakesFront started bytes front more × Says front ask × AreRequests (phase_after started front) more requests
AreRequests started bytes (partial rest) = (rest ≡ bytes) × IsPartial started bytes
AreRequests started bytes (faulty fault) = HasFault started bytes fault
AreRequests started bytes unread = Unit {0}
