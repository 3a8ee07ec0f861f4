-- The stream of a client that says all that it has to say, by the messages that stand in it.
use Rattle.std.specs.Prelude.{◌≡◌, ℕ, List, [], ◌∷◌, ◌++◌, true, false}
use Rattle.std.specs.List.{AllByRecursion}
use Rattle.client_framing.specs.declared.frontend_message.FrontendMessage.{FrontendMessage}
use Rattle.client_framing.specs.declared.frontend_message.FrontendMessage.TheVariants.{Ssl, Gss, Startup, Terminate}
use Rattle.client_framing.specs.Spelling.{Pair}
use Rattle.client_framing.specs.Fronts.{TakesFront, TakesFronts}
use Rattle.block_machine.specs.declared.end.End.{End}
use Rattle.block_machine.specs.declared.end.End.TheVariants as ends
use Rattle.session_core.specs.Users.{HasUser}

-- a request for encryption, of either kind
abbrev pub IsEncryptionRequest : FrontendMessage → Type 0
IsEncryptionRequest Ssl = Unit {0}
IsEncryptionRequest Gss = Unit {0}
IsEncryptionRequest _ = ⊥

-- any message but Terminate
abbrev pub IsNoTerminate : FrontendMessage → Type 0
IsNoTerminate Terminate = ⊥
IsNoTerminate _ = Unit {0}

-- What stands last in the stream, by the end that the client's session is to have: Terminate, whatever follows it; or nothing.
abbrev pub IsLast : End → List ℕ → Type 0
IsLast ends.Terminated rest = (more : List ℕ) × TakesFront true rest Terminate more
IsLast ends.Closed rest = rest ≡ []
IsLast _ rest = ⊥

-- The bytes are all that a client has to say whose session is to have this end: requests for encryption, if any; a startup that names a user;
-- any messages but Terminate; and then Terminate, or nothing more.
pub record IsWholeStream (end : End) (bytes : List ℕ) : Type 0 where
  pub encryption : List FrontendMessage
  pub pairs : List Pair
  pub messages : List FrontendMessage
  pub rest : List ℕ
  pub asks_encryption : AllByRecursion IsEncryptionRequest encryption
  pub names_user : HasUser pairs
  pub goes_on : AllByRecursion IsNoTerminate messages
  pub takes : TakesFronts false bytes (encryption ++ Startup pairs ∷ messages) rest
  pub last : IsLast end rest
