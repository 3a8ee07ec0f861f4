-- What the client of a setup says, as PostgreSQL's protocol chapter spells it.
use Rattle.std.specs.Prelude.{ℕ, List, [], ◌∷◌, codes, true, false}
use Rattle.client_framing.specs.declared.frontend_message.FrontendMessage.TheVariants.{Startup, Query, Terminate}
use Rattle.client_framing.specs.Spelling.{IsSpelling}
use Rattle.setup_client.specs.Client.{startup, query_message, terminate}

-- the parts of the client's bytes are these messages
pub record IsSpelled (text : List ℕ) : Type 0 where
  pub start : IsSpelling false (Startup ((codes "user", codes "setup") ∷ [])) startup
  pub query : IsSpelling true (Query text) (query_message text)
  pub end : IsSpelling true Terminate terminate
