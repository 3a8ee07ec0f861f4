-- A client that says all that it has to say is answered, message by message.
use Rattle.std.proofs.Common.{inl, inr, ℕ, List, sym, subst}
use Rattle.block_machine.specs.declared.end.End.{End}
use Rattle.block_machine.specs.declared.end.End.TheVariants as ends
use Rattle.session_laws.specs.Streams.{IsLast}
use Rattle.session_laws.specs.Conversations.{IsClientsEnd, ServedMessagesAreAnswered}
use Rattle.session_laws.proofs.Complete.{complete}
use Rattle.session_laws.proofs.Conversing.{converses}

-- the end of a whole stream is one of a client's
clients_end : (end : End) (rest : List ℕ) → IsLast end rest → IsClientsEnd end
clients_end ends.Terminated rest is = tt
clients_end ends.Closed rest is = tt
clients_end _ rest is = absurd is

pub answered : {W : Type 0} → (gives : W → ℕ → W → Type 0) → ServedMessagesAreAnswered gives
answered {W} gives level before outcome after account end bytes s w u =
    let all = complete gives level before outcome after account s end bytes w u in (
      all.0,
      elim all.1 [
        | inl well ↦ inl (
          well.0,
          well.1,
          converses level s.requests account.entries _ outcome.end s.told_is (subst (λ (e : End). IsClientsEnd e) (sym well.0) (clients_end end w.rest w.last)),
        )
        | inr other ↦ inr other
      ],
    )
