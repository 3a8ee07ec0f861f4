-- Chains, and marks that are closed under what precedes.
use Rattle.std.proofs.Common.{ℕ, ◌<◌, List, [], ◌∷◌, ◌++◌, Bool, length, inl, inr, ◌⊎◌}
use Rattle.graph_base.specs.Chain.{IsChain, Chained}
use Rattle.order_witness.specs.Marks.{IsMarked}
use Rattle.history_core.specs.declared.event.Event.{Event}
use Rattle.history_core.specs.Relations.{Precedes}
use Rattle.saturation.specs.Views.{IsPastOf}

pub chain_mapped :
    (R S : ℕ → ℕ → Type 0) → ((a b : ℕ) → R a b → S a b) → (a : ℕ) (between : List ℕ) (b : ℕ) → IsChain R a between b → IsChain S a between b
chain_mapped R S on a [] b link = on a b link
chain_mapped R S on a (m ∷ between) b (link, rest) = (on a m link, chain_mapped R S on m between b rest)

-- one more link at the end
pub chain_end : (R : ℕ → ℕ → Type 0) (a : ℕ) (between : List ℕ) (b c : ℕ) → IsChain R a between b → R b c → IsChain R a (between ++ b ∷ []) c
chain_end R a [] b c link last = (link, last)
chain_end R a (m ∷ between) b c (link, rest) last = (link, chain_end R m between b c rest last)

-- one more link at the front
pub chained_first : (R : ℕ → ℕ → Type 0) (a b c : ℕ) → R a b → Chained R b c → Chained R a c
chained_first R a b c link chain = record { between = b ∷ chain.between; is = (link, chain.is) }

pub chained_one : (R : ℕ → ℕ → Type 0) (a b : ℕ) → R a b → Chained R a b
chained_one R a b link = record { between = []; is = link }

-- a chain to the reader begins at a mark, where each of its links is one of the history or begins at a mark of the start
pub marked_from_chain :
    (events : List Event) (R : ℕ → ℕ → Type 0) (reader : ℕ) (start marks : List Bool) → IsPastOf events start marks →
    ((a : ℕ) → R a reader → IsMarked start a) → ((a b : ℕ) → R a b → Precedes events a b ⊎ IsMarked start a) → ((a b : ℕ) → R a b → a < length marks) →
    (a : ℕ) (between : List ℕ) → IsChain R a between reader → IsMarked marks a
marked_from_chain events R reader start marks past first step bounded a [] link = past.kept a (first a link)
marked_from_chain events R reader start marks past first step bounded a (m ∷ between) (link, rest) =
    let on : IsMarked marks m = marked_from_chain events R reader start marks past first step bounded m between rest in
    elim (step a m link) [
      | inl precedes ↦ past.closed a m (bounded a m link) precedes on
      | inr begins ↦ past.kept a begins
    ]

-- and each mark begins a chain
pub chain_from_marked :
    (events : List Event) (R : ℕ → ℕ → Type 0) (reader : ℕ) (start marks : List Bool) → IsPastOf events start marks →
    ((a b : ℕ) → Precedes events a b → R a b) → ((a : ℕ) → IsMarked start a → R a reader) → (a : ℕ) → IsMarked marks a → Chained R a reader
chain_from_marked events R reader start marks past on first a marked =
    elim (past.sound a marked) [
      | inl begins ↦ chained_one R a reader (first a begins)
      | inr leads ↦
          let chain = leads.2 in
          record {
            between = chain.between ++ leads.0 ∷ [];
            is = chain_end R a chain.between leads.0 reader (chain_mapped (Precedes events) R on a chain.between leads.0 chain.is) (first leads.0 leads.1);
          }
    ]
