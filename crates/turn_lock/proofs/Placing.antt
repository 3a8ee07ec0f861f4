-- The words of places change, and nothing that a pass knows.
use Rattle.std.proofs.Common.{◌≡◌, ℕ, ◌≤◌, List, get_or, set, refl, sym, subst}
use mathlib.Core.Option.{none}
use Rattle.atomic_table.specs.Table.{State, Me, step, stepped, keeps, Allows}
use Rattle.atomic_table.proofs.Lists.{set_again}
use Rattle.turn_lock.specs.declared.view.View.{View}
use Rattle.turn_lock.specs.Tickets.{IsOrderly}
use Rattle.turn_lock.specs.Steps.{marked}
use Rattle.turn_lock.proofs.Orderly.{placed_words}

module _ {K E : Type 0} (entries : K → List E) (key : E → ℕ) (start : List E) where
  abbrev Rule : State K (View E) → Type 0
  Rule = IsOrderly entries key start

  -- a word after the first two may become anything
  pub marks : (slots id : ℕ) (me : Me K (View E)) (place first : ℕ) (f : ℕ → ℕ) → 2 ≤ place → Allows Rule slots id me place f (marked (step slots place first 0 none) me)
  marks slots id me place first f from s r _ at _ = let v : View E = me.0 in let n : ℕ = f (get_or s.words place 0) in let words = placed_words s.words place n _ _ r.others from r.words in (
    v,
    keeps,
    tt,
    subst (λ (vs : List (View E)). Rule record { words = set s.words place n; homes = s.homes; views = vs }) (sym (set_again s.views id v at)) record {
      next = r.next;
      served = r.served;
      added = r.added;
      others = words.0;
      words = words.1;
      views = r.views;
      tickets = r.tickets;
      waiting = r.waiting;
      slot = r.slot;
      stands = r.stands;
      parts = r.parts;
      owners = r.owners;
      apart = r.apart;
    },
    refl,
  )
