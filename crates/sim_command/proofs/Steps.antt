-- A step of a hall is a step of a run.
use Rattle.std.proofs.Common.{◌≡◌, ◌≢◌, ℕ, zero, suc, ◌<◌, List, [], ◌∷◌, length, refl, sym, ◌∙◌, ap, subst, All, Option, Some, Ok, arith}
use Rattle.std.specs.List.{slice_get}
use Rattle.cell_base.specs.declared.level.Level.{Level}
use Rattle.history_core.specs.Events.{session_in}
use Rattle.session_core.specs.Told.{opened_in}
use Rattle.session_core.specs.Record.{events_of}
use Rattle.session_core.specs.Serve.{Account}
use Rattle.session_hall.specs.declared.client.Client.{Client}
use Rattle.session_hall.specs.declared.client.Stepped.{Stepped}
use Rattle.session_hall.specs.declared.hall.Hall.{Hall}
use Rattle.session_hall.specs.Accounts.{Grew, KeepsNumber}
use Rattle.session_hall.specs.Halls.{StandsFor, IsStep, with_account, clients_of}
use Rattle.session_hall.proofs.Stepping.{with_same, with_other}
use Rattle.sim_command.specs.Runs.{Moment, Pick, Moves}
use Rattle.sim_command.specs.Playing.{StandsAt}

-- what stands at a place within a list
found : {A : Type 0} → (xs : List A) (k : ℕ) → k < length xs → (x : A) × (slice_get xs k ≡ Some x)
found [] k small = absurd (omega (arith, small))
found (x ∷ xs) zero small = (x, refl)
found (x ∷ xs) (suc k) small = found xs k (omega (arith, small))

-- the moment after a step, and how the run came to it
pub record Moved (level : Level) (clients : List Client) (pick : Pick) (before : Moment) (hall : Hall) : Type 0 where
  pub after : Moment
  pub moves : Moves level clients pick before after
  pub stands : StandsAt level clients after hall

pub step_moves :
    (level : Level) (clients : List Client) (before : Moment) (client : ℕ) (stepped : Stepped) (hall : Hall) → client < length clients →
    IsStep clients before.accounts before.history client (Ok stepped) level hall →
    Moved level clients (record { client = client; stepped = stepped }) before hall
step_moves level clients before client stepped hall small step =
    let accounts = with_account before.accounts client step.after in
    let same : accounts client ≡ step.after = with_same before.accounts client step.after client refl in
    let one = found clients client small in
    let seated = step.stands.each client one.0 step.seat one.1 step.seated in
    let g = step.grew in
    record {
      after = record { history = step.now; accounts = accounts };
      moves = record {
        client = one.0;
        is = one.1;
        many = step.many;
        grew = record {
          heard = g.heard;
          asked = g.asked;
          added = g.added;
          said = g.said;
          taken = ap (λ (a : Account). a.taken) same ∙ g.taken;
          calls = ap (λ (a : Account). a.calls) same ∙ g.calls;
          count = g.count;
          entries = ap (λ (a : Account). a.entries) same ∙ g.entries;
          sent = ap (λ (a : Account). a.sent) same ∙ g.sent;
          comes = g.comes;
          few = g.few;
          own = subst (λ (a : Account). All (λ e. opened_in a.entries ≡ Some (session_in e)) (events_of g.added)) (sym same) g.own;
          number = subst (λ (a : Account). KeepsNumber (opened_in (before.accounts client).entries) before.history (opened_in a.entries)) (sym same) g.number;
        };
        others = λ k apart. with_other before.accounts client step.after k apart;
        legal = step.stands.legal;
        end = step.seat.end;
        served = seated.served;
        answer = step.answer;
      };
      stands = step.stands;
    }

-- as many clients as seats
pub within : (level : Level) (clients : List Client) (moment : Moment) (hall : Hall) (client : ℕ) → StandsAt level clients moment hall →
    client < clients_of hall → client < length clients
within level clients moment hall client stands small = let same = stands.count in omega (arith, same, small)
