-- What a seat shows of its client.
use Rattle.std.proofs.Common.{◌≡◌, ◌≢◌, ℕ, List, [], ◌++◌, get_or, refl, sym, ◌∙◌, ap, subst, Option, Some, None, inl, inr, false}
use Rattle.std.specs.Prelude.{◌⊎◌, drop}
use Rattle.std.proofs.lemmas.List.{take-append-drop}
use Rattle.cell_base.specs.declared.level.Level.{Level}
use Rattle.choice_stream.specs.Choices.{DrawsFirst}
use Rattle.history_core.specs.Chronicle.{Chronicle}
use Rattle.history_book.specs.Book.{no_session}
use Rattle.block_machine.specs.Calls.{Call}
use Rattle.block_machine.specs.Calls as calls
use Rattle.block_machine.specs.Script.{Entry, did, refused, short, unsent, stop, Next, more, call, ended}
use Rattle.block_machine.specs.Runners.{wanted}
use Rattle.block_machine.specs.declared.end.End.{End}
use Rattle.block_machine.specs.declared.end.End.TheVariants as ends
use Rattle.block_machine.specs.declared.message_runner.MessageRunner.{MessageRunner}
use Rattle.session_core.specs.declared.stage.Finish.{Finish}
use Rattle.session_core.specs.declared.session.Session.{Session}
use Rattle.session_core.specs.declared.stage.SessionStage.{SessionStage}
use Rattle.session_core.specs.declared.stage.SessionStage.TheVariants as stages
use Rattle.session_core.specs.Ends.{LacksBy, outer_end}
use Rattle.session_core.specs.Told.{told}
use Rattle.session_core.specs.Requests.{Requests, AreRequests}
use Rattle.session_core.specs.Record.{events_of}
use Rattle.session_core.specs.Wants.{Want, of_message, IsOver}
use Rattle.session_core.specs.Wants as wishes
use Rattle.session_core.specs.Stands.{Lacks, Shows, end_of, outer, wants}
use Rattle.session_core.specs.Serve.{Account}
use Rattle.session_core.proofs.Serving.{away_over}
use Rattle.session_core.proofs.ValidRecords.{own_events}
use Rattle.valid_writes.specs.Beginnings.{no_past}
use Rattle.session_hall.specs.declared.client.Client.{Client}
use Rattle.session_hall.specs.declared.seat.Seat.{Seat}
use Rattle.session_hall.specs.Clients.{HasEnd, IsShown, HasCause, IsServed}
use Rattle.session_hall.specs.Seats.{IsFrom, Attends, IsResting, ShowsEnd, TellsAll, shown_for}

-- ---- the end that is shown

shown_end : (e x : End) → x ≡ shown_for e → IsShown (Some x) (ended e)
shown_end ends.WriteFault x is = inr (is, refl)
shown_end _ x is = inl (ap ended (sym is), λ fault. cc (sym is ∙ fault))

-- what is told comes to what the want says
pub record Tells (level : Level) (a : Account) (end : Option End) : Type 0 where
  pub requests : Requests
  pub requests_are : AreRequests false a.taken requests
  pub next : Next
  pub told_is : told level requests a.entries ≡ (record { bytes = a.sent; calls = a.calls }, next)
  pub shown : IsShown end next

tells_by : (level : Level) (a : Account) (end : Option End) (want : Want) → ShowsEnd end want → Shows level want a.taken a.entries a.calls a.sent →
    Tells level a end
tells_by level a None wishes.Bytes shows (requests, are, is) =
    record { requests = requests; requests_are = are; next = more; told_is = is; shown = inl refl }
tells_by level a None (wishes.Book c) shows (requests, are, is) =
    record { requests = requests; requests_are = are; next = call c; told_is = is; shown = inr (c, refl) }
tells_by level a None wishes.Message shows t = absurd shows
tells_by level a None wishes.Send shows t = absurd shows
tells_by level a None (wishes.Ended e) shows t = absurd shows
tells_by level a (Some x) wishes.Bytes shows t = absurd (cc shows.1)
tells_by level a (Some x) (wishes.Book c) shows t = absurd (cc shows.1)
tells_by level a (Some x) wishes.Message shows t = absurd (cc shows.1)
tells_by level a (Some x) wishes.Send shows t = absurd (cc shows.1)
tells_by level a (Some x) (wishes.Ended e) shows (requests, are, is) =
    let same : shows.0 ≡ e = cc (sym shows.1) in
    record { requests = requests; requests_are = are; next = ended e; told_is = is; shown = shown_end e x (shows.2 ∙ ap shown_for same) }

-- ---- what an end says

message_over : (w : calls.MessageWant) (e : End) → of_message w ≡ wishes.Ended e → ⊥
message_over (calls.Book c) e w = cc w
message_over calls.Send e w = cc w
message_over calls.Nothing e w = cc w

stage_over : (stage : SessionStage) (r : MessageRunner) (e : End) → wants stage r ≡ wishes.Ended e →
    (finish : Finish) × (stage ≡ stages.Ended finish) × (end_of finish ≡ e)
stage_over (stages.Ended finish) r e w = (finish, refl, cc w)
stage_over stages.Running r e w = absurd (message_over (wanted r) e w)
stage_over _ r e w = absurd (cc w)

by_end : (e : End) (lost : List ℕ) → LacksBy e lost → (lost ≡ []) ⊎ (shown_for e ≡ ends.Memory)
by_end ends.WriteFault lost lacks = inr refl
by_end _ lost lacks = inl lacks

lost_resting : (e : End) (lost : List ℕ) → outer_end e ≢ Some ends.WriteFault → LacksBy e lost → lost ≡ []
lost_resting ends.WriteFault lost resting lacks = absurd (resting refl)
lost_resting _ lost resting lacks = lacks

lacks_resting : (stage : SessionStage) (lost : List ℕ) → outer stage ≢ Some ends.WriteFault → Lacks stage lost → lost ≡ []
lacks_resting (stages.Leaving finish) lost resting lacks = lost_resting (end_of finish) lost resting lacks
lacks_resting (stages.Closing finish) lost resting lacks = lost_resting (end_of finish) lost resting lacks
lacks_resting (stages.Ended finish) lost resting lacks = lost_resting (end_of finish) lost resting lacks
lacks_resting _ lost resting lacks = lacks

fault_end : (e : End) → outer_end e ≡ Some ends.WriteFault → shown_for e ≡ ends.Memory
fault_end ends.WriteFault is = refl
fault_end _ is = absurd (cc is)

-- a failed write is shown as a lack of memory
pub fault_shown : (end : Option End) (s : Session) → ShowsEnd end (wants s.stage s.runner) → (end ≡ None → outer s.stage ≢ Some ends.WriteFault) →
    outer s.stage ≡ Some ends.WriteFault → end ≡ Some ends.Memory
fault_shown None s shows resting fault = absurd (resting refl fault)
fault_shown (Some x) s (e, w, is) resting fault =
    let (finish, stage, same) = stage_over s.stage s.runner e w in
    ap (λ (y : End). Some y)
    (is ∙ fault_end e (sym (ap outer_end same) ∙ sym (ap outer stage) ∙ fault))

lost_shown : (end : Option End) (s : Session) (lost : List ℕ) → ShowsEnd end (wants s.stage s.runner) →
    (end ≡ None → outer s.stage ≢ Some ends.WriteFault) → Lacks s.stage lost → (lost ≡ []) ⊎ (end ≡ Some ends.Memory)
lost_shown None s lost shows resting lacks = inl (lacks_resting s.stage lost (resting refl) lacks)
lost_shown (Some x) s lost (e, w, is) resting lacks =
    let (finish, stage, same) = stage_over s.stage s.runner e w in
    elim (by_end e lost (subst (λ (y : End). LacksBy y lost) same (subst (λ (y : SessionStage). Lacks y lost) stage lacks))) [
      | inl none ↦ inl none
      | inr shown ↦ inr (ap (λ (y : End). Some y) (is ∙ shown))
    ]

cause_shown : (stream taken : List ℕ) (laid end : Option End) (x : Entry) → (laid ≡ Some ends.WriteFault → end ≡ Some ends.Memory) →
    IsFrom stream taken laid x → HasCause stream taken end x
cause_shown stream taken laid end (stop cause) fault is = is
cause_shown stream taken laid end (unsent n) fault is = fault is
cause_shown stream taken laid end (did a e) fault is = tt
cause_shown stream taken laid end (refused why) fault is = tt
cause_shown stream taken laid end (short final n) fault is = tt

over_of : (end : Option End) (want : Want) → ShowsEnd end want → HasEnd end → IsOver want
over_of None want shows some = absurd some
over_of (Some x) want (e, w, is) some = subst IsOver (sym w) tt

-- an ended session has left its book
pub left_of : (level : Level) (history : Chronicle) (client : Client) (a : Account) (s : Seat) (attends : Attends level history client a s) →
    ShowsEnd s.end (wants s.session.stage s.session.runner) → HasEnd s.end → attends.follows.past.state ≡ no_session
left_of level history client a s attends shows some =
    away_over s.session attends.follows.past (over_of s.end (wants s.session.stage s.session.runner) shows some) attends.follows.sits

-- the events of the record are those of the session
pub own_of : (level : Level) (history : Chronicle) (client : Client) (a : Account) (s : Seat) (attends : Attends level history client a s) →
    attends.follows.past.own ≡ events_of a.entries
own_of level history client a s attends =
    own_events DrawsFirst (no_past level) client.words.items a.calls a.entries attends.follows.past s.words attends.follows.valid

pub serves_of : (level : Level) (history : Chronicle) (client : Client) (a : Account) (s : Seat) → Attends level history client a s →
    ShowsEnd s.end (wants s.session.stage s.session.runner) → (s.end ≡ None → IsResting s) → TellsAll s.session →
    IsServed level history client s.end a
serves_of level history client a s attends shows resting tells =
    let f = attends.follows in
    let said : Tells level a s.end = tells_by level a s.end (wants s.session.stage s.session.runner) shows
    (subst (λ (l : Level). Shows l (wants s.session.stage s.session.runner) a.taken a.entries a.calls a.sent) f.served_level
    (tells a.taken a.entries a.calls a.sent f.stands)) in
    record {
      rest = drop s.at client.stream.items;
      stream_is = sym (take-append-drop s.at client.stream.items)
          ∙ ap (λ (x : List ℕ). x ++ drop s.at client.stream.items) (sym attends.carries.taken);
      requests = said.requests;
      requests_are = said.requests_are;
      next = said.next;
      told_is = said.told_is;
      shown = said.shown;
      past = f.past;
      words = s.words;
      valid = f.valid;
      goes_on = f.lives.goes_on;
      left_book = left_of level history client a s attends shows;
      own = f.lives.own ∙ own_of level history client a s attends;
      causes = λ k d within. cause_shown client.stream.items a.taken (outer s.session.stage) s.end (get_or a.entries k d)
          (fault_shown s.end s.session shows resting) (attends.carries.causes k d within);
      lost_is = lost_shown s.end s.session a.lost shows resting attends.carries.lacks;
      last = attends.carries.last;
    }

-- the same on a history to which others have added
pub serves_on : (level : Level) (old new : Chronicle) (client : Client) (a : Account) (s : Seat) → Attends level new client a s →
    ShowsEnd s.end (wants s.session.stage s.session.runner) → IsServed level old client s.end a → IsServed level new client s.end a
serves_on level old new client a s attends shows served = record {
  rest = served.rest;
  stream_is = served.stream_is;
  requests = served.requests;
  requests_are = served.requests_are;
  next = served.next;
  told_is = served.told_is;
  shown = served.shown;
  past = attends.follows.past;
  words = s.words;
  valid = attends.follows.valid;
  goes_on = attends.follows.lives.goes_on;
  left_book = left_of level new client a s attends shows;
  own = attends.follows.lives.own ∙ own_of level new client a s attends;
  causes = served.causes;
  lost_is = served.lost_is;
  last = served.last;
}
