-- A session over a link that tells its bytes and counts no fault, whose client says all that it has to say, is complete.
use Rattle.std.proofs.Common.{◌≡◌, inl, inr, ℕ, ◌<◌, List, [], ◌∷◌, ◌++◌, length, Option, Some, None, refl, sym, ◌∙◌, ap, subst, arith}
use Rattle.std.proofs.lemmas.List.{append-nil, length-append}
use Rattle.std.proofs.lemmas.Option.{none-some}
use Rattle.cell_base.specs.declared.level.Level.{Level}
use Rattle.cell_base.specs.declared.sql_state.SqlState.TheVariants as states
use Rattle.link_traits.specs.Faults.{Rose}
use Rattle.link_traits.specs.Traffic.{Traffic, Both, Sight}
use Rattle.client_framing.specs.declared.frontend_message.FrontendMessage.{FrontendMessage}
use Rattle.client_framing.specs.declared.frontend_message.FrontendMessage.TheVariants.{Startup}
use Rattle.history_book.specs.Book.{Past}
use Rattle.block_machine.specs.Calls.{Call}
use Rattle.block_machine.specs.Calls as calls
use Rattle.block_machine.specs.Script.{Entry, ended}
use Rattle.block_machine.specs.declared.end.End.{End}
use Rattle.block_machine.specs.declared.end.End.TheVariants as ends
use Rattle.session_core.specs.declared.served.Served.{Served}
use Rattle.session_core.specs.Ends.{LacksBy, outer_end}
use Rattle.session_core.specs.Requests.{Requests}
use Rattle.session_core.specs.Record.{IsValidRecord, limit_for}
use Rattle.session_core.specs.Told.{told}
use Rattle.session_core.specs.Serve.{most_read, Scene, Account, Serves, Carries, IsAtEnd, Blames}
use Rattle.session_laws.specs.Causes.{EndsBy}
use Rattle.session_laws.proofs.SessionsEnd.{told_ends}
use Rattle.session_laws.specs.Sessions.{IsTurnedAway, EndsAsSaid, IsComplete}
use Rattle.session_laws.proofs.Following.{Follows, stream_follows}
use Rattle.session_laws.proofs.Hearing.{never_cancelled, never_userless, never_of_version, never_faulty, never_inside, closed_so, terminated_so}
use Rattle.session_laws.proofs.TurnedAway.{IsFullOpening, refuses_it, answers_so, told_turned}

-- ---- what went over the link

some_same : (old new : Traffic) → Some old ≡ Some new → old ≡ new
some_same old new is = cc

-- a link that told its bytes before tells them after
carried : (R : Traffic → Traffic → Type 0) → (before after : Option Traffic) (old : Traffic) → before ≡ Some old → Both R before after →
    (new : Traffic) × (after ≡ Some new) × R old new
carried R None after old is both = absurd (none-some old is)
carried R (Some t) None old is both = absurd both
carried R (Some t) (Some new) old is both = (new, refl, subst (λ (x : Traffic). R x new) (some_same t old is) both)

-- all was written, where nothing is lost
written_whole : (level : Level) (account : Account) → account.lost ≡ [] → (before after : Option Traffic) → Both (Carries level account) before after →
    Both (λ old new. new.written ≡ old.written ++ account.sent) before after
written_whole level account none None None both = tt
written_whole level account none None (Some new) both = both
written_whole level account none (Some old) None both = both
written_whole level account none (Some old) (Some new) both =
    sym (append-nil new.written) ∙ (ap (λ (x : List ℕ). new.written ++ x) (sym none) ∙ both.written_is)

-- ---- a session that was turned away

turned_away : {W : Type 0} → (gives : W → ℕ → W → Type 0) (account : Account) (before after : Past) (words left : W) → IsFullOpening account.entries →
    account.calls ≡ calls.Open ∷ [] → IsValidRecord gives before words account.calls account.entries after left → IsTurnedAway after account
turned_away {W} gives account before after words left opening calls_are valid =
    go account.entries refl opening (subst (λ (x : List Call). IsValidRecord gives before words x account.entries after left) calls_are valid)
  where
    go : (entries : List Entry) → account.entries ≡ entries → IsFullOpening entries → IsValidRecord gives before words (calls.Open ∷ []) entries after left →
        IsTurnedAway after account
    go _ same (refuses_it limit) valid = record {
      limit = limit;
      full = subst (λ (x : Past). limit_for x calls.Open ≡ Some limit) (sym valid.4.0) valid.2.2;
      calls = calls_are;
      entries = same;
    }
    go _ same (answers_so limit event) valid = absurd valid.2

-- ---- by the end

-- what is known of such a session, but for its end
record Known (level : Level) (end : End) (fronts : List FrontendMessage) (bytes : List ℕ) (before after : Sight) (account : Account) (requests : Requests)
    (past : Past) : Type 0 where
  left : List ℕ
  whole : account.taken ++ left ≡ bytes
  follows : Follows end left fronts requests
  at_end : IsAtEnd after.traffic → left ≡ []
  few : length bytes < most_read
  reads : ¬ (Rose before.read_faults after.read_faults)
  writes : ¬ (Rose before.write_faults after.write_faults)
  full : told level requests account.entries ≡ (record { bytes = account.sent; calls = account.calls }, ended (ends.Refused states.S54000)) → IsTurnedAway past account

-- the end, and that nothing is lost
abbrev EndsWhole : End → List FrontendMessage → End → Requests → Past → Account → Type 0
EndsWhole end fronts found requests past account = (account.lost ≡ []) × EndsAsSaid end fronts found requests past account

by_end : (level : Level) (end : End) (fronts : List FrontendMessage) (bytes : List ℕ) (before after : Sight) (account : Account) (requests : Requests) (past : Past) →
    Known level end fronts bytes before after account requests past → (found : End) → EndsBy found requests account.entries → LacksBy found account.lost →
    Blames (outer_end found) before after account.taken →
    told level requests account.entries ≡ (record { bytes = account.sent; calls = account.calls }, ended found) →
    EndsWhole end fronts found requests past account
by_end level end fronts bytes before after account requests past k ends.Terminated by lacks blames is =
    (lacks, inl (terminated_so end k.left fronts requests k.follows by))
by_end level end fronts bytes before after account requests past k ends.Closed by lacks blames is = (
  lacks,
  inl (closed_so end fronts requests (subst (λ (x : List ℕ). Follows end x fronts requests) (k.at_end blames.1) k.follows) by.0),
)
by_end level end fronts bytes before after account requests past k ends.Cut by lacks blames is =
    absurd (never_inside end fronts requests (subst (λ (x : List ℕ). Follows end x fronts requests) (k.at_end blames.1) k.follows) by.0)
by_end level end fronts bytes before after account requests past k ends.Cancelled by lacks blames is =
    absurd (never_cancelled end k.left fronts requests k.follows by)
by_end level end fronts bytes before after account requests past k (ends.Protocol fault) by lacks blames is =
    absurd (never_faulty fault end k.left fronts requests k.follows by)
by_end level end fronts bytes before after account requests past k (ends.Refused states.S28000) by lacks blames is =
    absurd (never_userless end k.left fronts requests k.follows by)
by_end level end fronts bytes before after account requests past k (ends.Refused states.S0A000) by lacks blames is =
    absurd (never_of_version end k.left fronts requests k.follows by)
by_end level end fronts bytes before after account requests past k (ends.Refused states.S54000) by lacks blames is =
    (lacks, inr (inr (refl, k.full is)))
by_end level end fronts bytes before after account requests past k (ends.Refused _) by lacks blames is = absurd by
by_end level end fronts bytes before after account requests past k ends.ReadFault by lacks blames is = absurd (k.reads blames.1)
by_end level end fronts bytes before after account requests past k ends.WriteFault by lacks blames is = absurd (k.writes blames)
by_end level end fronts bytes before after account requests past k ends.Spent by lacks blames is =
    absurd (omega (arith, k.few, blames, ap length k.whole, length-append account.taken k.left))
by_end level end fronts bytes before after account requests past k ends.Memory by lacks blames is = (lacks, inr (inl (refl, by)))

-- ---- the session

pub complete : {W : Type 0} → (gives : W → ℕ → W → Type 0) (level : Level) (before : Scene W) (outcome : Served) (after : Scene W) (account : Account)
    → (s : Serves gives level before outcome after account) → IsComplete gives level before outcome after account s
complete {W} gives level before outcome after account s end bytes w u =
    let went = carried (Carries level account) before.link.traffic after.link.traffic u.traffic u.told s.carries in
    let whole : account.taken ++ went.0.left ≡ bytes = sym went.2.left ∙ u.left in
    let known : Known level end (w.encryption ++ Startup w.pairs ∷ w.messages) bytes before.link after.link account s.requests after.past = record {
      left = went.0.left;
      whole = whole;
      follows = stream_follows end bytes account.taken went.0.left s.requests w whole s.requests_are;
      at_end = at_end after.link.traffic went.0 went.1;
      few = u.few;
      reads = u.reads;
      writes = u.writes;
      full = λ is.
          let turned = told_turned level s.requests account.entries (record { bytes = account.sent; calls = account.calls }) is in
          turned_away gives account before.past after.past before.words after.words turned.opening turned.calls_are s.valid;
    } in
    let so = by_end level end (w.encryption ++ Startup w.pairs ∷ w.messages) bytes before.link after.link account s.requests after.past known outcome.end
    (told_ends level s.requests account.entries _ outcome.end s.told_is) s.lacks s.blames s.told_is in
    (record { lost = so.0; written = written_whole level account so.0 before.link.traffic after.link.traffic s.carries }, so.1)
  where
    at_end : (traffic : Option Traffic) (new : Traffic) → traffic ≡ Some new → IsAtEnd traffic → new.left ≡ []
    at_end None new is end = absurd (none-some new is)
    at_end (Some t) new is end = subst (λ (x : Traffic). x.left ≡ []) (some_same t new is) end
