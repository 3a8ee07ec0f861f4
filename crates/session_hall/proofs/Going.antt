-- A seat goes from one history to another.
use Rattle.std.proofs.Common.{◌≡◌, ℕ, ◌+◌, refl, sym, ◌∙◌, subst, arith, Option, Some, Ok}
use Rattle.history_core.specs.Chronicle.{Chronicle, IsLegalChronicle}
use Rattle.block_machine.specs.Calls.{Call}
use Rattle.block_machine.specs.declared.end.End.{End}
use Rattle.block_machine.specs.declared.end.End.TheVariants as ends
use Rattle.session_core.specs.Wants.{Want, IsOver}
use Rattle.session_core.specs.Wants as wishes
use Rattle.session_core.specs.Stands.{outer, wants}
use Rattle.session_core.specs.declared.session.Session.{Session}
use Rattle.session_hall.specs.declared.client.Stepped.{Stepped}
use Rattle.session_hall.specs.declared.client.Stepped.TheVariants.{Called, Ended}
use Rattle.session_hall.specs.declared.seat.Seat.{Seat}
use Rattle.session_hall.specs.Seats.{Goes, Grows, GrowsAlone, IsAttending, IsCall, IsCallOrEnd, IsCount, IsGoing, IsSettled, ShowsBy, ShowsEnd}
use Rattle.session_hall.proofs.Serving.{fault_shown}
use Rattle.session_hall.proofs.Turning.{grows_then}

pub call_is : (w : Want) → IsCall w → (c : Call) × (w ≡ wishes.Book c)
call_is (wishes.Book c) is = (c, refl)
call_is _ is = absurd is

-- what stands round a seat that is to go on
abbrev pub Around : Option Chronicle → Seat → Type 0
Around store seat = (history : Chronicle) × (store ≡ Some history) × IsLegalChronicle history × IsAttending history seat

pub some_same : (h k : Chronicle) → Some h ≡ Some k → h ≡ k
some_same h k is = cc is

pub legal_at : (store : Option Chronicle) (s : Seat) (h : Chronicle) → Around store s → store ≡ Some h → IsLegalChronicle h
legal_at store s h (k, is, legal, attending) here = subst IsLegalChronicle (some_same k h (sym is ∙ here)) legal

pub attending_at : (store : Option Chronicle) (s : Seat) (h : Chronicle) → Around store s → store ≡ Some h → IsAttending h s
attending_at store s h (k, is, legal, attending) here = subst (λ (x : Chronicle). IsAttending x s) (some_same k h (sym is ∙ here)) attending

pub attending_grown : (h : Chronicle) (s : Seat) (many : ℕ) (n : Chronicle) (t : Seat) → Grows h s many n t → IsAttending h s → IsAttending n t
attending_grown h s many n t grows (level, client, account, attends) =
    let grown = grows level client account attends in
    (level, client, grown.0, grown.2)

pub around_alone : (store : Option Chronicle) (s t : Seat) → GrowsAlone s t → Around store s → Around store t
around_alone store s t grows (h, is, legal, attending) = (h, is, legal, attending_grown h s 0 h t (grows h) attending)

pub around_gone : (store : Option Chronicle) (s : Seat) (h : Chronicle) (many : ℕ) (after : Option Chronicle) (t : Seat) → IsAttending h s →
    Goes h s many after t → Around after t
around_gone store s h many after t attending goes =
    (goes.now, goes.store, goes.legal, attending_grown h s many goes.now t goes.grows attending)

pub goes_alone : (h : Chronicle) (store : Option Chronicle) (s t : Seat) → store ≡ Some h → IsLegalChronicle h → GrowsAlone s t → Goes h s 0 store t
goes_alone h store s t is legal grows = record { now = h; store = is; legal = legal; grows = grows h }

pub goes_between : (h : Chronicle) (s a b t : Seat) (many : ℕ) (after : Option Chronicle) → GrowsAlone s a → Goes h a many after b → GrowsAlone b t →
    Goes h s many after t
goes_between h s a b t many after first goes last = record {
  now = goes.now;
  store = goes.store;
  legal = goes.legal;
  grows = subst (λ (n : ℕ). Grows h s n goes.now t) (omega arith)
      (grows_then s 0 a (many + 0) t h h goes.now (first h) (grows_then a many b 0 t h goes.now goes.now goes.grows (last goes.now)));
}

pub goes_then : (h : Chronicle) (s a t : Seat) (m n : ℕ) (middle after : Option Chronicle) → (first : Goes h s m middle a) → Goes first.now a n after t →
    Goes h s (m + n) after t
goes_then h s a t m n middle after first second = record {
  now = second.now;
  store = second.store;
  legal = second.legal;
  grows = grows_then s m a n t h first.now second.now first.grows second.grows;
}

pub going_settled : (w : Want) → IsGoing w → IsSettled w
going_settled wishes.Bytes is = tt
going_settled (wishes.Book c) is = tt
going_settled _ is = absurd is

pub over_settled : (w : Want) → IsOver w → IsSettled w
over_settled (wishes.Ended e) is = tt
over_settled _ is = absurd is

-- neither a call nor an end
no_call : (w : Want) → IsGoing w → IsCallOrEnd w → (IsCall w → ⊥) → ⊥
no_call (wishes.Book c) going is none = none tt
no_call wishes.Bytes going is none = absurd is
no_call _ going is none = absurd going

pub count_none : (result : Stepped) (end : Option End) (w : Want) → ShowsBy (Ok result) end → ShowsEnd end w → IsCallOrEnd w → (IsCall w → ⊥) →
    IsCount (Ok result) 0
count_none Called end w by shows is none = absurd (no_call w (subst (λ (o : Option End). ShowsEnd o w) by shows) is none)
count_none Ended end w by shows is none = omega arith

pub count_one : (result : Stepped) → IsCount (Ok result) 1
count_one Called = refl
count_one Ended = omega arith

-- the end of a session that left a reply unsent
going_over : (w : Want) → IsGoing w → IsOver w → ⊥
going_over (wishes.Ended e) going over = absurd going
going_over _ going over = absurd over

pub memory_end : (end : Option End) (s : Session) → ShowsEnd end (wants s.stage s.runner) → IsOver (wants s.stage s.runner) →
    outer s.stage ≡ Some ends.WriteFault → end ≡ Some ends.Memory
memory_end end s shows over fault =
    fault_shown end s shows (λ none. absurd (going_over (wants s.stage s.runner) (subst (λ (o : Option End). ShowsEnd o (wants s.stage s.runner)) none shows) over))
    fault
