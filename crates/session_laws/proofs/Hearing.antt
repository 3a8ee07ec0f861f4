-- What an end says of a stream that is whole: which end it is, and that all its messages were heard.
use Rattle.std.proofs.Common.{◌≡◌, inl, inr, ℕ, List, [], ◌∷◌, refl, subst}
use Rattle.client_framing.specs.declared.frontend_message.FrontendMessage.{FrontendMessage}
use Rattle.client_framing.specs.declared.frontend_message.FrameFault.{FrameFault}
use Rattle.block_machine.specs.declared.end.End.{End}
use Rattle.block_machine.specs.declared.end.End.TheVariants as ends
use Rattle.session_core.specs.Requests.{Request, cancel, userless, version, terminate, Requests, asks, partial, faulty, unread}
use Rattle.session_laws.specs.Causes.{IsTerminate, IsCancel, IsUserless, IsVersion, Asked, EndsBetween, EndsInside, HasFault}
use Rattle.session_laws.specs.Sessions.{Hears}
use Rattle.session_laws.proofs.Following.{IsResting, IsEnd, Ending, Follows}

-- ---- what isn't among them

-- no resting request is one of these, nor is Terminate
record IsStrange (Is : Request → Type 0) : Type 0 where
  resting : (asked : Request) → IsResting asked → Is asked → ⊥
  end : Is terminate → ⊥

no_cancel : IsStrange IsCancel
no_cancel = record { resting = resting; end = λ is. is }
  where
    resting : (asked : Request) → IsResting asked → IsCancel asked → ⊥
    resting cancel is one = is
    resting _ is one = one

no_userless : IsStrange IsUserless
no_userless = record { resting = resting; end = λ is. is }
  where
    resting : (asked : Request) → IsResting asked → IsUserless asked → ⊥
    resting userless is one = is
    resting _ is one = one

no_version : IsStrange IsVersion
no_version = record { resting = resting; end = λ is. is }
  where
    resting : (asked : Request) → IsResting asked → IsVersion asked → ⊥
    resting version is one = is
    resting _ is one = one

strange_end : (Is : Request → Type 0) → IsStrange Is → (asked : Request) (requests : Requests) → IsEnd asked → Asked Is (asks asked requests) → ⊥
strange_end Is strange terminate requests is asked = elim asked [ inl one ↦ strange.end one | inr other ↦ absurd other.0 ]
strange_end Is strange _ requests is asked = absurd is

never_last : (Is : Request → Type 0) → IsStrange Is → (end : End) (left : List ℕ) (requests : Requests) → Ending end left requests → Asked Is requests → ⊥
never_last Is strange ends.Terminated left (asks one requests) is asked = strange_end Is strange one requests is asked
never_last Is strange ends.Closed left (asks one requests) is asked = absurd is
never_last Is strange end left (partial rest) is asked = absurd asked
never_last Is strange end left (faulty fault) is asked = absurd asked
never_last Is strange end left unread is asked = absurd asked
never_last Is strange _ left (asks one requests) is asked = absurd is

never : (Is : Request → Type 0) → IsStrange Is → (end : End) (left : List ℕ) (fronts : List FrontendMessage) (requests : Requests) → Follows end left fronts requests →
    Asked Is requests → ⊥
never Is strange end left [] requests follows asked = never_last Is strange end left requests follows asked
never Is strange end left (front ∷ fronts) (asks one requests) follows asked =
    elim asked [ inl is ↦ strange.resting one follows.1 is | inr other ↦ never Is strange end left fronts requests follows.2 other.1 ]
never Is strange end left (front ∷ fronts) (partial rest) follows asked = absurd asked
never Is strange end left (front ∷ fronts) (faulty fault) follows asked = absurd asked
never Is strange end left (front ∷ fronts) unread follows asked = absurd asked

pub never_cancelled : (end : End) (left : List ℕ) (fronts : List FrontendMessage) (requests : Requests) → Follows end left fronts requests → Asked IsCancel requests → ⊥
never_cancelled = never IsCancel no_cancel

pub never_userless : (end : End) (left : List ℕ) (fronts : List FrontendMessage) (requests : Requests) → Follows end left fronts requests → Asked IsUserless requests → ⊥
never_userless = never IsUserless no_userless

pub never_of_version : (end : End) (left : List ℕ) (fronts : List FrontendMessage) (requests : Requests) → Follows end left fronts requests → Asked IsVersion requests → ⊥
never_of_version = never IsVersion no_version

-- ---- no fault

fault_last : (fault : FrameFault) (end : End) (left : List ℕ) (requests : Requests) → Ending end left requests → HasFault fault requests → ⊥
fault_last fault ends.Terminated left (asks terminate requests) is has = absurd has.0
fault_last fault ends.Terminated left (asks _ requests) is has = absurd is
fault_last fault ends.Terminated left (faulty found) is has = is
fault_last fault ends.Closed left (asks one requests) is has = is
fault_last fault ends.Closed left (faulty found) is has = is
fault_last fault end left (partial rest) is has = has
fault_last fault end left unread is has = has
fault_last fault _ left (asks one requests) is has = is
fault_last fault _ left (faulty found) is has = is

pub never_faulty : (fault : FrameFault) (end : End) (left : List ℕ) (fronts : List FrontendMessage) (requests : Requests) → Follows end left fronts requests →
    HasFault fault requests → ⊥
never_faulty fault end left [] requests follows has = fault_last fault end left requests follows has
never_faulty fault end left (front ∷ fronts) (asks one requests) follows has = never_faulty fault end left fronts requests follows.2 has.1
never_faulty fault end left (front ∷ fronts) (partial rest) follows has = has
never_faulty fault end left (front ∷ fronts) (faulty found) follows has = follows
never_faulty fault end left (front ∷ fronts) unread follows has = has

-- ---- the end of the input

inside_last : (end : End) (requests : Requests) → Ending end [] requests → EndsInside requests → ⊥
inside_last ends.Terminated (asks terminate requests) is inside = absurd inside.0
inside_last ends.Terminated (asks _ requests) is inside = absurd is
inside_last ends.Terminated (partial rest) is inside = is refl
inside_last ends.Closed (asks one requests) is inside = is
inside_last ends.Closed (partial rest) is inside = subst (λ (x : List ℕ). EndsInside (partial x)) is inside
inside_last end (faulty fault) is inside = inside
inside_last end unread is inside = inside
inside_last _ (asks one requests) is inside = is
inside_last _ (partial rest) is inside = is

pub never_inside : (end : End) (fronts : List FrontendMessage) (requests : Requests) → Follows end [] fronts requests → EndsInside requests → ⊥
never_inside end [] requests follows inside = inside_last end requests follows inside
never_inside end (front ∷ fronts) (asks one requests) follows inside = never_inside end fronts requests follows.2 inside.1
never_inside end (front ∷ fronts) (partial rest) follows inside = follows refl
never_inside end (front ∷ fronts) (faulty fault) follows inside = inside
never_inside end (front ∷ fronts) unread follows inside = inside

between_last : (end : End) (requests : Requests) → Ending end [] requests → EndsBetween requests → ends.Closed ≡ end
between_last ends.Terminated (asks terminate requests) is between = absurd between.0
between_last ends.Terminated (asks _ requests) is between = absurd is
between_last ends.Terminated (partial rest) is between = absurd (is refl)
between_last ends.Closed requests is between = refl
between_last end (faulty fault) is between = absurd between
between_last end unread is between = absurd between
between_last _ (asks one requests) is between = absurd is
between_last _ (partial rest) is between = absurd is

pub closed_so : (end : End) (fronts : List FrontendMessage) (requests : Requests) → Follows end [] fronts requests → EndsBetween requests →
    (ends.Closed ≡ end) × Hears fronts requests
closed_so end [] requests follows between = (between_last end requests follows between, tt)
closed_so end (front ∷ fronts) (asks one requests) follows between =
    let further = closed_so end fronts requests follows.2 between.1 in
    (further.0, (follows.0, further.1))
closed_so end (front ∷ fronts) (partial rest) follows between = absurd (follows refl)
closed_so end (front ∷ fronts) (faulty fault) follows between = absurd between
closed_so end (front ∷ fronts) unread follows between = absurd between

-- ---- Terminate

terminate_last : (end : End) (left : List ℕ) (requests : Requests) → Ending end left requests → Asked IsTerminate requests → ends.Terminated ≡ end
terminate_last ends.Terminated left requests is asked = refl
terminate_last ends.Closed left (asks one requests) is asked = absurd is
terminate_last end left (partial rest) is asked = absurd asked
terminate_last end left (faulty fault) is asked = absurd asked
terminate_last end left unread is asked = absurd asked
terminate_last _ left (asks one requests) is asked = absurd is

resting_on : (asked : Request) → IsResting asked → IsTerminate asked → ⊥
resting_on terminate resting is = resting
resting_on _ resting is = is

pub terminated_so : (end : End) (left : List ℕ) (fronts : List FrontendMessage) (requests : Requests) → Follows end left fronts requests → Asked IsTerminate requests →
    (ends.Terminated ≡ end) × Hears fronts requests
terminated_so end left [] requests follows asked = (terminate_last end left requests follows asked, tt)
terminated_so end left (front ∷ fronts) (asks one requests) follows asked =
    elim asked [
      | inl is ↦ absurd (resting_on one follows.1 is)
      | inr other ↦
          let further = terminated_so end left fronts requests follows.2 other.1 in
          (further.0, (follows.0, further.1))
    ]
terminated_so end left (front ∷ fronts) (partial rest) follows asked = absurd asked
terminated_so end left (front ∷ fronts) (faulty fault) follows asked = absurd asked
terminated_so end left (front ∷ fronts) unread follows asked = absurd asked
