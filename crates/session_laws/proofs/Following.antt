-- What was heard of a whole stream, as far as it was taken, follows the messages that stand in it.
use Rattle.std.proofs.Common.{◌≡◌, Bool, ℕ, ◌<◌, List, [], ◌∷◌, ◌++◌, length, true, false, Some, refl, sym, ◌∙◌, ap, subst, arith, append_assoc}
use Rattle.std.specs.List.{AllByRecursion}
use Rattle.std.proofs.lemmas.List.{append-nil}
use Rattle.std.proofs.lemmas.Option.{none-some}
use Rattle.client_framing.specs.declared.frontend_message.FrontendMessage.{FrontendMessage}
use Rattle.client_framing.specs.declared.frontend_message.FrontendMessage.TheVariants.{Ssl, Gss, Cancel, Startup, Version, Query, Terminate, Sync, Flush, Extended, FunctionCall, Copy}
use Rattle.client_framing.specs.declared.frontend_message.FrameFault.{FrameFault}
use Rattle.client_framing.specs.declared.frontend_message.FrameFault.TheVariants.{BadLength, BadStartup, TooLong, UnknownType, NoTerminator, Memory}
use Rattle.client_framing.specs.Spelling.{Pair, phase_after, type_of}
use Rattle.client_framing.specs.Fronts.{TakesFront, TakesFronts, HasFault}
use Rattle.client_framing.proofs.Streams.{front_unique, after_unique, takes_bytes, front_no_fault, fault_stays}
use Rattle.block_machine.specs.declared.end.End.{End}
use Rattle.block_machine.specs.declared.end.End.TheVariants as ends
use Rattle.session_core.specs.Users.{HasUser}
use Rattle.session_core.specs.Requests.{Request, encryption, cancel, start, userless, version, query, unread_query, terminate, sync, nothing, extended, function, Requests, asks, partial, faulty, unread, Says, AreRequests}
use Rattle.session_laws.specs.Streams.{IsEncryptionRequest, IsNoTerminate, IsLast, IsWholeStream}

-- ---- requests that end nothing

abbrev pub IsResting : Request → Type 0
IsResting encryption = Unit {0}
IsResting start = Unit {0}
IsResting (query message) = Unit {0}
IsResting unread_query = Unit {0}
IsResting sync = Unit {0}
IsResting nothing = Unit {0}
IsResting extended = Unit {0}
IsResting function = Unit {0}
IsResting cancel = ⊥
IsResting userless = ⊥
IsResting version = ⊥
IsResting terminate = ⊥

-- the request is Terminate
abbrev pub IsEnd : Request → Type 0
IsEnd terminate = Unit {0}
IsEnd _ = ⊥

-- ---- what was heard

-- what is heard last, where so many bytes are left that weren't taken
abbrev pub Ending : End → List ℕ → Requests → Type 0
Ending ends.Terminated left (asks asked requests) = IsEnd asked
Ending ends.Terminated left (partial rest) = left ≡ [] → ⊥
Ending ends.Terminated left (faulty fault) = ⊥
Ending ends.Terminated left unread = Unit {0}
Ending ends.Closed left (asks asked requests) = ⊥
Ending ends.Closed left (partial rest) = rest ≡ []
Ending ends.Closed left (faulty fault) = ⊥
Ending ends.Closed left unread = Unit {0}
Ending _ left requests = ⊥

-- the requests are these messages, as far as they were heard, and then the last one
abbrev pub Follows : End → List ℕ → List FrontendMessage → Requests → Type 0
Follows end left [] requests = Ending end left requests
Follows end left (front ∷ fronts) (asks asked requests) = Says front asked × IsResting asked × Follows end left fronts requests
Follows end left (front ∷ fronts) (partial rest) = left ≡ [] → ⊥
Follows end left (front ∷ fronts) (faulty fault) = ⊥
Follows end left (front ∷ fronts) unread = Unit {0}

-- ---- one message

-- with more bytes after them, bytes have the same message at their front
front_stays : (started : Bool) (bytes more left : List ℕ) (front : FrontendMessage) → TakesFront started bytes front more → TakesFront started (bytes ++ left) front (more ++ left)
front_stays started bytes more left front t = record {
  taken = t.taken;
  spelled = t.spelled;
  whole = ap (λ (x : List ℕ). x ++ left) t.whole ∙ append_assoc t.taken more left;
}

-- no message stands at the front of no bytes, and no fault
empty_front : (started : Bool) (front : FrontendMessage) (more : List ℕ) → TakesFront started [] front more → ⊥
empty_front started front more t = let fewer : length more < 0 = takes_bytes started [] more front t in omega (arith, fewer)

empty_fault : (fault : FrameFault) → HasFault true [] fault → ⊥
empty_fault (UnknownType kind) h = omega (arith, h.0)
empty_fault (BadLength len) h = omega (arith, h.0.held)
empty_fault (TooLong len) h = omega (arith, h.0.held)
empty_fault NoTerminator h = omega (arith, h.0.whole)
empty_fault BadStartup h = h
empty_fault Memory h = h

-- a list with another after it is empty where both are
nothing_taken : (taken left : List ℕ) → taken ++ left ≡ [] → taken ≡ []
nothing_taken [] left is = refl
nothing_taken (byte ∷ bytes) left is = absurd (let long : length (byte ∷ (bytes ++ left)) ≡ 0 = ap length is in omega (arith, long))

-- bytes that begin with a message: what is heard of the first of them
abbrev pub Begins : Bool → FrontendMessage → List ℕ → List ℕ → Requests → Type 0
Begins started front left more (asks asked requests) =
    Says front asked × ((taken : List ℕ) × (taken ++ left ≡ more) × AreRequests (phase_after started front) taken requests)
Begins started front left more (partial rest) = left ≡ [] → ⊥
Begins started front left more (faulty fault) = ⊥
Begins started front left more unread = Unit {0}

begins : (started : Bool) (front : FrontendMessage) (bytes taken left more : List ℕ) (requests : Requests) → taken ++ left ≡ bytes → TakesFront started bytes front more →
    AreRequests started taken requests → Begins started front left more requests
begins started front bytes taken left more (asks asked requests) whole t are =
    let other : TakesFront started bytes are.0 (are.1 ++ left) =
    subst (λ (x : List ℕ). TakesFront started x are.0 (are.1 ++ left)) whole (front_stays started taken are.1 left are.0 are.2) in
    let same : are.0 ≡ front = front_unique started are.0 front bytes (are.1 ++ left) more other t in
    let following : are.1 ++ left ≡ more = after_unique started are.0 front bytes (are.1 ++ left) more other t in (
      subst (λ (x : FrontendMessage). Says x asked) same are.3,
      (are.1, following, subst (λ (x : FrontendMessage). AreRequests (phase_after started x) are.1 requests) same are.4),
    )
begins started front bytes taken left more (partial rest) whole t are = λ none.
    let all : bytes ≡ taken = sym whole ∙ (ap (λ (x : List ℕ). taken ++ x) none ∙ append-nil taken) in
    are.1.no_front front more (subst (λ (x : List ℕ). TakesFront started x front more) all t)
begins started front bytes taken left more (faulty fault) whole t are =
    front_no_fault started front fault bytes more t (subst (λ (x : List ℕ). HasFault started x fault) whole (fault_stays started taken left fault are))
begins started front bytes taken left more unread whole t are = tt

-- ---- the last one

terminates : (asked : Request) → Says Terminate asked → IsEnd asked
terminates terminate says = tt
terminates _ says = absurd says

last_terminate : (left more : List ℕ) (requests : Requests) → Begins true Terminate left more requests → Ending ends.Terminated left requests
last_terminate left more (asks asked requests) b = terminates asked b.0
last_terminate left more (partial rest) b = b
last_terminate left more (faulty fault) b = b
last_terminate left more unread b = tt

last_nothing : (taken left : List ℕ) (requests : Requests) → taken ≡ [] → AreRequests true taken requests → Ending ends.Closed left requests
last_nothing taken left (asks asked requests) none are =
    empty_front true are.0 are.1 (subst (λ (x : List ℕ). TakesFront true x are.0 are.1) none are.2)
last_nothing taken left (partial rest) none are = are.0 ∙ none
last_nothing taken left (faulty fault) none are = empty_fault fault (subst (λ (x : List ℕ). HasFault true x fault) none are)
last_nothing taken left unread none are = tt

last : (end : End) (bytes taken left : List ℕ) (requests : Requests) → taken ++ left ≡ bytes → IsLast end bytes → AreRequests true taken requests → Ending end left requests
last ends.Terminated bytes taken left requests whole is are =
    last_terminate left is.0 requests (begins true Terminate bytes taken left is.0 requests whole is.1 are)
last ends.Closed bytes taken left requests whole is are = last_nothing taken left requests (nothing_taken taken left (whole ∙ is)) are
last _ bytes taken left requests whole is are = absurd is

-- ---- after the startup

-- a message that has a type byte, and isn't Terminate, ends nothing
abbrev pub SaysResting : FrontendMessage → Type 0
SaysResting front = (asked : Request) → Says front asked → IsResting asked

typed_resting : (front : FrontendMessage) (kind : ℕ) → type_of front ≡ Some kind → IsNoTerminate front → SaysResting front
typed_resting (Query text) kind is on = resting
  where
    resting : (asked : Request) → Says (Query text) asked → IsResting asked
    resting (query message) says = tt
    resting unread_query says = tt
    resting _ says = absurd says
typed_resting Sync kind is on = resting
  where
    resting : (asked : Request) → Says Sync asked → IsResting asked
    resting sync says = tt
    resting _ says = absurd says
typed_resting Flush kind is on = resting
  where
    resting : (asked : Request) → Says Flush asked → IsResting asked
    resting nothing says = tt
    resting _ says = absurd says
typed_resting (Extended step) kind is on = resting
  where
    resting : (asked : Request) → Says (Extended step) asked → IsResting asked
    resting extended says = tt
    resting _ says = absurd says
typed_resting FunctionCall kind is on = resting
  where
    resting : (asked : Request) → Says FunctionCall asked → IsResting asked
    resting function says = tt
    resting _ says = absurd says
typed_resting (Copy part) kind is on = resting
  where
    resting : (asked : Request) → Says (Copy part) asked → IsResting asked
    resting nothing says = tt
    resting _ says = absurd says
typed_resting Terminate kind is on = absurd on
typed_resting Ssl kind is on = absurd (none-some kind is)
typed_resting Gss kind is on = absurd (none-some kind is)
typed_resting (Cancel pid secret) kind is on = absurd (none-some kind is)
typed_resting (Startup pairs) kind is on = absurd (none-some kind is)
typed_resting (Version code) kind is on = absurd (none-some kind is)

-- the phase stays
stays_started : (front : FrontendMessage) → phase_after true front ≡ true
stays_started (Startup pairs) = refl
stays_started Ssl = refl
stays_started Gss = refl
stays_started (Cancel pid secret) = refl
stays_started (Version code) = refl
stays_started (Query text) = refl
stays_started Terminate = refl
stays_started Sync = refl
stays_started Flush = refl
stays_started (Extended step) = refl
stays_started FunctionCall = refl
stays_started (Copy part) = refl

-- one message follows, and then the others
one_follows : (started : Bool) (end : End) (front : FrontendMessage) (fronts : List FrontendMessage) (left more : List ℕ) → SaysResting front →
    ((taken : List ℕ) (requests : Requests) → taken ++ left ≡ more → AreRequests (phase_after started front) taken requests → Follows end left fronts requests) →
    (requests : Requests) → Begins started front left more requests → Follows end left (front ∷ fronts) requests
one_follows started end front fronts left more resting further (asks asked requests) b =
    (b.0, resting asked b.0, further b.1.0 requests b.1.1 b.1.2)
one_follows started end front fronts left more resting further (partial rest) b = b
one_follows started end front fronts left more resting further (faulty fault) b = b
one_follows started end front fronts left more resting further unread b = tt

messages_follow : (end : End) (fronts : List FrontendMessage) (bytes taken left rest : List ℕ) (requests : Requests) → taken ++ left ≡ bytes → TakesFronts true bytes fronts rest →
    AllByRecursion IsNoTerminate fronts → IsLast end rest → AreRequests true taken requests → Follows end left fronts requests
messages_follow end [] bytes taken left rest requests whole takes on is are = last end rest taken left requests (whole ∙ takes) is are
messages_follow end (front ∷ fronts) bytes taken left rest requests whole takes on is are =
    let following : TakesFronts true takes.0 fronts rest = subst (λ (x : Bool). TakesFronts x takes.0 fronts rest) (stays_started front) takes.2 in
    one_follows true end front fronts left takes.0 (typed_resting front takes.1.spelled.kind takes.1.spelled.kind_is on.0)
    (λ further later joined heard. messages_follow end fronts takes.0 further left rest later joined following on.1 is
    (subst (λ (x : Bool). AreRequests x further later) (stays_started front) heard))
    requests (begins true front bytes taken left takes.0 requests whole takes.1 are)

-- ---- before it

startup_resting : (pairs : List Pair) → HasUser pairs → SaysResting (Startup pairs)
startup_resting pairs has start says = tt
startup_resting pairs has userless says = absurd (says has)
startup_resting pairs has _ says = absurd says

encryption_resting : (front : FrontendMessage) → IsEncryptionRequest front → SaysResting front
encryption_resting Ssl is = resting
  where
    resting : (asked : Request) → Says Ssl asked → IsResting asked
    resting encryption says = tt
    resting _ says = absurd says
encryption_resting Gss is = resting
  where
    resting : (asked : Request) → Says Gss asked → IsResting asked
    resting encryption says = tt
    resting _ says = absurd says
encryption_resting _ is = absurd is

-- a request for encryption leaves the phase
stays_before : (front : FrontendMessage) → IsEncryptionRequest front → phase_after false front ≡ false
stays_before Ssl is = refl
stays_before Gss is = refl
stays_before _ is = absurd is

opening_follows : (end : End) (fronts : List FrontendMessage) (pairs : List Pair) (messages : List FrontendMessage) (bytes taken left rest : List ℕ) (requests : Requests) →
    taken ++ left ≡ bytes → TakesFronts false bytes (fronts ++ Startup pairs ∷ messages) rest → AllByRecursion IsEncryptionRequest fronts → HasUser pairs →
    AllByRecursion IsNoTerminate messages → IsLast end rest → AreRequests false taken requests → Follows end left (fronts ++ Startup pairs ∷ messages) requests
opening_follows end [] pairs messages bytes taken left rest requests whole takes secure user on is are =
    one_follows false end (Startup pairs) messages left takes.0 (startup_resting pairs user)
    (λ further later joined heard. messages_follow end messages takes.0 further left rest later joined takes.2 on is heard)
    requests (begins false (Startup pairs) bytes taken left takes.0 requests whole takes.1 are)
opening_follows end (front ∷ fronts) pairs messages bytes taken left rest requests whole takes secure user on is are =
    let following : TakesFronts false takes.0 (fronts ++ Startup pairs ∷ messages) rest =
    subst (λ (x : Bool). TakesFronts x takes.0 (fronts ++ Startup pairs ∷ messages) rest) (stays_before front secure.0) takes.2 in
    one_follows false end front (fronts ++ Startup pairs ∷ messages) left takes.0 (encryption_resting front secure.0)
    (λ further later joined heard. opening_follows end fronts pairs messages takes.0 further left rest later joined following secure.1 user on is
    (subst (λ (x : Bool). AreRequests x further later) (stays_before front secure.0) heard))
    requests (begins false front bytes taken left takes.0 requests whole takes.1 are)

-- what was heard of a whole stream follows its messages
pub stream_follows : (end : End) (bytes taken left : List ℕ) (requests : Requests) (w : IsWholeStream end bytes) → taken ++ left ≡ bytes → AreRequests false taken requests →
    Follows end left (w.encryption ++ Startup w.pairs ∷ w.messages) requests
stream_follows end bytes taken left requests w whole are =
    opening_follows end w.encryption w.pairs w.messages bytes taken left w.rest requests whole w.takes w.asks_encryption w.names_user w.goes_on w.last are
