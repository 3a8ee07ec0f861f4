-- The message that a code and a body stand for, and what bytes can go on to be the body of a message of a code.
use Rattle.std.proofs.Common.{◌≡◌, ◌≢◌, ℕ, ◌-◌, ◌≤◌, List, [], ◌++◌, length, take, drop, refl, sym, ◌∙◌, ap, subst, arith, cond, eqb, true, false, append-nil, inl, inr}
use Rattle.std.specs.Prelude.{◌⊎◌, ◌↔◌, IsTrue, Some}
use Rattle.std.specs.List.{AllByRecursion}
use Rattle.std.proofs.lemmas.Bool.{eq-eqb, eqb-true, cond-false}
use Rattle.std.proofs.lemmas.Bool.Decides.{eqb_tells}
use Rattle.std.proofs.lemmas.List.{length-append, length-drop, length-take-le, nil_from_length}
use Rattle.std.proofs.lemmas.Option.{none-some, same_Some}
use Rattle.client_framing.specs.declared.frontend_message.FrontendMessage.{FrontendMessage}
use Rattle.client_framing.specs.declared.frontend_message.FrontendMessage.TheVariants.{Ssl, Gss, Cancel, Startup, Version}
use Rattle.client_framing.specs.declared.opening_type.OpeningType.{OpeningType}
use Rattle.client_framing.specs.declared.opening_type.OpeningType.TheVariants as types
use Rattle.client_framing.specs.Spelling.{Pair, number_of, code_of, pairs_bytes, IsBody, IsPair, IsOtherVersion}
use Rattle.client_framing.specs.Reading.{CanBePairs, CanBeBody, IsRightlyNamed, opening_code}
use Rattle.client_framing.proofs.Zeros.{ones, length-ones}
use Rattle.client_framing.proofs.PairLists.{pairs_unique}

-- the message of this code, this body and these pairs, where it has pairs
abbrev pub coded : ℕ → List ℕ → List Pair → FrontendMessage
coded code body pairs =
    cond (eqb code 196608) (Startup pairs)
    (cond (eqb code 80877102) (Cancel (number_of (take 4 body)) (number_of (drop 4 body)))
    (cond (eqb code 80877103) Ssl
    (cond (eqb code 80877104) Gss (Version code))))

abbrev pub pairs_in : FrontendMessage → List Pair
pairs_in (Startup pairs) = pairs
pairs_in _ = []

differs : (a b : ℕ) → a ≢ b → eqb a b ≡ false
differs a b ne = elim (eqb_tells a b) [ inl h ↦ absurd (ne h.1) | inr h ↦ h.0 ]

-- another version is that of its code, whatever pairs are given
version_coded : (code : ℕ) (body : List ℕ) (pairs : List Pair) → IsOtherVersion code → coded code body pairs ≡ Version code
version_coded code body pairs other =
    cond-false _ _ _ (differs code 196608 other.0)
    ∙ (cond-false _ _ _ (differs code 80877102 other.1) ∙ (cond-false _ _ _ (differs code 80877103 other.2) ∙ cond-false _ _ _ (differs code 80877104 other.3)))

-- the message is that of a number, where it is that of the code
as_coded : (front : FrontendMessage) (body : List ℕ) (pairs : List Pair) (n code : ℕ) → Some n ≡ Some code → front ≡ coded n body pairs → front ≡ coded code body pairs
as_coded front body pairs n code e is = subst (λ (k : ℕ). front ≡ coded k body pairs) (same_Some n code e) is

pub is_coded : (front : FrontendMessage) (code : ℕ) (body : List ℕ) → code_of front ≡ Some code → IsBody front body → front ≡ coded code body (pairs_in front)
is_coded Ssl code body e h = as_coded Ssl body [] 80877103 code e refl
is_coded Gss code body e h = as_coded Gss body [] 80877104 code e refl
is_coded (Cancel pid secret) code body e h = as_coded (Cancel pid secret) body [] 80877102 code e numbers
  where
    numbers : Cancel pid secret ≡ Cancel (number_of (take 4 body)) (number_of (drop 4 body))
    numbers = let a : number_of (take 4 body) ≡ pid = h.0.1 in let b : number_of (drop 4 body) ≡ secret = h.1.1 in cc
is_coded (Startup pairs) code body e h = as_coded (Startup pairs) body pairs 196608 code e refl
is_coded (Version version) code body e h = as_coded (Version version) body [] version code e (sym (version_coded version body [] h))
is_coded _ code body e h = absurd (none-some code e)

-- the body is that of the message that its code names
pub body_coded : (front : FrontendMessage) (code : ℕ) (body : List ℕ) → code_of front ≡ Some code → IsBody front body → IsBody (coded code body (pairs_in front)) body
body_coded front code body e h = let P : FrontendMessage → Type 0 = λ (f : FrontendMessage). IsBody f body in subst P (is_coded front code body e h) h

-- a code and a body determine their message
startup_unique : (front : FrontendMessage) (pairs : List Pair) (body : List ℕ) → code_of front ≡ Some 196608 → IsBody front body → AllByRecursion IsPair pairs → body ≡ pairs_bytes pairs → Startup pairs ≡ front
startup_unique front pairs body e h each is =
    let other = body_coded front 196608 body e h in
    let same : pairs ≡ pairs_in front = pairs_unique pairs (pairs_in front) each other.0 (sym is ∙ other.1) in
    ap (λ (l : List Pair). Startup l) same ∙ sym (is_coded front 196608 body e h)

-- what has another code than a startup is the same whatever pairs are given
pub code_unique : (f g : FrontendMessage) (code : ℕ) (body : List ℕ) → code_of f ≡ Some code → code_of g ≡ Some code → IsBody f body → IsBody g body → f ≡ g
code_unique Ssl g code body e k h j = sym (is_coded g 80877103 body (k ∙ sym e) j)
code_unique Gss g code body e k h j = sym (is_coded g 80877104 body (k ∙ sym e) j)
code_unique (Cancel pid secret) g code body e k h j = is_coded (Cancel pid secret) 80877102 body refl h ∙ sym (is_coded g 80877102 body (k ∙ sym e) j)
code_unique (Startup pairs) g code body e k h j = startup_unique g pairs body (k ∙ sym e) j h.0 h.1
code_unique (Version version) g code body e k h j = sym (is_coded g version body (k ∙ sym e) j ∙ version_coded version body (pairs_in g) h)
code_unique _ g code body e k h j = absurd (none-some code e)

-- what is held of a body
pub body_held : (code size : ℕ) (held : List ℕ) (can : CanBeBody code size held) → IsBody (coded code (held ++ can.more) (pairs_in can.front)) (held ++ can.more)
body_held code size held can = body_coded can.front code (held ++ can.more) can.code_is can.body_is

-- more bytes, so that there are as many as are wanted
filled : (size : ℕ) (held : List ℕ) → length held ≤ size → length (held ++ ones (size - length held)) ≡ size
filled size held fits = omega (arith, length-append held (ones (size - length held)), length-ones (size - length held))

-- what the code's tests tell, of a startup message
startup_can : (size : ℕ) (held : List ℕ) → CanBePairs size held → CanBeBody 196608 size held
startup_can size held can = record { front = Startup can.pairs; more = can.more; code_is = refl; body_is = (can.each, can.whole); fills = ap length can.whole ∙ can.fills }

startup_needs : (size : ℕ) (held : List ℕ) → CanBeBody 196608 size held → CanBePairs size held
startup_needs size held can =
    let h = body_held 196608 size held can in
    record { pairs = pairs_in can.front; more = can.more; each = h.0; fills = sym (ap length h.1) ∙ can.fills; whole = h.1 }

pub startup_tells : (kind : OpeningType) (size : ℕ) (held : List ℕ) (t : Type 0) → kind ≡ types.Startup → (t ↔ CanBePairs size held) → t ↔ CanBeBody (opening_code kind) size held
startup_tells kind size held t e tells = rw e (λ a. startup_can size held (tells.0 a), λ can. tells.1 (startup_needs size held can))

-- of a cancel request
cancel_can : (size : ℕ) (held : List ℕ) → length held ≤ size → size ≡ 8 → CanBeBody 80877102 size held
cancel_can size held fits eight =
    let body = held ++ ones (size - length held) in
    let long : length body ≡ size = filled size held fits in
    record {
      front = Cancel (number_of (take 4 body)) (number_of (drop 4 body));
      more = ones (size - length held);
      code_is = refl;
      body_is = ((length-take-le 4 body (omega arith), refl), (length-drop 4 body ∙ omega arith, refl));
      fills = long;
    }

cancel_needs : (size : ℕ) (held : List ℕ) → CanBeBody 80877102 size held → size ≡ 8
cancel_needs size held can = let h = body_held 80877102 size held can in omega (arith, h.1.0, length-drop 4 (held ++ can.more), can.fills)

pub cancel_tells : (kind : OpeningType) (size : ℕ) (held : List ℕ) → kind ≡ types.Cancel → length held ≤ size → IsTrue (eqb size 8) ↔ CanBeBody (opening_code kind) size held
cancel_tells kind size held e fits = rw e (λ t. cancel_can size held fits (eqb-true size 8 t), λ can. eq-eqb size 8 (cancel_needs size held can))

-- of an SSL or a GSS request
request_can : (front : FrontendMessage) (code size : ℕ) (held : List ℕ) → code_of front ≡ Some code → IsBody front [] → length held ≤ size → size ≡ 0 → CanBeBody code size held
request_can front code size held e h fits none =
    let nothing : held ≡ [] = nil_from_length held (omega arith) in
    let both : held ++ [] ≡ [] = append-nil held ∙ nothing in
    record {
      front = front;
      more = [];
      code_is = e;
      body_is = (let P : List ℕ → Type 0 = λ (x : List ℕ). IsBody front x in subst P (sym both) h);
      fills = ap length both ∙ sym none;
    }

pub request_tells : (kind : OpeningType) (size : ℕ) (held : List ℕ) → (kind ≡ types.Ssl) ⊎ (kind ≡ types.Gss) → length held ≤ size → IsTrue (eqb size 0) ↔ CanBeBody (opening_code kind) size held
request_tells kind size held is fits = elim is [ inl e ↦ rw e ssl | inr e ↦ rw e gss ]
  where
    ssl : IsTrue (eqb size 0) ↔ CanBeBody 80877103 size held
    ssl = (λ t. request_can Ssl 80877103 size held refl refl fits (eqb-true size 0 t), λ can. eq-eqb size 0 (sym can.fills ∙ ap length (body_held 80877103 size held can)))

    gss : IsTrue (eqb size 0) ↔ CanBeBody 80877104 size held
    gss = (λ t. request_can Gss 80877104 size held refl refl fits (eqb-true size 0 t), λ can. eq-eqb size 0 (sym can.fills ∙ ap length (body_held 80877104 size held can)))

-- of another version
pub version_tells : (kind : OpeningType) (code size : ℕ) (held : List ℕ) → kind ≡ types.Version code → IsRightlyNamed kind → length held ≤ size → IsTrue true ↔ CanBeBody (opening_code kind) size held
version_tells kind code size held e named fits = rw e (λ t. record { front = Version code; more = ones (size - length held); code_is = refl; body_is = other; fills = filled size held fits }, λ can. refl)
  where
    other : IsOtherVersion code
    other = let P : OpeningType → Type 0 = IsRightlyNamed in subst P e named
