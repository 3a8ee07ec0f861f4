-- A stream is read in one way, and what stands in it stays as more bytes come.
use Rattle.std.proofs.Common.{◌≡◌, ℕ, ◌+◌, ◌-◌, ◌<◌, ◌≤◌, List, [], ◌∷◌, ◌++◌, length, take, drop, refl, sym, ◌∙◌, ap, subst, arith, append_assoc, append-nil, Bool, true, false}
use Rattle.std.specs.Prelude.{slice_index, Option, None, Some, IfSome}
use Rattle.std.proofs.lemmas.List.{length-append, length-drop, drop-append-le, take-append-le}
use Rattle.client_framing.specs.declared.frontend_message.FrontendMessage.{FrontendMessage}
use Rattle.client_framing.specs.declared.frontend_message.FrameFault.{FrameFault}
use Rattle.client_framing.specs.declared.frontend_message.FrameFault.TheVariants.{BadLength, BadStartup, TooLong, UnknownType, NoTerminator, Memory}
use Rattle.client_framing.specs.Spelling.{phase_after}
use Rattle.client_framing.specs.Fronts.{TakesFront, HasFault, HasCode, HasLength, HasQuery, IsType, CanHaveLength, IsNoText, body_at_front, number_at, Stream, message, partial, faulty, unread, IsStream, IsRead, grafted, phase_following, TakesFronts}
use Rattle.client_framing.specs.Reading.{held_body}
use Rattle.client_framing.proofs.Numbers.{number_at-append, first-append}
use Rattle.client_framing.proofs.Types.{type_unique, query_body, query_can}
use Rattle.client_framing.proofs.Codes.{code_unique}
use Rattle.client_framing.proofs.Openings.{reads_opening}
use Rattle.client_framing.proofs.Messages.{reads_message, has_its_length}

-- the message at the front is determined
pub front_unique : (started : Bool) (f g : FrontendMessage) (bytes a b : List ℕ) → TakesFront started bytes f a → TakesFront started bytes g b → f ≡ g
front_unique false f g bytes a b h k =
    let o = reads_opening bytes f a h in
    let p = reads_opening bytes g b k in
    code_unique f g (number_at 4 bytes) (held_body bytes) o.code_is p.code_is o.body_is p.body_is
front_unique true f g bytes a b h k =
    let o = reads_message bytes f a h in
    let p = reads_message bytes g b k in
    type_unique f g (slice_index bytes 0) (body_at_front bytes) o.kind_is p.kind_is o.body_is p.body_is

-- so is what stands after it
pub after_unique : (started : Bool) (f g : FrontendMessage) (bytes a b : List ℕ) → TakesFront started bytes f a → TakesFront started bytes g b → a ≡ b
after_unique false f g bytes a b h k = (reads_opening bytes f a h).following ∙ sym ((reads_opening bytes g b k).following)
after_unique true f g bytes a b h k = (reads_message bytes f a h).following ∙ sym ((reads_message bytes g b k).following)

-- a message has bytes
pub takes_bytes : (started : Bool) (bytes more : List ℕ) (front : FrontendMessage) → TakesFront started bytes front more → length more < length bytes
takes_bytes false bytes more front t =
    let o = reads_opening bytes front more t in
    let low : 8 ≤ number_at 0 bytes = o.low in
    let whole : number_at 0 bytes ≤ length bytes = o.whole in
    omega (arith, ap length o.following, length-drop (number_at 0 bytes) bytes)
takes_bytes true bytes more front t =
    let o = reads_message bytes front more t in
    let low : 4 ≤ number_at 1 bytes = o.low in
    let whole : 1 + number_at 1 bytes ≤ length bytes = o.whole in
    omega (arith, ap length o.following, length-drop (1 + number_at 1 bytes) bytes)

-- where a message stands at the front there is no fault
pub front_no_fault : (started : Bool) (front : FrontendMessage) (fault : FrameFault) (bytes more : List ℕ) → TakesFront started bytes front more → HasFault started bytes fault → ⊥
front_no_fault false front fault bytes more t = go fault
  where
    go : (fault : FrameFault) → HasFault false bytes fault → ⊥
    go (BadLength n) h = let low : 8 ≤ number_at 0 bytes = (reads_opening bytes front more t).low in omega (arith, h.1, h.2)
    go (TooLong n) h = let high : number_at 0 bytes ≤ 10000 = (reads_opening bytes front more t).high in omega (arith, h.1, h.2)
    go BadStartup h = h.1 [] front more (let P : List ℕ → Type 0 = λ (x : List ℕ). TakesFront false x front more in subst P (sym (append-nil bytes)) t)
    go (UnknownType k) h = h
    go NoTerminator h = h
    go Memory h = h
front_no_fault true front fault bytes more t = go fault
  where
    go : (fault : FrameFault) → HasFault true bytes fault → ⊥
    go (UnknownType k) h = h.2 (record { front = front; kind_is = (reads_message bytes front more t).kind_is ∙ ap (λ (i : ℕ). Some i) h.1 })
    go (BadLength n) h = h.1 (subst (λ (i : ℕ). CanHaveLength (slice_index bytes 0) i) h.0.length_is (has_its_length bytes front more (reads_message bytes front more t)))
    go (TooLong n) h = let high : number_at 1 bytes ≤ 1048576 = (reads_message bytes front more t).high in omega (arith, h.0.length_is, h.2)
    go NoTerminator h =
        let o = reads_message bytes front more t in
        query_body front (body_at_front bytes) (o.kind_is ∙ ap (λ (i : ℕ). Some i) h.0.kind_is) o.body_is h.1
    go BadStartup h = h
    go Memory h = h

-- two faults before the startup's end
opening_unique : (bytes : List ℕ) (f g : FrameFault) → HasFault false bytes f → HasFault false bytes g → f ≡ g
opening_unique bytes (BadLength m) (BadLength n) h k = ap (λ (i : ℕ). BadLength i) (sym h.1 ∙ k.1)
opening_unique bytes (BadLength m) (TooLong n) h k = absurd (omega (arith, h.1, h.2, k.1, k.2))
opening_unique bytes (BadLength m) BadStartup h k = absurd (omega (arith, h.1, h.2, k.0.low))
opening_unique bytes (TooLong m) (BadLength n) h k = absurd (omega (arith, h.1, h.2, k.1, k.2))
opening_unique bytes (TooLong m) (TooLong n) h k = ap (λ (i : ℕ). TooLong i) (sym h.1 ∙ k.1)
opening_unique bytes (TooLong m) BadStartup h k = absurd (omega (arith, h.1, h.2, k.0.high))
opening_unique bytes BadStartup (BadLength n) h k = absurd (omega (arith, k.1, k.2, h.0.low))
opening_unique bytes BadStartup (TooLong n) h k = absurd (omega (arith, k.1, k.2, h.0.high))
opening_unique bytes BadStartup BadStartup h k = refl
opening_unique bytes (BadLength m) _ h k = absurd k
opening_unique bytes (TooLong m) _ h k = absurd k
opening_unique bytes BadStartup _ h k = absurd k
opening_unique bytes _ g h k = absurd h

-- two faults after it
unknown_known : (bytes : List ℕ) (m : ℕ) → HasFault true bytes (UnknownType m) → IsType (slice_index bytes 0) → ⊥
unknown_known bytes m h known = h.2 (let P : ℕ → Type 0 = IsType in subst P h.1 known)

query_known : (bytes : List ℕ) → HasQuery bytes → IsType (slice_index bytes 0)
query_known bytes h =
    let can = query_can 5 (omega arith) in
    let P : ℕ → Type 0 = IsType in subst P (sym h.kind_is) (record { front = can.front; kind_is = can.kind_is })

low_long : (bytes : List ℕ) (m n : ℕ) → HasFault true bytes (BadLength m) → HasFault true bytes (TooLong n) → ⊥
low_long bytes m n h k = h.1 (subst (λ (i : ℕ). CanHaveLength (slice_index bytes 0) i) (sym k.0.length_is ∙ h.0.length_is) k.1)

low_query : (bytes : List ℕ) (m : ℕ) → HasFault true bytes (BadLength m) → HasQuery bytes → ⊥
low_query bytes m h k =
    let low : 5 ≤ number_at 1 bytes = k.low in
    h.1 (subst (λ (i : ℕ). CanHaveLength i m) (sym k.kind_is) (query_can m (omega (arith, h.0.length_is))))

long_query : (bytes : List ℕ) (m : ℕ) → HasFault true bytes (TooLong m) → HasQuery bytes → ⊥
long_query bytes m h k = let high : number_at 1 bytes ≤ 1048576 = k.high in omega (arith, h.0.length_is, h.2)

message_unique : (bytes : List ℕ) (f g : FrameFault) → HasFault true bytes f → HasFault true bytes g → f ≡ g
message_unique bytes (UnknownType m) (UnknownType n) h k = ap (λ (i : ℕ). UnknownType i) (sym h.1 ∙ k.1)
message_unique bytes (UnknownType m) (BadLength n) h k = absurd (unknown_known bytes m h k.0.known)
message_unique bytes (UnknownType m) (TooLong n) h k = absurd (unknown_known bytes m h k.0.known)
message_unique bytes (UnknownType m) NoTerminator h k = absurd (unknown_known bytes m h (query_known bytes k.0))
message_unique bytes (BadLength m) (UnknownType n) h k = absurd (unknown_known bytes n k h.0.known)
message_unique bytes (BadLength m) (BadLength n) h k = ap (λ (i : ℕ). BadLength i) (sym h.0.length_is ∙ k.0.length_is)
message_unique bytes (BadLength m) (TooLong n) h k = absurd (low_long bytes m n h k)
message_unique bytes (BadLength m) NoTerminator h k = absurd (low_query bytes m h k.0)
message_unique bytes (TooLong m) (UnknownType n) h k = absurd (unknown_known bytes n k h.0.known)
message_unique bytes (TooLong m) (BadLength n) h k = absurd (low_long bytes n m k h)
message_unique bytes (TooLong m) (TooLong n) h k = ap (λ (i : ℕ). TooLong i) (sym h.0.length_is ∙ k.0.length_is)
message_unique bytes (TooLong m) NoTerminator h k = absurd (long_query bytes m h k.0)
message_unique bytes NoTerminator (UnknownType n) h k = absurd (unknown_known bytes n k (query_known bytes h.0))
message_unique bytes NoTerminator (BadLength n) h k = absurd (low_query bytes n k h.0)
message_unique bytes NoTerminator (TooLong n) h k = absurd (long_query bytes n k h.0)
message_unique bytes NoTerminator NoTerminator h k = refl
message_unique bytes (UnknownType m) _ h k = absurd k
message_unique bytes (BadLength m) _ h k = absurd k
message_unique bytes (TooLong m) _ h k = absurd k
message_unique bytes NoTerminator _ h k = absurd k
message_unique bytes _ g h k = absurd h

-- the fault at the front is determined
pub fault_unique : (started : Bool) (bytes : List ℕ) (f g : FrameFault) → HasFault started bytes f → HasFault started bytes g → f ≡ g
fault_unique false bytes f g h k = opening_unique bytes f g h k
fault_unique true bytes f g h k = message_unique bytes f g h k

-- a stream is read in one way
pub stream_unique : (started : Bool) (bytes : List ℕ) (s t : Stream) → IsStream started bytes s → IsStream started bytes t → IsRead s → IsRead t → s ≡ t
stream_unique started bytes (message f s) (message g t) h k r q =
    let same : f ≡ g = front_unique started f g bytes h.0 k.0 h.1 k.1 in
    let following : h.0 ≡ k.0 = after_unique started f g bytes h.0 k.0 h.1 k.1 in
    let other : IsStream (phase_after started f) h.0 t = subst (λ (x : List ℕ). IsStream (phase_after started f) x t) (sym following) (subst (λ (x : FrontendMessage). IsStream (phase_after started x) k.0 t) (sym same) k.2) in
    let rest : s ≡ t = stream_unique (phase_after started f) h.0 s t h.2 other r q in
    cc
stream_unique started bytes (message f s) (partial b) h k r q = absurd (k.1.no_front f h.0 h.1)
stream_unique started bytes (message f s) (faulty e) h k r q = absurd (front_no_fault started f e bytes h.0 h.1 k)
stream_unique started bytes (message f s) unread h k r q = absurd q
stream_unique started bytes (partial a) (message g t) h k r q = absurd (h.1.no_front g k.0 k.1)
stream_unique started bytes (partial a) (partial b) h k r q = ap (λ (x : List ℕ). partial x) (h.0 ∙ sym k.0)
stream_unique started bytes (partial a) (faulty e) h k r q = absurd (h.1.no_fault e k)
stream_unique started bytes (partial a) unread h k r q = absurd q
stream_unique started bytes (faulty d) (message g t) h k r q = absurd (front_no_fault started g d bytes k.0 k.1 h)
stream_unique started bytes (faulty d) (partial b) h k r q = absurd (k.1.no_fault d h)
stream_unique started bytes (faulty d) (faulty e) h k r q = ap (λ (x : FrameFault). faulty x) (fault_unique started bytes d e h k)
stream_unique started bytes (faulty d) unread h k r q = absurd q
stream_unique started bytes unread t h k r q = absurd r

-- messages, and what is read after them
pub stream_after : (started : Bool) (bytes : List ℕ) (fronts : List FrontendMessage) (rest : List ℕ) (s : Stream) → TakesFronts started bytes fronts rest → IsStream (phase_following started fronts) rest s
    → IsStream started bytes (grafted fronts s)
stream_after started bytes [] rest s t h = let P : List ℕ → Type 0 = λ (x : List ℕ). IsStream started x s in subst P (sym t) h
stream_after started bytes (f ∷ fs) rest s t h = (t.0, t.1, stream_after (phase_after started f) t.0 fs rest s t.2 h)

-- a stream that is grafted is read where its end is
pub read_after : (fronts : List FrontendMessage) (s : Stream) → IsRead s → IsRead (grafted fronts s)
read_after [] s r = r
read_after (f ∷ fs) s r = read_after fs s r

code_stays : (bytes more : List ℕ) → HasCode bytes → HasCode (bytes ++ more)
code_stays bytes more h =
    let a : 8 ≤ length bytes = h.held in
    let b : number_at 0 (bytes ++ more) ≡ number_at 0 bytes = number_at-append 0 bytes more (omega arith) in
    record { held = omega (arith, length-append bytes more); low = omega (arith, h.low); high = omega (arith, h.high) }

length_stays : (bytes more : List ℕ) (len : ℕ) → HasLength bytes len → HasLength (bytes ++ more) len
length_stays bytes more len h =
    let a : 5 ≤ length bytes = h.held in
    record {
      held = omega (arith, length-append bytes more);
      known = (let P : ℕ → Type 0 = IsType in subst P (sym (first-append bytes more (omega arith))) h.known);
      length_is = number_at-append 1 bytes more (omega arith) ∙ h.length_is;
    }

-- a query that is held whole stays
query_stays : (bytes more : List ℕ) → HasQuery bytes × IsNoText (body_at_front bytes) → HasQuery (bytes ++ more) × IsNoText (body_at_front (bytes ++ more))
query_stays bytes more h =
    let low : 5 ≤ number_at 1 bytes = h.0.low in
    let whole : 1 + number_at 1 bytes ≤ length bytes = h.0.whole in
    let n : number_at 1 (bytes ++ more) ≡ number_at 1 bytes = number_at-append 1 bytes more (omega arith) in
    let d : drop 5 (bytes ++ more) ≡ drop 5 bytes ++ more = drop-append-le 5 bytes more (omega arith) in
    let t : take (number_at 1 bytes - 4) (drop 5 bytes ++ more) ≡ body_at_front bytes = take-append-le (number_at 1 bytes - 4) (drop 5 bytes) more (rw length-drop (omega arith)) in
    let same : body_at_front (bytes ++ more) ≡ body_at_front bytes = ap (λ (i : ℕ). take (i - 4) (drop 5 (bytes ++ more))) n ∙ (ap (λ (x : List ℕ). take (number_at 1 bytes - 4) x) d ∙ t) in (
      record { kind_is = first-append bytes more (omega arith) ∙ h.0.kind_is; low = omega arith; high = omega (arith, h.0.high); whole = omega (arith, length-append bytes more) },
      λ text is. h.1 text (is.0, sym same ∙ is.1),
    )

-- a fault stands however the bytes go on
pub fault_stays : (started : Bool) (bytes more : List ℕ) (fault : FrameFault) → HasFault started bytes fault → HasFault started (bytes ++ more) fault
fault_stays false bytes more (BadLength n) h = (omega (arith, h.0, length-append bytes more), number_at-append 0 bytes more h.0 ∙ h.1, h.2)
fault_stays false bytes more (TooLong n) h = (omega (arith, h.0, length-append bytes more), number_at-append 0 bytes more h.0 ∙ h.1, h.2)
fault_stays false bytes more BadStartup h =
    (code_stays bytes more h.0, λ others front rest t. h.1 (more ++ others) front rest (let P : List ℕ → Type 0 = λ (x : List ℕ). TakesFront false x front rest in subst P (append_assoc bytes more others) t))
fault_stays false bytes more (UnknownType k) h = h
fault_stays false bytes more NoTerminator h = h
fault_stays false bytes more Memory h = h
fault_stays true bytes more (UnknownType k) h = (omega (arith, h.0, length-append bytes more), first-append bytes more h.0 ∙ h.1, h.2)
fault_stays true bytes more (BadLength n) h = (length_stays bytes more n h.0, λ can. h.1 (as_before bytes more n h.0 can))
  where
    as_before : (bytes more : List ℕ) (n : ℕ) → HasLength bytes n → CanHaveLength (slice_index (bytes ++ more) 0) n → CanHaveLength (slice_index bytes 0) n
    as_before bytes more n has can = subst (λ (i : ℕ). CanHaveLength i n) (first-append bytes more (omega (arith, has.held))) can
fault_stays true bytes more (TooLong n) h = (length_stays bytes more n h.0, subst (λ (i : ℕ). CanHaveLength i n) (sym (first-append bytes more (omega (arith, h.0.held)))) h.1, h.2)
fault_stays true bytes more NoTerminator h = query_stays bytes more h
fault_stays true bytes more BadStartup h = h
fault_stays true bytes more Memory h = h

-- so does one that is kept
pub kept_stays : (started : Bool) (items piece : List ℕ) (start : ℕ) (fault : Option FrameFault) → start ≤ length items → IfSome fault (λ f. HasFault started (drop start items) f)
    → IfSome fault (λ f. HasFault started (drop start (items ++ piece)) f)
kept_stays started items piece start None fits h = tt
kept_stays started items piece start (Some f) fits h = rw (drop-append-le start items piece fits) (fault_stays started (drop start items) piece f h)
