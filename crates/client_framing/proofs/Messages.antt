-- A message after the startup, in the bytes of the stream.
use Rattle.std.proofs.Common.{◌≡◌, ◌≢◌, ℕ, ◌+◌, ◌-◌, ◌<◌, ◌≤◌, List, [], ◌∷◌, ◌++◌, length, take, drop, refl, sym, ◌∙◌, ap, subst, arith, append_assoc, true}
use Rattle.std.specs.Prelude.{slice_index, Some}
use Rattle.std.proofs.lemmas.List.{length-append, drop-drop, take_at, drop_at}
use Rattle.client_framing.specs.declared.frontend_message.FrontendMessage.{FrontendMessage}
use Rattle.client_framing.specs.declared.frontend_message.FrameFault.{FrameFault}
use Rattle.client_framing.specs.declared.frontend_message.FrameFault.TheVariants.{BadLength, BadStartup, TooLong, UnknownType, NoTerminator, Memory}
use Rattle.client_framing.specs.declared.message_type.MessageType.{MessageType}
use Rattle.client_framing.specs.Spelling.{number_of, type_of, IsBody, IsMessage}
use Rattle.client_framing.specs.Fronts.{TakesFront, HasNoFront, HasFault, IsType, CanHaveLength, IsNoText, IsPartial, number_at, body_at_front}
use Rattle.client_framing.specs.Reading.{byte_of}
use Rattle.client_framing.proofs.Numbers.{length-part, two_parts}
use Rattle.client_framing.proofs.Types.{is_type, query_needs}

-- the message at the front, as the bytes say it
pub record ReadsMessage (bytes : List ℕ) (front : FrontendMessage) (more : List ℕ) : Type 0 where
  pub low : 4 ≤ number_at 1 bytes
  pub high : number_at 1 bytes ≤ 1048576
  pub whole : 1 + number_at 1 bytes ≤ length bytes
  pub kind_is : type_of front ≡ Some (slice_index bytes 0)
  pub body_is : IsBody front (body_at_front bytes)
  pub following : more ≡ drop (1 + number_at 1 bytes) bytes

pub reads_message : (bytes : List ℕ) (front : FrontendMessage) (more : List ℕ) → TakesFront true bytes front more → ReadsMessage bytes front more
reads_message bytes front more t = go t.spelled
  where
    go : IsMessage front t.taken → ReadsMessage bytes front more
    go s =
        let a : bytes ≡ s.kind ∷ (s.size ++ (s.body ++ more)) = t.whole ∙ (ap (λ (x : List ℕ). x ++ more) s.whole ∙ ap (λ (x : List ℕ). s.kind ∷ x) (append_assoc s.size s.body more)) in
        let b : drop 1 bytes ≡ s.size ++ (s.body ++ more) = ap (λ (x : List ℕ). drop 1 x) a in
        let d : drop 5 bytes ≡ s.body ++ more = sym (drop-drop 4 1 bytes) ∙ (ap (λ (x : List ℕ). drop 4 x) b ∙ drop_at s.size (s.body ++ more) 4 s.size_is.0) in
        let n : number_at 1 bytes ≡ 4 + length s.body = ap (λ (x : List ℕ). number_of (take 4 x)) b ∙ (ap (λ (x : List ℕ). number_of x) (take_at s.size (s.body ++ more) 4 s.size_is.0) ∙ s.size_is.1) in
        let lens : length bytes ≡ 1 + (length s.size + (length s.body + length more)) = ap length a ∙ omega (arith, length-append s.size (s.body ++ more), length-append s.body more) in
        let same : body_at_front bytes ≡ s.body = ap (λ (x : List ℕ). take (number_at 1 bytes - 4) x) d ∙ take_at s.body more (number_at 1 bytes - 4) (omega (arith, n)) in
        let k : 5 + length s.body ≡ 1 + number_at 1 bytes = omega (arith, n) in
        record {
          low = omega (arith, n);
          high = omega (arith, n, s.fits);
          whole = omega (arith, n, lens, s.size_is.0);
          kind_is = s.kind_is ∙ ap (λ (i : ℕ). Some i) (sym (ap (λ (x : List ℕ). slice_index x 0) a));
          body_is = (let P : List ℕ → Type 0 = λ (x : List ℕ). IsBody front x in subst P (sym same) s.body_is);
          following = sym (sym (ap (λ (i : ℕ). drop i bytes) k) ∙ (sym (drop-drop (length s.body) 5 bytes) ∙ (ap (λ (x : List ℕ). drop (length s.body) x) d ∙ drop_at s.body more (length s.body) refl)));
        }

head_tail : (bytes : List ℕ) → 0 < length bytes → bytes ≡ slice_index bytes 0 ∷ drop 1 bytes
head_tail [] h = absurd (omega arith)
head_tail (x ∷ bytes) h = refl

-- what the bytes say is a message
pub message_stands : (bytes : List ℕ) (front : FrontendMessage) (len : ℕ) → len ≡ number_at 1 bytes → 4 ≤ len → len ≤ 1048576 → 1 + len ≤ length bytes → type_of front ≡ Some (slice_index bytes 0)
    → IsBody front (take (len - 4) (drop 5 bytes)) → TakesFront true bytes front (drop (1 + len) bytes)
message_stands bytes front len e low high whole kind_is body_is =
    let body = take (len - 4) (drop 5 bytes) in
    let size = take 4 (drop 1 bytes) in
    let long : length body ≡ len - 4 = length-part bytes 5 (len - 4) (omega arith) in
    let four : length size ≡ 4 = length-part bytes 1 4 (omega arith) in
    let k : 5 + (len - 4) ≡ 1 + len = omega arith in
    let b : drop 1 bytes ≡ size ++ drop 5 bytes = two_parts bytes 1 4 in
    let d : drop 5 bytes ≡ body ++ drop (1 + len) bytes = two_parts bytes 5 (len - 4) ∙ ap (λ (i : ℕ). body ++ drop i bytes) k in
    record {
      taken = slice_index bytes 0 ∷ (size ++ body);
      spelled = record {
        kind = slice_index bytes 0;
        size = size;
        body = body;
        whole = refl;
        size_is = (four, sym e ∙ omega arith);
        fits = omega arith;
        kind_is = kind_is;
        body_is = body_is;
      };
      whole =
          head_tail bytes (omega arith)
          ∙ ap (λ (x : List ℕ). slice_index bytes 0 ∷ x) (b ∙ (ap (λ (x : List ℕ). size ++ x) d ∙ sym (append_assoc size body (drop (1 + len) bytes))));
    }

-- a message can have the length that it has
pub has_its_length : (bytes : List ℕ) (front : FrontendMessage) (more : List ℕ) → ReadsMessage bytes front more → CanHaveLength (slice_index bytes 0) (number_at 1 bytes)
has_its_length bytes front more s =
    let low : 4 ≤ number_at 1 bytes = s.low in
    let whole : 1 + number_at 1 bytes ≤ length bytes = s.whole in
    let long : length (body_at_front bytes) ≡ number_at 1 bytes - 4 = length-part bytes 5 (number_at 1 bytes - 4) (omega arith) in
    record { front = front; body = body_at_front bytes; kind_is = s.kind_is; body_is = s.body_is; length_is = omega arith }

-- a message that isn't whole, of which nothing that is held is wrong
pub record IsGoodSoFar (bytes : List ℕ) : Type 0 where
  pub known : 0 < length bytes → IsType (slice_index bytes 0)
  pub length_fits : 5 ≤ length bytes → CanHaveLength (slice_index bytes 0) (number_at 1 bytes)
  pub high : 5 ≤ length bytes → number_at 1 bytes ≤ 1048576
  pub in_part : 5 ≤ length bytes → length bytes < 1 + number_at 1 bytes

pub message_partial : (bytes : List ℕ) → IsGoodSoFar bytes → IsPartial true bytes
message_partial bytes g = record { no_front = fronts; no_fault = faults }
  where
    fronts : HasNoFront true bytes
    fronts front more t =
        let s = reads_message bytes front more t in
        let low : 4 ≤ number_at 1 bytes = s.low in
        let whole : 1 + number_at 1 bytes ≤ length bytes = s.whole in
        let in_part : length bytes < 1 + number_at 1 bytes = g.in_part (omega arith) in
        omega arith

    faults : (fault : FrameFault) → HasFault true bytes fault → ⊥
    faults (UnknownType k) h = h.2 (let P : ℕ → Type 0 = IsType in subst P h.1 (g.known h.0))
    faults (BadLength n) h = h.1 (subst (λ (i : ℕ). CanHaveLength (slice_index bytes 0) i) h.0.length_is (g.length_fits h.0.held))
    faults (TooLong n) h = let high : number_at 1 bytes ≤ 1048576 = g.high h.0.held in omega (arith, h.0.length_is, h.2)
    faults NoTerminator h =
        let low : 5 ≤ number_at 1 bytes = h.0.low in
        let whole : 1 + number_at 1 bytes ≤ length bytes = h.0.whole in
        let in_part : length bytes < 1 + number_at 1 bytes = g.in_part (omega arith) in
        omega arith
    faults BadStartup h = h
    faults Memory h = h

known : (bytes : List ℕ) (kind : MessageType) → byte_of kind ≡ slice_index bytes 0 → IsType (slice_index bytes 0)
known bytes kind is = let P : ℕ → Type 0 = IsType in subst P is (is_type kind)

-- a type byte is held, and no length
pub no_length_held : (bytes : List ℕ) (kind : MessageType) → byte_of kind ≡ slice_index bytes 0 → length bytes < 5 → IsPartial true bytes
no_length_held bytes kind is few = message_partial bytes (record { known = λ _. known bytes kind is; length_fits = λ h. absurd (omega arith); high = λ h. absurd (omega arith); in_part = λ h. absurd (omega arith) })

-- a good length is held
pub not_whole : (bytes : List ℕ) (kind : MessageType) (len : ℕ) → byte_of kind ≡ slice_index bytes 0 → len ≡ number_at 1 bytes → CanHaveLength (byte_of kind) len → len ≤ 1048576 → length bytes < 1 + len → IsPartial true bytes
not_whole bytes kind len is e can high in_part =
    message_partial bytes (record {
      known = λ _. known bytes kind is;
      length_fits = λ _. subst (λ (i : ℕ). CanHaveLength (slice_index bytes 0) i) e (subst (λ (k : ℕ). CanHaveLength k len) is can);
      high = λ _. omega arith;
      in_part = λ _. omega arith;
    })

-- a bad length is held
pub length_is_bad : (bytes : List ℕ) (kind : MessageType) (len : ℕ) → byte_of kind ≡ slice_index bytes 0 → 5 ≤ length bytes → len ≡ number_at 1 bytes → (CanHaveLength (byte_of kind) len → ⊥) → HasFault true bytes (BadLength len)
length_is_bad bytes kind len is many e none =
    (record { held = many; known = known bytes kind is; length_is = sym e }, λ can. none (subst (λ (k : ℕ). CanHaveLength k len) (sym is) can))

-- a query is held whole, and its body is no text
pub text_is_bad : (bytes : List ℕ) (len : ℕ) (kind : MessageType) → byte_of kind ≡ slice_index bytes 0 → len ≡ number_at 1 bytes → CanHaveLength (byte_of kind) len → len ≤ 1048576 → 1 + len ≤ length bytes
    → (fault : FrameFault) → (fault ≢ Memory → fault ≡ NoTerminator) → (fault ≢ Memory → byte_of kind ≡ 81) → (fault ≢ Memory → IsNoText (take (1 + len - 5) (drop 5 bytes))) → fault ≢ Memory → HasFault true bytes fault
text_is_bad bytes len kind is e can high whole fault named query no_text other =
    let q : byte_of kind ≡ 81 = query other in
    let low : 5 ≤ len = query_needs len (subst (λ (k : ℕ). CanHaveLength k len) q can) in
    let n : 1 + len - 5 ≡ number_at 1 bytes - 4 = omega arith in
    let P : FrameFault → Type 0 = λ (f : FrameFault). HasFault true bytes f in
    subst P (sym (named other)) (
      record { kind_is = sym is ∙ q; low = omega arith; high = omega arith; whole = omega arith },
      subst (λ (i : ℕ). IsNoText (take i (drop 5 bytes))) n (no_text other),
    )

-- the message of the code's type, length and body
pub message_found : (bytes : List ℕ) (front : FrontendMessage) (kind : MessageType) (len : ℕ) → byte_of kind ≡ slice_index bytes 0 → len ≡ number_at 1 bytes → CanHaveLength (byte_of kind) len → len ≤ 1048576 → 1 + len ≤ length bytes
    → type_of front ≡ Some (byte_of kind) → IsBody front (take (1 + len - 5) (drop 5 bytes)) → TakesFront true bytes front (drop (1 + len) bytes)
message_found bytes front kind len is e can high whole kind_is body_is =
    let low : 4 ≤ len = omega (arith, can.length_is) in
    let n : 1 + len - 5 ≡ len - 4 = omega arith in
    message_stands bytes front len e low high whole (kind_is ∙ ap (λ (i : ℕ). Some i) is) (subst (λ (i : ℕ). IsBody front (take i (drop 5 bytes))) n body_is)
