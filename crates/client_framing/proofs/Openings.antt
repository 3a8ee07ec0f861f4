-- A message before the startup's end, in the bytes of the stream.
use Rattle.std.proofs.Common.{◌≡◌, ℕ, ◌+◌, ◌-◌, ◌<◌, ◌≤◌, List, ◌++◌, length, take, drop, refl, sym, ◌∙◌, ap, subst, arith, append_assoc, false}
use Rattle.std.specs.Prelude.{Some}
use Rattle.std.proofs.lemmas.List.{length-append, length-drop, drop-drop, take_at, drop_at, take_all, take-append-drop, drop-append-le}
use Rattle.client_framing.specs.declared.frontend_message.FrontendMessage.{FrontendMessage}
use Rattle.client_framing.specs.declared.frontend_message.FrameFault.{FrameFault}
use Rattle.client_framing.specs.declared.frontend_message.FrameFault.TheVariants.{BadLength, BadStartup, TooLong, UnknownType, NoTerminator, Memory}
use Rattle.client_framing.specs.Spelling.{number_of, code_of, IsBody, IsOpening}
use Rattle.client_framing.specs.Fronts.{TakesFront, HasNoFront, HasFault, HasCode, CannotOpen, IsPartial, number_at}
use Rattle.client_framing.specs.Reading.{CanBeBody, held_body}
use Rattle.client_framing.proofs.Numbers.{number_at-append, length-part, two_parts, take_split}

-- the message at the front, as the bytes say it
pub record ReadsOpening (bytes : List ℕ) (front : FrontendMessage) (more : List ℕ) : Type 0 where
  pub low : 8 ≤ number_at 0 bytes
  pub high : number_at 0 bytes ≤ 10000
  pub whole : number_at 0 bytes ≤ length bytes
  pub code_is : code_of front ≡ Some (number_at 4 bytes)
  pub body_is : IsBody front (held_body bytes)
  pub following : more ≡ drop (number_at 0 bytes) bytes

pub reads_opening : (bytes : List ℕ) (front : FrontendMessage) (more : List ℕ) → TakesFront false bytes front more → ReadsOpening bytes front more
reads_opening bytes front more t = go t.spelled
  where
    go : IsOpening front t.taken → ReadsOpening bytes front more
    go s =
        let a : bytes ≡ s.size ++ (s.code ++ (s.body ++ more)) = t.whole ∙ (ap (λ (x : List ℕ). x ++ more) s.whole ∙ (append_assoc s.size (s.code ++ s.body) more ∙ ap (λ (x : List ℕ). s.size ++ x) (append_assoc s.code s.body more))) in
        let b : drop 4 bytes ≡ s.code ++ (s.body ++ more) = ap (λ (x : List ℕ). drop 4 x) a ∙ drop_at s.size (s.code ++ (s.body ++ more)) 4 s.size_is.0 in
        let d : drop 8 bytes ≡ s.body ++ more = sym (drop-drop 4 4 bytes) ∙ (ap (λ (x : List ℕ). drop 4 x) b ∙ drop_at s.code (s.body ++ more) 4 s.code_held) in
        let n : number_at 0 bytes ≡ 8 + length s.body = ap (λ (x : List ℕ). number_of (take 4 x)) a ∙ (ap (λ (x : List ℕ). number_of x) (take_at s.size (s.code ++ (s.body ++ more)) 4 s.size_is.0) ∙ s.size_is.1) in
        let c : number_at 4 bytes ≡ number_of s.code = ap (λ (x : List ℕ). number_of (take 4 x)) b ∙ ap (λ (x : List ℕ). number_of x) (take_at s.code (s.body ++ more) 4 s.code_held) in
        let lens : length bytes ≡ length s.size + (length s.code + (length s.body + length more)) = ap length a ∙ omega (arith, length-append s.size (s.code ++ (s.body ++ more)), length-append s.code (s.body ++ more), length-append s.body more) in
        let same : held_body bytes ≡ s.body = ap (λ (x : List ℕ). take (number_at 0 bytes - 8) x) d ∙ take_at s.body more (number_at 0 bytes - 8) (omega (arith, n)) in
        let k : 8 + length s.body ≡ number_at 0 bytes = omega (arith, n) in
        record {
          low = omega (arith, n);
          high = omega (arith, n, s.fits);
          whole = omega (arith, n, lens, s.size_is.0, s.code_held);
          code_is = s.code_is ∙ ap (λ (i : ℕ). Some i) (sym c);
          body_is = (let P : List ℕ → Type 0 = λ (x : List ℕ). IsBody front x in subst P (sym same) s.body_is);
          following = sym (sym (ap (λ (i : ℕ). drop i bytes) k) ∙ (sym (drop-drop (length s.body) 8 bytes) ∙ (ap (λ (x : List ℕ). drop (length s.body) x) d ∙ drop_at s.body more (length s.body) refl)));
        }

-- what the bytes say is a message
pub opening_stands : (bytes : List ℕ) (front : FrontendMessage) (len : ℕ) → len ≡ number_at 0 bytes → 8 ≤ len → len ≤ 10000 → len ≤ length bytes → code_of front ≡ Some (number_at 4 bytes)
    → IsBody front (take (len - 8) (drop 8 bytes)) → TakesFront false bytes front (drop len bytes)
opening_stands bytes front len e low high whole code_is body_is =
    let body = take (len - 8) (drop 8 bytes) in
    let size = take 4 bytes in
    let code = take 4 (drop 4 bytes) in
    let long : length body ≡ len - 8 = length-part bytes 8 (len - 8) (omega arith) in
    let four : length size ≡ 4 = length-part bytes 0 4 (omega arith) in
    let more_four : length code ≡ 4 = length-part bytes 4 4 (omega arith) in
    let k : 8 + (len - 8) ≡ len = omega arith in
    let a : bytes ≡ size ++ drop 4 bytes = sym (take-append-drop 4 bytes) in
    let b : drop 4 bytes ≡ code ++ drop 8 bytes = two_parts bytes 4 4 in
    let d : drop 8 bytes ≡ body ++ drop len bytes = two_parts bytes 8 (len - 8) ∙ ap (λ (i : ℕ). body ++ drop i bytes) k in
    record {
      taken = size ++ (code ++ body);
      spelled = record {
        size = size;
        code = code;
        body = body;
        whole = refl;
        size_is = (four, sym e ∙ omega arith);
        fits = omega arith;
        code_held = more_four;
        code_is = code_is;
        body_is = body_is;
      };
      whole = a ∙ join size (drop 4 bytes) code (drop 8 bytes) body (drop len bytes) b d;
    }
  where
    join : (p q r s t u : List ℕ) → q ≡ r ++ s → s ≡ t ++ u → p ++ q ≡ (p ++ (r ++ t)) ++ u
    join p q r s t u e f = rw (e, f) (sym (simp append_assoc))

-- what is held can be the body of a message, where a message will stand
pub body_before : (bytes more : List ℕ) (front : FrontendMessage) (rest : List ℕ) → HasCode bytes → TakesFront false (bytes ++ more) front rest → CanBeBody (number_at 4 bytes) (number_at 0 bytes - 8) (held_body bytes)
body_before bytes more front rest has t =
    let o = reads_opening (bytes ++ more) front rest t in
    let held : 8 ≤ length bytes = has.held in
    let n : number_at 0 (bytes ++ more) ≡ number_at 0 bytes = number_at-append 0 bytes more (omega arith) in
    let c : number_at 4 (bytes ++ more) ≡ number_at 4 bytes = number_at-append 4 bytes more (omega arith) in
    let d : drop 8 (bytes ++ more) ≡ drop 8 bytes ++ more = drop-append-le 8 bytes more (omega arith) in
    let s = take_split (number_at 0 bytes - 8) (drop 8 bytes) more in
    let same : held_body (bytes ++ more) ≡ held_body bytes ++ s.0 = ap (λ (i : ℕ). take (i - 8) (drop 8 (bytes ++ more))) n ∙ (ap (λ (x : List ℕ). take (number_at 0 bytes - 8) x) d ∙ s.1) in
    let low : 8 ≤ number_at 0 (bytes ++ more) = o.low in
    let whole : number_at 0 (bytes ++ more) ≤ length (bytes ++ more) = o.whole in
    let long : length (held_body (bytes ++ more)) ≡ number_at 0 (bytes ++ more) - 8 = length-part (bytes ++ more) 8 (number_at 0 (bytes ++ more) - 8) (omega arith) in
    record {
      front = front;
      more = s.0;
      code_is = o.code_is ∙ ap (λ (i : ℕ). Some i) c;
      body_is = (let P : List ℕ → Type 0 = λ (x : List ℕ). IsBody front x in subst P same o.body_is);
      fills = sym (ap length same) ∙ (long ∙ ap (λ (i : ℕ). i - 8) n);
    }

-- a message will stand where what is held can be its body
pub opens_later : (bytes : List ℕ) → HasCode bytes → CanBeBody (number_at 4 bytes) (number_at 0 bytes - 8) (held_body bytes) → length bytes < number_at 0 bytes → CannotOpen bytes → ⊥
opens_later bytes has can in_part none =
    let held : 8 ≤ length bytes = has.held in
    let low : 8 ≤ number_at 0 bytes = has.low in
    let high : number_at 0 bytes ≤ 10000 = has.high in
    let all : held_body bytes ≡ drop 8 bytes = take_all (number_at 0 bytes - 8) (drop 8 bytes) (rw length-drop (omega arith)) in
    let n : number_at 0 (bytes ++ can.more) ≡ number_at 0 bytes = number_at-append 0 bytes can.more (omega arith) in
    let c : number_at 4 (bytes ++ can.more) ≡ number_at 4 bytes = number_at-append 4 bytes can.more (omega arith) in
    let d : drop 8 (bytes ++ can.more) ≡ held_body bytes ++ can.more = drop-append-le 8 bytes can.more (omega arith) ∙ ap (λ (x : List ℕ). x ++ can.more) (sym all) in
    let long : length (bytes ++ can.more) ≡ number_at 0 bytes = omega (arith, can.fills, length-append bytes can.more, length-append (held_body bytes) can.more, ap length all, length-drop 8 bytes) in
    let same : take (number_at 0 bytes - 8) (drop 8 (bytes ++ can.more)) ≡ held_body bytes ++ can.more = ap (λ (x : List ℕ). take (number_at 0 bytes - 8) x) d ∙ take_all (number_at 0 bytes - 8) (held_body bytes ++ can.more) (omega (arith, can.fills)) in
    none can.more can.front (drop (number_at 0 bytes) (bytes ++ can.more))
    (opening_stands (bytes ++ can.more) can.front (number_at 0 bytes) (sym n) low high (omega arith) (can.code_is ∙ ap (λ (i : ℕ). Some i) (sym c))
    (let P : List ℕ → Type 0 = λ (x : List ℕ). IsBody can.front x in subst P (sym same) can.body_is))

-- a message that isn't whole, of which nothing that is held is wrong
pub record IsGoodSoFar (bytes : List ℕ) : Type 0 where
  pub low : 4 ≤ length bytes → 8 ≤ number_at 0 bytes
  pub high : 4 ≤ length bytes → number_at 0 bytes ≤ 10000
  pub in_part : 8 ≤ length bytes → length bytes < number_at 0 bytes
  pub body : HasCode bytes → CanBeBody (number_at 4 bytes) (number_at 0 bytes - 8) (held_body bytes)

pub opening_partial : (bytes : List ℕ) → IsGoodSoFar bytes → IsPartial false bytes
opening_partial bytes g = record { no_front = fronts; no_fault = faults }
  where
    fronts : HasNoFront false bytes
    fronts front more t =
        let o = reads_opening bytes front more t in
        let low : 8 ≤ number_at 0 bytes = o.low in
        let whole : number_at 0 bytes ≤ length bytes = o.whole in
        let in_part : length bytes < number_at 0 bytes = g.in_part (omega arith) in
        omega arith

    faults : (fault : FrameFault) → HasFault false bytes fault → ⊥
    faults (BadLength n) h = let low : 8 ≤ number_at 0 bytes = g.low h.0 in omega (arith, h.1, h.2)
    faults (TooLong n) h = let high : number_at 0 bytes ≤ 10000 = g.high h.0 in omega (arith, h.1, h.2)
    faults BadStartup h = opens_later bytes h.0 (g.body h.0) (g.in_part h.0.held) h.1
    faults (UnknownType k) h = h
    faults NoTerminator h = h
    faults Memory h = h

-- fewer than four bytes
pub no_length_yet : (bytes : List ℕ) → length bytes < 4 → IsPartial false bytes
no_length_yet bytes few = opening_partial bytes (record { low = λ h. absurd (omega arith); high = λ h. absurd (omega arith); in_part = λ h. absurd (omega arith); body = λ h. absurd (omega (arith, h.held)) })

-- what the code holds, as the bytes say it
as_held : (bytes held : List ℕ) (len code : ℕ) → len ≡ number_at 0 bytes → code ≡ number_at 4 bytes → held ≡ take (len - 8) (drop 8 bytes) → CanBeBody code (len - 8) held
    → CanBeBody (number_at 4 bytes) (number_at 0 bytes - 8) (held_body bytes)
as_held bytes held len code e f h can =
    subst (λ (n : ℕ). CanBeBody (number_at 4 bytes) (n - 8) (take (n - 8) (drop 8 bytes))) e (subst (λ (c : ℕ). CanBeBody c (len - 8) (take (len - 8) (drop 8 bytes))) f (subst (λ (x : List ℕ). CanBeBody code (len - 8) x) h can))

-- a good length and a code are held, and what is held of the body can be one
pub body_in_part : (bytes held : List ℕ) (len code : ℕ) → len ≡ number_at 0 bytes → code ≡ number_at 4 bytes → held ≡ take (len - 8) (drop 8 bytes) → 8 ≤ len → len ≤ 10000
    → CanBeBody code (len - 8) held → length bytes < len → IsPartial false bytes
body_in_part bytes held len code e f h low high can in_part =
    opening_partial bytes (record { low = λ _. omega arith; high = λ _. omega arith; in_part = λ _. omega arith; body = λ _. as_held bytes held len code e f h can })

-- what is held of the body can't be one
pub body_is_bad : (bytes held : List ℕ) (len code : ℕ) → 8 ≤ length bytes → len ≡ number_at 0 bytes → code ≡ number_at 4 bytes → held ≡ take (len - 8) (drop 8 bytes) → 8 ≤ len → len ≤ 10000
    → (CanBeBody code (len - 8) held → ⊥) → HasFault false bytes BadStartup
body_is_bad bytes held len code many e f h low high none = (has, λ more front rest t. none (from_held (body_before bytes more front rest has t)))
  where
    has : HasCode bytes
    has = record { held = many; low = omega arith; high = omega arith }

    from_held : CanBeBody (number_at 4 bytes) (number_at 0 bytes - 8) (held_body bytes) → CanBeBody code (len - 8) held
    from_held can =
        subst (λ (x : List ℕ). CanBeBody code (len - 8) x) (sym h)
        (subst (λ (c : ℕ). CanBeBody c (len - 8) (take (len - 8) (drop 8 bytes))) (sym f) (subst (λ (n : ℕ). CanBeBody (number_at 4 bytes) (n - 8) (take (n - 8) (drop 8 bytes))) (sym e) can))
