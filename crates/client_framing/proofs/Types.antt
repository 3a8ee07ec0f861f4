-- The message that a type byte and a body stand for, and the lengths that it can have.
use Rattle.std.proofs.Common.{◌≡◌, ℕ, ◌+◌, ◌-◌, ◌≤◌, List, [], ◌∷◌, ◌++◌, length, take, refl, sym, ◌∙◌, ap, subst, arith, cond, eqb, leb, inl, inr}
use Rattle.std.specs.Prelude.{◌⊎◌, ◌↔◌, IsTrue, Some}
use Rattle.std.proofs.lemmas.Bool.{eq-eqb, eqb-true, leb-true, le-leb}
use Rattle.std.proofs.lemmas.List.{length-append, take_at, nil_from_length}
use Rattle.std.proofs.lemmas.Option.{none-some, same_Some}
use Rattle.client_framing.specs.declared.frontend_message.FrontendMessage.{FrontendMessage}
use Rattle.client_framing.specs.declared.frontend_message.FrontendMessage.TheVariants.{Query, Terminate, Sync, Flush, Extended, FunctionCall, Copy}
use Rattle.client_framing.specs.declared.frontend_message.Extended as extended
use Rattle.client_framing.specs.declared.frontend_message.CopyMessage as copies
use Rattle.client_framing.specs.declared.frontend_message.Extended.TheVariants.{Parse, Bind, Describe, Execute, Close}
use Rattle.client_framing.specs.declared.frontend_message.CopyMessage.TheVariants.{Data, Done, Fail}
use Rattle.client_framing.specs.declared.message_type.MessageType.{MessageType}
use Rattle.client_framing.specs.declared.message_type.MessageType.TheVariants as types
use Rattle.client_framing.specs.Spelling.{type_of, IsBody}
use Rattle.client_framing.specs.Fronts.{IsType, CanHaveLength, IsNoText}
use Rattle.client_framing.specs.Reading.{byte_of}
use Rattle.cell_base.proofs.Zeros.{has_no_zero}
use Rattle.client_framing.proofs.Zeros.{ones, length-ones, no_zero-ones}

-- the message of this type byte and body
abbrev pub named : ℕ → List ℕ → FrontendMessage
named kind body =
    cond (eqb kind 81) (Query (take (length body - 1) body))
    (cond (eqb kind 88) Terminate
    (cond (eqb kind 83) Sync
    (cond (eqb kind 72) Flush
    (cond (eqb kind 80) (Extended Parse)
    (cond (eqb kind 66) (Extended Bind)
    (cond (eqb kind 68) (Extended Describe)
    (cond (eqb kind 69) (Extended Execute)
    (cond (eqb kind 67) (Extended Close)
    (cond (eqb kind 70) FunctionCall
    (cond (eqb kind 100) (Copy Data)
    (cond (eqb kind 99) (Copy Done) (Copy Fail))))))))))))

-- a type has a message
pub is_type : (kind : MessageType) → IsType (byte_of kind)
is_type types.Query = record { front = Query []; kind_is = refl }
is_type types.Terminate = record { front = Terminate; kind_is = refl }
is_type types.Sync = record { front = Sync; kind_is = refl }
is_type types.Flush = record { front = Flush; kind_is = refl }
is_type (types.Extended Parse) = record { front = Extended Parse; kind_is = refl }
is_type (types.Extended Bind) = record { front = Extended Bind; kind_is = refl }
is_type (types.Extended Describe) = record { front = Extended Describe; kind_is = refl }
is_type (types.Extended Execute) = record { front = Extended Execute; kind_is = refl }
is_type (types.Extended Close) = record { front = Extended Close; kind_is = refl }
is_type types.FunctionCall = record { front = FunctionCall; kind_is = refl }
is_type (types.Copy Data) = record { front = Copy Data; kind_is = refl }
is_type (types.Copy Done) = record { front = Copy Done; kind_is = refl }
is_type (types.Copy Fail) = record { front = Copy Fail; kind_is = refl }

-- the message is that one, where it is that of a number
as_named : (front : FrontendMessage) (body : List ℕ) (n kind : ℕ) → Some n ≡ Some kind → front ≡ named n body → front ≡ named kind body
as_named front body n kind e is = subst (λ (k : ℕ). front ≡ named k body) (same_Some n kind e) is

pub is_named : (front : FrontendMessage) (kind : ℕ) (body : List ℕ) → type_of front ≡ Some kind → IsBody front body → front ≡ named kind body
is_named (Query text) kind body e h = as_named (Query text) body 81 kind e (ap (λ (x : List ℕ). Query x) text_is)
  where
    text_is : text ≡ take (length body - 1) body
    text_is = sym (ap (λ (x : List ℕ). take (length body - 1) x) h.1 ∙ take_at text (0 ∷ []) (length body - 1) (omega (arith, ap length h.1, length-append text (0 ∷ []))))
is_named Terminate kind body e h = as_named Terminate body 88 kind e refl
is_named Sync kind body e h = as_named Sync body 83 kind e refl
is_named Flush kind body e h = as_named Flush body 72 kind e refl
is_named (Extended Parse) kind body e h = as_named (Extended Parse) body 80 kind e refl
is_named (Extended Bind) kind body e h = as_named (Extended Bind) body 66 kind e refl
is_named (Extended Describe) kind body e h = as_named (Extended Describe) body 68 kind e refl
is_named (Extended Execute) kind body e h = as_named (Extended Execute) body 69 kind e refl
is_named (Extended Close) kind body e h = as_named (Extended Close) body 67 kind e refl
is_named FunctionCall kind body e h = as_named FunctionCall body 70 kind e refl
is_named (Copy Data) kind body e h = as_named (Copy Data) body 100 kind e refl
is_named (Copy Done) kind body e h = as_named (Copy Done) body 99 kind e refl
is_named (Copy Fail) kind body e h = as_named (Copy Fail) body 102 kind e refl
is_named _ kind body e h = absurd (none-some kind e)

-- a type byte and a body determine their message
pub type_unique : (f g : FrontendMessage) (kind : ℕ) (body : List ℕ) → type_of f ≡ Some kind → type_of g ≡ Some kind → IsBody f body → IsBody g body → f ≡ g
type_unique f g kind body e k h j = is_named f kind body e h ∙ sym (is_named g kind body k j)

-- the body is that of the message that its type byte names
pub body_named : (front : FrontendMessage) (kind : ℕ) (body : List ℕ) → type_of front ≡ Some kind → IsBody front body → IsBody (named kind body) body
body_named front kind body e h = let P : FrontendMessage → Type 0 = λ (f : FrontendMessage). IsBody f body in subst P (is_named front kind body e h) h

-- a query's body is a text
pub query_body : (front : FrontendMessage) (body : List ℕ) → type_of front ≡ Some 81 → IsBody front body → IsNoText body → ⊥
query_body front body e h none = none (take (length body - 1) body) (body_named front 81 body e h)

-- the lengths of a query
pub query_can : (len : ℕ) → 5 ≤ len → CanHaveLength 81 len
query_can len low = record {
  front = Query (ones (len - 5));
  body = ones (len - 5) ++ 0 ∷ [];
  kind_is = refl;
  body_is = (has_no_zero (ones (len - 5)) (no_zero-ones (len - 5)), refl);
  length_is = omega (arith, length-append (ones (len - 5)) (0 ∷ []), length-ones (len - 5));
}

pub query_needs : (len : ℕ) → CanHaveLength 81 len → 5 ≤ len
query_needs len can =
    let h = body_named can.front 81 can.body can.kind_is can.body_is in
    omega (arith, can.length_is, ap length h.1, length-append (take (length can.body - 1) can.body) (0 ∷ []))

pub query_length : (kind : MessageType) (len : ℕ) → kind ≡ types.Query → IsTrue (leb 5 len) ↔ CanHaveLength (byte_of kind) len
query_length kind len e = rw e (λ t. query_can len (leb-true 5 len t), λ can. le-leb 5 len (query_needs len can))

-- the only length of a message without a body
pub terminate_empty : (len : ℕ) (body : List ℕ) → CanHaveLength 88 len → 4 + length body ≡ len → body ≡ []
terminate_empty len body can e = let h = body_named can.front 88 can.body can.kind_is can.body_is in nil_from_length body (omega (arith, can.length_is, ap length h))

pub sync_empty : (len : ℕ) (body : List ℕ) → CanHaveLength 83 len → 4 + length body ≡ len → body ≡ []
sync_empty len body can e = let h = body_named can.front 83 can.body can.kind_is can.body_is in nil_from_length body (omega (arith, can.length_is, ap length h))

pub flush_empty : (len : ℕ) (body : List ℕ) → CanHaveLength 72 len → 4 + length body ≡ len → body ≡ []
flush_empty len body can e = let h = body_named can.front 72 can.body can.kind_is can.body_is in nil_from_length body (omega (arith, can.length_is, ap length h))

bare_can : (front : FrontendMessage) (kind len : ℕ) → type_of front ≡ Some kind → IsBody front [] → len ≡ 4 → CanHaveLength kind len
bare_can front kind len e h four = record { front = front; body = []; kind_is = e; body_is = h; length_is = sym four }

four_from : (kind len : ℕ) → ((body : List ℕ) → CanHaveLength kind len → 4 + length body ≡ len → body ≡ []) → CanHaveLength kind len → IsTrue (eqb len 4)
four_from kind len empty can = eq-eqb len 4 (omega (arith, can.length_is, ap length (empty can.body can can.length_is)))

pub bare_length : (kind : MessageType) (len : ℕ) → (kind ≡ types.Terminate) ⊎ ((kind ≡ types.Sync) ⊎ (kind ≡ types.Flush)) → IsTrue (eqb len 4) ↔ CanHaveLength (byte_of kind) len
bare_length kind len is = elim is [ inl e ↦ rw e terminate | inr or ↦ elim or [ inl e ↦ rw e sync | inr e ↦ rw e flush ] ]
  where
    terminate : IsTrue (eqb len 4) ↔ CanHaveLength 88 len
    terminate = (λ t. bare_can Terminate 88 len refl refl (eqb-true len 4 t), four_from 88 len (λ body. terminate_empty len body))

    sync : IsTrue (eqb len 4) ↔ CanHaveLength 83 len
    sync = (λ t. bare_can Sync 83 len refl refl (eqb-true len 4 t), four_from 83 len (λ body. sync_empty len body))

    flush : IsTrue (eqb len 4) ↔ CanHaveLength 72 len
    flush = (λ t. bare_can Flush 72 len refl refl (eqb-true len 4 t), four_from 72 len (λ body. flush_empty len body))

-- the lengths of a message that may have any body
free_tells : (front : FrontendMessage) (kind len : ℕ) → type_of front ≡ Some kind → ((body : List ℕ) → IsBody front body) → IsTrue (leb 4 len) ↔ CanHaveLength kind len
free_tells front kind len e any = (
  λ t. let low : 4 ≤ len = leb-true 4 len t in record { front = front; body = ones (len - 4); kind_is = e; body_is = any (ones (len - 4)); length_is = omega (arith, length-ones (len - 4)) },
  λ can. le-leb 4 len (omega (arith, can.length_is)),
)

extended_length : (message : extended.Extended) (len : ℕ) → IsTrue (leb 4 len) ↔ CanHaveLength (byte_of (types.Extended message)) len
extended_length Parse len = free_tells (Extended Parse) 80 len refl (λ body. tt)
extended_length Bind len = free_tells (Extended Bind) 66 len refl (λ body. tt)
extended_length Describe len = free_tells (Extended Describe) 68 len refl (λ body. tt)
extended_length Execute len = free_tells (Extended Execute) 69 len refl (λ body. tt)
extended_length Close len = free_tells (Extended Close) 67 len refl (λ body. tt)

copy_length : (message : copies.CopyMessage) (len : ℕ) → IsTrue (leb 4 len) ↔ CanHaveLength (byte_of (types.Copy message)) len
copy_length Data len = free_tells (Copy Data) 100 len refl (λ body. tt)
copy_length Done len = free_tells (Copy Done) 99 len refl (λ body. tt)
copy_length Fail len = free_tells (Copy Fail) 102 len refl (λ body. tt)

pub free_length : (kind : MessageType) (len : ℕ) → ((x : extended.Extended) × (kind ≡ types.Extended x)) ⊎ ((kind ≡ types.FunctionCall) ⊎ ((x : copies.CopyMessage) × (kind ≡ types.Copy x)))
    → IsTrue (leb 4 len) ↔ CanHaveLength (byte_of kind) len
free_length kind len is = elim is [ inl a ↦ rw a.1 (extended_length a.0 len) | inr or ↦ elim or [ inl e ↦ rw e (free_tells FunctionCall 70 len refl (λ body. tt)) | inr a ↦ rw a.1 (copy_length a.0 len) ] ]
