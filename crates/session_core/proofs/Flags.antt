-- The sign of a lack of memory is that of the record, and so is the number of the session.
use Rattle.std.proofs.Common.{◌≡◌, Bool, true, false, ℕ, List, [], ◌∷◌, ◌++◌, refl, sym, ◌∙◌, ap, Option, Some, None}
use Rattle.std.specs.Prelude.{◌||◌, is_some}
use Rattle.history_core.specs.declared.event.Event.{Event}
use Rattle.history_core.specs.declared.fault.BookFault.TheVariants as faults
use Rattle.block_machine.specs.declared.call.Answer.{Answer}
use Rattle.block_machine.specs.declared.call.Answer.TheVariants as answers
use Rattle.block_machine.specs.Script.{Entry, did, refused, short, unsent, stop, is_short, has_short}
use Rattle.block_machine.specs.Stages.{entry_for, lacks_memory}
use Rattle.session_core.specs.declared.turns.Shortage.{Shortage}
use Rattle.session_core.specs.Told.{opened_after, opened_from, opened_in}
use Rattle.session_core.specs.Steps.{with_out_of_memory}

or_assoc : (a b c : Bool) → ((a || b) || c) ≡ (a || (b || c))
or_assoc true b c = refl
or_assoc false b c = refl

or_false : (a : Bool) → (a || false) ≡ a
or_false true = refl
or_false false = refl

has_short-append : (xs ys : List Entry) → has_short (xs ++ ys) ≡ (has_short xs || has_short ys)
has_short-append [] ys = refl
has_short-append (x ∷ xs) ys =
    ap (λ b. is_short x || b) (has_short-append xs ys) ∙ sym (or_assoc (is_short x) (has_short xs) (has_short ys))

has_short-with_out_of_memory : (w : Option Shortage) (sent : List ℕ) → has_short (with_out_of_memory w sent []) ≡ is_some w
has_short-with_out_of_memory (Some shortage) sent = refl
has_short-with_out_of_memory None sent = refl

-- a lack of memory may stand after
pub flag-fed : (flag now : Bool) (w : Option Shortage) (es : List Entry) (sent : List ℕ) → flag ≡ has_short es → now ≡ (flag || is_some w) →
    now ≡ has_short (es ++ with_out_of_memory w sent [])
flag-fed flag now w es sent e f =
    f ∙ ap (λ b. b || is_some w) e ∙ ap (λ b. has_short es || b) (sym (has_short-with_out_of_memory w sent))
    ∙ sym (has_short-append es (with_out_of_memory w sent []))

pub flag-one : (flag now b : Bool) (es : List Entry) (e : Entry) → flag ≡ has_short es → now ≡ (flag || b) → is_short e ≡ b →
    now ≡ has_short (es ++ e ∷ [])
flag-one flag now b es e f g h =
    g ∙ ap (λ x. x || b) f ∙ ap (λ x. has_short es || x) (sym h ∙ sym (or_false (is_short e))) ∙ sym (has_short-append es (e ∷ []))

pub flag-kept : (flag : Bool) (es : List Entry) (e : Entry) → flag ≡ has_short es → is_short e ≡ false → flag ≡ has_short (es ++ e ∷ [])
flag-kept flag es e f h =
    f ∙ sym (or_false (has_short es)) ∙ ap (λ x. has_short es || x) (sym h ∙ sym (or_false (is_short e)))
    ∙ sym (has_short-append es (e ∷ []))

-- the entry of an answer
pub is_short-entry : (a : Answer) (e : Event) → is_short (entry_for a e) ≡ lacks_memory a
is_short-entry (answers.Refused faults.Memory) e = refl
is_short-entry (answers.Refused (faults.Full limit)) e = refl
is_short-entry (answers.Opened n) e = refl
is_short-entry answers.Closed e = refl
is_short-entry (answers.Looked ts) e = refl
is_short-entry (answers.Defined d) e = refl
is_short-entry (answers.Begun n) e = refl
is_short-entry (answers.Listed ks) e = refl
is_short-entry (answers.Found v) e = refl
is_short-entry answers.Written e = refl
is_short-entry answers.Committed e = refl
is_short-entry answers.RolledBack e = refl
is_short-entry (answers.Shown n) e = refl

-- an answer, and a lack of memory that may stand after it
pub flag-answered : (flag now both a_lacks : Bool) (w : Option Shortage) (es : List Entry) (a : Answer) (e : Event) (sent : List ℕ) →
    flag ≡ has_short es → now ≡ (flag || both) → both ≡ (a_lacks || is_some w) →
    a_lacks ≡ lacks_memory a → now ≡ has_short ((es ++ entry_for a e ∷ []) ++ with_out_of_memory w sent [])
flag-answered flag now both a_lacks w es a e sent f g h k =
    flag-fed (flag || a_lacks) now w (es ++ entry_for a e ∷ []) sent
    (flag-one flag (flag || a_lacks) a_lacks es (entry_for a e) f refl (is_short-entry a e ∙ sym k))
    (g ∙ ap (λ b. flag || b) h ∙ sym (or_assoc flag a_lacks (is_some w)))

-- ---- the number of the session

pub opened-append : (n : Option ℕ) (xs ys : List Entry) → opened_from n (xs ++ ys) ≡ opened_from (opened_from n xs) ys
opened-append n [] ys = refl
opened-append n (did a e ∷ xs) ys = opened-append (opened_after n a) xs ys
opened-append n (refused why ∷ xs) ys = opened-append n xs ys
opened-append n (short final k ∷ xs) ys = opened-append n xs ys
opened-append n (unsent k ∷ xs) ys = opened-append n xs ys
opened-append n (stop cause ∷ xs) ys = opened-append n xs ys

opened-out_of_memory : (n : Option ℕ) (w : Option Shortage) (sent : List ℕ) → opened_from n (with_out_of_memory w sent []) ≡ n
opened-out_of_memory n None sent = refl
opened-out_of_memory n (Some shortage) sent = refl

opened-entry : (n : Option ℕ) (a : Answer) (e : Event) → opened_from n (entry_for a e ∷ []) ≡ opened_after n a
opened-entry n (answers.Refused why) e = refl
opened-entry n (answers.Opened k) e = refl
opened-entry n answers.Closed e = refl
opened-entry n (answers.Looked ts) e = refl
opened-entry n (answers.Defined d) e = refl
opened-entry n (answers.Begun k) e = refl
opened-entry n (answers.Listed ks) e = refl
opened-entry n (answers.Found v) e = refl
opened-entry n answers.Written e = refl
opened-entry n answers.Committed e = refl
opened-entry n answers.RolledBack e = refl
opened-entry n (answers.Shown k) e = refl

pub number-fed : (number : Option ℕ) (w : Option Shortage) (es : List Entry) (sent : List ℕ) → number ≡ opened_in es →
    number ≡ opened_in (es ++ with_out_of_memory w sent [])
number-fed number w es sent e = e ∙ sym (opened-append None es (with_out_of_memory w sent []) ∙ opened-out_of_memory (opened_in es) w sent)

pub number-answered : (number now : Option ℕ) (w : Option Shortage) (es : List Entry) (a : Answer) (e : Event) (sent : List ℕ) →
    number ≡ opened_in es → now ≡ opened_after number a →
    now ≡ opened_in ((es ++ entry_for a e ∷ []) ++ with_out_of_memory w sent [])
number-answered number now w es a e sent h k =
    number-fed now w (es ++ entry_for a e ∷ []) sent
    (k ∙ ap (λ (n : Option ℕ). opened_after n a) h ∙ sym (opened-append None es (entry_for a e ∷ []) ∙ opened-entry (opened_in es) a e))

pub number-stopped : (number : Option ℕ) (es : List Entry) (x : Entry) → opened_from number (x ∷ []) ≡ number → number ≡ opened_in es →
    number ≡ opened_in (es ++ x ∷ [])
number-stopped number es x same h = sym same ∙ ap (λ (n : Option ℕ). opened_from n (x ∷ [])) h ∙ sym (opened-append None es (x ∷ []))
