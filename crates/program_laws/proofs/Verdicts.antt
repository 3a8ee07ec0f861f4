-- A text has one verdict, and a longer text that begins with one that is too long has the same.
use Rattle.std.proofs.Common.{◌≡◌, inl, inr, ℕ, ◌+◌, ◌<◌, List, [], ◌∷◌, ◌++◌, length, refl, sym, ◌∙◌, ap, subst, arith, append_assoc, length-append}
use Rattle.history_log.specs.declared.log_fault.LogFault.{LogFault}
use Rattle.history_log.specs.declared.log_fault.LogFault.TheVariants as faults
use Rattle.history_log.specs.declared.trace.Trace.{Trace}
use Rattle.history_log.specs.declared.version.Version.{Version}
use Rattle.history_log.specs.Cut.{cut_at}
use Rattle.history_log.specs.Log.{IsLog, newest}
use Rattle.history_log.specs.Faults.{CanGoOn, IsBadLine, IsCutShort, HasFewBytes, HasFault}
use Rattle.history_log.proofs.ByLine.{snoc_same}
use Rattle.history_log.proofs.OneHistory.{same_log, fault_only}
use Rattle.log_file.specs.Text.{trace_of}
use Rattle.history_check.specs.declared.breach.Breach.{Breach}
use Rattle.history_check.specs.Orders.{IsRightTrace, IsFirstBreach}
use Rattle.history_check.proofs.Legal.{legal_trace_unbroken}
use Rattle.history_check.proofs.TraceLaws.{trace_unbroken, trace_breach_one}
use Rattle.check_command.specs.Lines.{breach_words, fault_words, line_of}
use Rattle.check_command.specs.Verdict.{IsVerdict, IsRightLog, IsBreachedLog}
use Rattle.program_laws.specs.Checking.{OneVerdict, ZeroIsRight, IsLegalLog, LegalLogsAreRight, WrittenLogsAreLegal}

-- ---- lists

-- of two fronts of one list the shorter one, with the item after it, begins the longer one
front_of : (xs ys : List (List ℕ)) (x y : List ℕ) (more others : List (List ℕ)) → xs ++ (x ∷ more) ≡ ys ++ (y ∷ others) → length xs < length ys →
    (rest : List (List ℕ)) × (ys ≡ (xs ++ x ∷ []) ++ rest)
front_of [] [] x y more others same less = absurd (omega (arith, less))
front_of [] (z ∷ ys) x y more others same less = let first : z ≡ x = cc in (ys, ap (λ (w : List ℕ). w ∷ ys) first)
front_of (z ∷ xs) [] x y more others same less = absurd (omega (arith, less))
front_of (z ∷ xs) (w ∷ ys) x y more others same less =
    let tails : xs ++ (x ∷ more) ≡ ys ++ (y ∷ others) = cc in
    let first : w ≡ z = cc in
    let r = front_of xs ys x y more others tails (omega (arith, less)) in
    (r.0, ap (λ (v : List ℕ). v ∷ ys) first ∙ ap (λ (vs : List (List ℕ)). z ∷ vs) r.1)

-- ---- one fault

shorter : (begun rest : List (List ℕ)) → CanGoOn (begun ++ rest) → CanGoOn begun
shorter begun rest goes = record {
  version = goes.version;
  trace = goes.trace;
  more = rest ++ goes.more;
  says = goes.says;
  goes = goes.goes ∙ append_assoc begun rest goes.more;
}

later_line : (parts : List (List ℕ)) (m n : ℕ) → IsBadLine parts m → IsBadLine parts n → m < n → ⊥
later_line parts m n a b less =
    let same = (snoc_same (a.before ++ (a.text ∷ a.more)) (b.before ++ (b.text ∷ b.more)) a.rest b.rest (sym a.cut ∙ b.cut)).0 in
    let front = front_of a.before b.before a.text b.text a.more b.more same (omega (arith, a.place, b.place, less)) in
    a.stops (shorter (a.before ++ a.text ∷ []) front.0 (subst CanGoOn front.1 b.begins))

one_line : (parts : List (List ℕ)) (m n : ℕ) → IsBadLine parts m → IsBadLine parts n → m ≡ n
one_line parts m n a b = omega (arith, later_line parts m n a b, later_line parts n m b a)

no_line : (parts : List (List ℕ)) (n : ℕ) → IsCutShort parts → IsBadLine parts n → ⊥
no_line parts n c b =
    let same = (snoc_same c.whole (b.before ++ (b.text ∷ b.more)) c.rest b.rest (sym c.cut ∙ b.cut)).0 in
    b.stops (shorter (b.before ++ b.text ∷ []) b.more (subst CanGoOn (same ∙ sym (append_assoc b.before (b.text ∷ []) b.more)) c.begins))

one_fault : (bytes : List ℕ) (a b : LogFault) → HasFault bytes a → HasFault bytes b → a ≡ b
one_fault bytes faults.TooLong faults.TooLong h k = refl
one_fault bytes faults.TooLong faults.Version h k = absurd (omega (arith, h, k.0))
one_fault bytes faults.TooLong (faults.Line n) h k = absurd (omega (arith, h, k.0))
one_fault bytes faults.TooLong faults.Cut h k = absurd (omega (arith, h, k.0))
one_fault bytes faults.TooLong faults.Memory h k = absurd k
one_fault bytes faults.Version faults.TooLong h k = absurd (omega (arith, k, h.0))
one_fault bytes faults.Version faults.Version h k = refl
one_fault bytes faults.Version (faults.Line n) h k = absurd (later_line (cut_at 10 bytes) 1 n h.1 k.2 (omega (arith, k.1)))
one_fault bytes faults.Version faults.Cut h k = absurd (no_line (cut_at 10 bytes) 1 k.1 h.1)
one_fault bytes faults.Version faults.Memory h k = absurd k
one_fault bytes (faults.Line m) faults.TooLong h k = absurd (omega (arith, k, h.0))
one_fault bytes (faults.Line m) faults.Version h k = absurd (later_line (cut_at 10 bytes) 1 m k.1 h.2 (omega (arith, h.1)))
one_fault bytes (faults.Line m) (faults.Line n) h k = ap faults.Line (one_line (cut_at 10 bytes) m n h.2 k.2)
one_fault bytes (faults.Line m) faults.Cut h k = absurd (no_line (cut_at 10 bytes) m k.1 h.2)
one_fault bytes (faults.Line m) faults.Memory h k = absurd k
one_fault bytes faults.Cut faults.TooLong h k = absurd (omega (arith, k, h.0))
one_fault bytes faults.Cut faults.Version h k = absurd (no_line (cut_at 10 bytes) 1 h.1 k.1)
one_fault bytes faults.Cut (faults.Line n) h k = absurd (no_line (cut_at 10 bytes) n h.1 k.2)
one_fault bytes faults.Cut faults.Cut h k = refl
one_fault bytes faults.Cut faults.Memory h k = absurd k
one_fault bytes faults.Memory b h k = absurd h

no_fault : (bytes : List ℕ) (fault : LogFault) (v : Version) (t : Trace) → HasFault bytes fault → IsLog v t bytes → HasFewBytes bytes → ⊥
no_fault bytes fault v t has log few = subst (HasFault bytes) (fault_only bytes fault (λ _. has) v t log few) has

-- ---- one verdict

not_both : (bytes : List ℕ) (breach : Breach) → IsRightLog bytes → IsBreachedLog bytes breach → ⊥
not_both bytes breach r b =
    let same = (same_log r.version b.version r.trace b.trace bytes r.log b.log).1 in
    trace_unbroken b.trace breach (subst IsRightTrace same r.right) b.first

one_breach : (bytes : List ℕ) (a b : Breach) → IsBreachedLog bytes a → IsBreachedLog bytes b → a ≡ b
one_breach bytes a b first other =
    let same = (same_log first.version other.version first.trace other.trace bytes first.log other.log).1 in
    trace_breach_one other.trace a b (subst (λ (t : Trace). IsFirstBreach t a) same first.first) other.first

pub one_verdict : OneVerdict
one_verdict bytes line other code other_code (inl a) (inl b) = (a.1 ∙ sym b.1, a.0 ∙ sym b.0)
one_verdict bytes line other code other_code (inl a) (inr (inl b)) = absurd (not_both bytes b.1.0 a.2 b.1.2)
one_verdict bytes line other code other_code (inl a) (inr (inr b)) = absurd (no_fault bytes b.1.0 a.2.version a.2.trace b.1.2 a.2.log a.2.few)
one_verdict bytes line other code other_code (inr (inl a)) (inl b) = absurd (not_both bytes a.1.0 b.2 a.1.2)
one_verdict bytes line other code other_code (inr (inl a)) (inr (inl b)) =
    let same : line_of (breach_words a.1.0) ≡ line_of (breach_words b.1.0) = ap (λ (x : Breach). line_of (breach_words x)) (one_breach bytes a.1.0 b.1.0 a.1.2 b.1.2) in
    (a.1.1 ∙ same ∙ sym b.1.1, a.0 ∙ sym b.0)
one_verdict bytes line other code other_code (inr (inl a)) (inr (inr b)) =
    absurd (no_fault bytes b.1.0 a.1.2.version a.1.2.trace b.1.2 a.1.2.log a.1.2.few)
one_verdict bytes line other code other_code (inr (inr a)) (inl b) = absurd (no_fault bytes a.1.0 b.2.version b.2.trace a.1.2 b.2.log b.2.few)
one_verdict bytes line other code other_code (inr (inr a)) (inr (inl b)) =
    absurd (no_fault bytes a.1.0 b.1.2.version b.1.2.trace a.1.2 b.1.2.log b.1.2.few)
one_verdict bytes line other code other_code (inr (inr a)) (inr (inr b)) =
    let same : line_of (fault_words a.1.0) ≡ line_of (fault_words b.1.0) = ap (λ (x : LogFault). line_of (fault_words x)) (one_fault bytes a.1.0 b.1.0 a.1.2 b.1.2) in
    (a.1.1 ∙ same ∙ sym b.1.1, a.0 ∙ sym b.0)

right_of : (bytes line : List ℕ) (code : ℕ) → IsVerdict bytes line code → code ≡ 0 → IsRightLog bytes
right_of bytes line code (inl a) zero = a.2
right_of bytes line code (inr (inl b)) zero = absurd (omega (arith, b.0, zero))
right_of bytes line code (inr (inr c)) zero = absurd (omega (arith, c.0, zero))

pub zero_is_right : ZeroIsRight
zero_is_right bytes line code v = (right_of bytes line code v, λ right. (one_verdict bytes line _ code 0 v (inl (refl, refl, right))).1)

-- ---- the logs of legal histories

legal_unbreached : (bytes : List ℕ) (breach : Breach) → IsLegalLog bytes → IsBreachedLog bytes breach → ⊥
legal_unbreached bytes breach l b =
    let same = (same_log l.version b.version l.trace b.trace bytes l.log b.log).1 in
    legal_trace_unbroken l.trace breach l.legal l.meets (subst (λ (t : Trace). IsFirstBreach t breach) (sym same) b.first)

pub legal_right : LegalLogsAreRight
legal_right bytes line code l (inl a) = (a.1, a.0)
legal_right bytes line code l (inr (inl b)) = absurd (legal_unbreached bytes b.1.0 l b.1.2)
legal_right bytes line code l (inr (inr c)) = absurd (no_fault bytes c.1.0 l.version l.trace c.1.2 l.log l.few)

pub written_legal : WrittenLogsAreLegal
written_legal path history before after legal log few = record {
  few = few;
  version = newest history.initial;
  trace = trace_of history log.order;
  log = log.is_log;
  legal = legal.legal;
  meets = log.order_is.meets;
}

-- ---- a text that is too long

longer : (bytes more : List ℕ) (fault : LogFault) → 268435456 < length bytes → HasFault bytes fault → HasFault (bytes ++ more) fault
longer bytes more faults.TooLong long has =
    let size : length (bytes ++ more) ≡ length bytes + length more = length-append bytes more in omega (arith, size, long)
longer bytes more faults.Version long has = absurd (omega (arith, long, has.0))
longer bytes more (faults.Line n) long has = absurd (omega (arith, long, has.0))
longer bytes more faults.Cut long has = absurd (omega (arith, long, has.0))
longer bytes more faults.Memory long has = absurd has

pub longer_verdict : (bytes more line : List ℕ) (code : ℕ) → 268435456 < length bytes → IsVerdict bytes line code → IsVerdict (bytes ++ more) line code
longer_verdict bytes more line code long (inl a) = absurd (omega (arith, long, a.2.few))
longer_verdict bytes more line code long (inr (inl b)) = absurd (omega (arith, long, b.1.2.few))
longer_verdict bytes more line code long (inr (inr c)) = inr (inr (c.0, (c.1.0, c.1.1, longer bytes more c.1.0 long c.1.2)))
