-- A text is of one history, and has no fault.
use Rattle.std.proofs.Common.{◌≡◌, ◌≢◌, ℕ, ◌≤◌, List, [], ◌∷◌, ◌++◌, Result, Ok, Err, length, refl, sym, ap, ◌∙◌, map, subst, arith, append_assoc}
use Rattle.std.specs.Prelude.{IfOk, IfErr, codes, decimal}
use Rattle.std.specs.List.{AllByRecursion, join_with_byte}
use Rattle.std.specs.Result.{IsErrAnd}
use Rattle.cell_base.specs.declared.cell.Cell.{Cell}
use Rattle.cell_base.specs.declared.level.Level.{Level}
use Rattle.cell_base.specs.declared.value.Value.{Value}
use Rattle.history_core.specs.declared.event.Event.{Event}
use Rattle.history_log.specs.declared.keyword.Keyword.TheVariants as keywords
use Rattle.history_log.specs.declared.log_fault.LogFault.{LogFault}
use Rattle.history_log.specs.declared.log_fault.LogFault.TheVariants as faults
use Rattle.history_log.specs.declared.trace.Trace.{Trace}
use Rattle.history_log.specs.declared.version.Version.{Version}
use Rattle.history_log.specs.Cut.{cut_at, Lacks}
use Rattle.history_log.specs.Spelling.{cell_word, value_word, level_word, version_word, keyword_word, keyword_of, fields, event_line, initial_line, order_line, end_line, line, lines, whole_lines}
use Rattle.history_log.specs.Reading.{IsU32}
use Rattle.history_log.specs.Log.{CanSay, IsLog, AreEventsIn, IsInitialCell}
use Rattle.history_log.specs.Faults.{IsBadLine, HasFault}
use Rattle.history_log.proofs.Cuts.{cut_first, cut_last}
use Rattle.history_log.proofs.Plain.{IsInk, Ink, all_append, all_weaker, lacks_from}
use Rattle.history_log.proofs.LineKinds.{event_ink, initial_ink, order_ink, end_ink}
use Rattle.history_log.proofs.Strip.{strip_rows, body_first, no_rows, event_not_order, head_ink, same_head}
use Rattle.history_log.proofs.SameLine.{same_event, same_order}
use Rattle.history_log.proofs.Going.{same_events}
use Rattle.history_log.proofs.ByLine.{snoc_same}

heads : {a b : List ℕ} {xs ys : List (List ℕ)} → a ∷ xs ≡ b ∷ ys → a ≡ b
heads e = cc

tails : {a b : List ℕ} {xs ys : List (List ℕ)} → a ∷ xs ≡ b ∷ ys → xs ≡ ys
tails e = cc

-- a text is cut into its lines

no_feed : (word : List ℕ) → Ink word → AllByRecursion (λ b. b ≢ 10) word
no_feed word inked = all_weaker IsInk (λ b. b ≢ 10) (λ b p. p.0) word inked

joined_no_feed : (words : List (List ℕ)) → AllByRecursion Ink words → AllByRecursion (λ b. b ≢ 10) (join_with_byte 32 words)
joined_no_feed [] all = tt
joined_no_feed (x ∷ []) all = no_feed x all.0
joined_no_feed (x ∷ y ∷ xs) all = all_append (λ b. b ≢ 10) x (32 ∷ join_with_byte 32 (y ∷ xs)) (no_feed x all.0) ((λ e. omega arith), joined_no_feed (y ∷ xs) all.1)

pub line_lacks : (words : List (List ℕ)) → AllByRecursion Ink words → Lacks 10 (line words)
line_lacks words all = lacks_from 10 (line words) (joined_no_feed words all)

cut_lines : (ls : List (List ℕ)) → AllByRecursion (Lacks 10) ls → cut_at 10 (whole_lines ls) ≡ ls ++ [] ∷ []
cut_lines [] all = cut_last 10 [] (lacks_from 10 [] tt)
cut_lines (l ∷ ls) all = cut_first 10 l (whole_lines ls) all.0 ∙ ap (λ (zs : List (List ℕ)). l ∷ zs) (cut_lines ls all.1)

end_lacks : (o : List ℕ) → AllByRecursion IsU32 o → AllByRecursion (Lacks 10) (order_line o ∷ end_line ∷ [])
end_lacks o fo = (line_lacks (keyword_word keywords.Order ∷ map decimal o) (order_ink o fo), (line_lacks (keyword_word keywords.End ∷ []) end_ink, tt))

events_lack : (v : Version) (head : Level) (es : List Event) (o : List ℕ) → AreEventsIn v head es → AllByRecursion IsU32 o
    → AllByRecursion (Lacks 10) (map (event_line v) es ++ (order_line o ∷ end_line ∷ []))
events_lack v head [] o fe fo = end_lacks o fo
events_lack v head (x ∷ es) o fe fo = (line_lacks (keyword_word (keyword_of x) ∷ fields v x) (event_ink v x fe.0.0), events_lack v head es o fe.1 fo)

rows_lack : (xs : List (Cell × Value)) (ls : List (List ℕ)) → AllByRecursion IsInitialCell xs → AllByRecursion (Lacks 10) ls → AllByRecursion (Lacks 10) (map initial_line xs ++ ls)
rows_lack [] ls fx all = all
rows_lack (x ∷ xs) ls fx all =
    (line_lacks (keyword_word keywords.Initial ∷ cell_word x.0 ∷ value_word x.1 ∷ []) (initial_ink x fx.0.0 fx.0.1), rows_lack xs ls fx.1 all)

pub log_cut : (v : Version) (t : Trace) (bytes : List ℕ) → IsLog v t bytes → cut_at 10 bytes ≡ lines v t ++ [] ∷ []
log_cut v t bytes is = ap (cut_at 10) is.text ∙ cut_lines (lines v t) (
  line_lacks (codes "monkey-log" ∷ version_word v ∷ level_word t.level ∷ []) (head_ink v t.level),
  rows_lack t.initial (map (event_line v) t.events ++ (order_line t.order ∷ end_line ∷ [])) (no_rows v t.initial is.says.initial)
      (events_lack v t.level t.events t.order is.says.events is.says.order),
)

-- the lines are of one history

module _ (v : Version) (head : Level) where
  same_body : (es fs : List Event) (o p : List ℕ) → AreEventsIn v head es → AreEventsIn v head fs → AllByRecursion IsU32 o → AllByRecursion IsU32 p
      → map (event_line v) es ++ (order_line o ∷ end_line ∷ []) ≡ map (event_line v) fs ++ (order_line p ∷ end_line ∷ []) → (es ≡ fs) × (o ≡ p)
  same_body [] [] o p fe ff fo fp e = (refl, same_order o p fo fp (heads e))
  same_body [] (f ∷ fs) o p fe ff fo fp e = absurd (event_not_order v f o ff.0.0 fo (heads e))
  same_body (x ∷ es) [] o p fe ff fo fp e = absurd (event_not_order v x p fe.0.0 fp (sym (heads e)))
  same_body (x ∷ es) (f ∷ fs) o p fe ff fo fp e =
      let r = same_body es fs o p fe.1 ff.1 fo fp (tails e) in
      let h = same_event v head x f fe.0.0 fe.0.1 ff.0.0 ff.0.1 (heads e) in
      (ap (λ (z : Event). z ∷ es) h ∙ ap (λ (zs : List Event). f ∷ zs) r.0, r.1)

  nothing : (ys : List (Cell × Value)) → ys ++ [] ≡ ys
  nothing [] = refl
  nothing (y ∷ ys) = ap (λ (zs : List (Cell × Value)). y ∷ zs) (nothing ys)

  same_rest : (xs ys : List (Cell × Value)) (es fs : List Event) (o p : List ℕ) → AllByRecursion IsInitialCell xs → AllByRecursion IsInitialCell ys
      → AreEventsIn v head es → AreEventsIn v head fs → AllByRecursion IsU32 o → AllByRecursion IsU32 p
      → map initial_line xs ++ (map (event_line v) es ++ (order_line o ∷ end_line ∷ [])) ≡ map initial_line ys ++ (map (event_line v) fs ++ (order_line p ∷ end_line ∷ []))
      → (xs ≡ ys) × (es ≡ fs) × (o ≡ p)
  same_rest xs ys es fs o p fx fy fe ff fo fp e =
      let r = strip_rows xs ys (map (event_line v) es ++ (order_line o ∷ end_line ∷ [])) (map (event_line v) fs ++ (order_line p ∷ end_line ∷ [])) fx fy (body_first v head es o fe fo) e in
      by_rows r.0 r.1 r.2 r.3 where
        by_rows : (rest : List (Cell × Value)) → AllByRecursion IsInitialCell rest
            → map initial_line rest ++ (map (event_line v) es ++ (order_line o ∷ end_line ∷ [])) ≡ map (event_line v) fs ++ (order_line p ∷ end_line ∷ []) → xs ≡ ys ++ rest
            → (xs ≡ ys) × (es ≡ fs) × (o ≡ p)
        by_rows [] fr e all = let s = same_body es fs o p fe ff fo fp e in (all ∙ nothing ys, s.0, s.1)
        by_rows (x ∷ rest) fr e all = absurd (body_first v head fs p ff fp x (map initial_line rest ++ (map (event_line v) es ++ (order_line o ∷ end_line ∷ []))) fr.0 (sym e))

same_trace : (t u : Trace) → t.level ≡ u.level → t.initial ≡ u.initial → t.events ≡ u.events → t.order ≡ u.order → t ≡ u
same_trace t u l i e o =
    ap (λ (x : Level). record t { level = x }) l
    ∙ ap (λ (x : List (Cell × Value)). record t { level = u.level; initial = x }) i
    ∙ ap (λ (x : List Event). record t { level = u.level; initial = u.initial; events = x }) e
    ∙ ap (λ (x : List ℕ). record u { order = x }) o

pub same_lines : (v w : Version) (t u : Trace) → CanSay v t → CanSay w u → lines v t ≡ lines w u → (v ≡ w) × (t ≡ u)
same_lines v w t u st su e =
    let both = same_head v w t.level u.level (heads e) in
    let r = same_rest w u.level t.initial u.initial t.events u.events t.order u.order
    (no_rows v t.initial st.initial) (no_rows w u.initial su.initial)
    (same_events v w t.level u.level t.events both.0 both.1 st.events) su.events st.order su.order
    (subst (λ (x : Version). map initial_line t.initial ++ (map (event_line x) t.events ++ (order_line t.order ∷ end_line ∷ []))
    ≡ map initial_line u.initial ++ (map (event_line w) u.events ++ (order_line u.order ∷ end_line ∷ []))) both.0 (tails e)) in
    (both.0, same_trace t u both.1 r.0 r.1 r.2)

pub same_log : (v w : Version) (t u : Trace) (bytes : List ℕ) → IsLog v t bytes → IsLog w u bytes → (v ≡ w) × (t ≡ u)
same_log v w t u bytes is it = same_lines v w t u is.says it.says (snoc_same (lines v t) (lines w u) [] [] (sym (log_cut v t bytes is) ∙ log_cut w u bytes it)).0

-- and have no fault

no_bad_line : (v : Version) (t : Trace) (parts : List (List ℕ)) (n : ℕ) → CanSay v t → parts ≡ lines v t ++ [] ∷ [] → IsBadLine parts n → ⊥
no_bad_line v t parts n says e bad =
    let s = snoc_same (lines v t) (bad.before ++ (bad.text ∷ bad.more)) [] bad.rest (sym e ∙ bad.cut) in
    bad.stops (record { version = v; trace = t; more = bad.more; says = says; goes = s.0 ∙ sym (append_assoc bad.before (bad.text ∷ []) bad.more) })

no_fault : (v : Version) (t : Trace) (bytes : List ℕ) (fault : LogFault) → IsLog v t bytes → length bytes ≤ 268435456 → HasFault bytes fault → ⊥
no_fault v t bytes faults.TooLong is within has = omega arith
no_fault v t bytes faults.Version is within has = no_bad_line v t (cut_at 10 bytes) 1 is.says (log_cut v t bytes is) has.1
no_fault v t bytes (faults.Line n) is within has = no_bad_line v t (cut_at 10 bytes) n is.says (log_cut v t bytes is) has.2
no_fault v t bytes faults.Cut is within has = has.1.no_log v t is.says (log_cut v t bytes is)
no_fault v t bytes faults.Memory is within has = has

-- what reading answers to a text

pub fault_only : (bytes : List ℕ) (e : LogFault) → (e ≢ faults.Memory → HasFault bytes e) → (v : Version) (t : Trace) → IsLog v t bytes → length bytes ≤ 268435456 → e ≡ faults.Memory
fault_only bytes faults.TooLong has v t is within = absurd (no_fault v t bytes faults.TooLong is within (has (λ e. cc)))
fault_only bytes faults.Version has v t is within = absurd (no_fault v t bytes faults.Version is within (has (λ e. cc)))
fault_only bytes (faults.Line n) has v t is within = absurd (no_fault v t bytes (faults.Line n) is within (has (λ e. cc)))
fault_only bytes faults.Cut has v t is within = absurd (no_fault v t bytes faults.Cut is within (has (λ e. cc)))
fault_only bytes faults.Memory has v t is within = refl

pub error_only : (bytes : List ℕ) (r : Result Trace LogFault) (e : LogFault) → IsErrAnd r (λ d. d ≡ e) → IfErr r (λ d. d ≢ faults.Memory → HasFault bytes d)
    → (v : Version) (t : Trace) → IsLog v t bytes → length bytes ≤ 268435456 → IfOk r (λ trace. trace ≡ t) × IfErr r (λ d. d ≡ faults.Memory)
error_only bytes (Ok found) e is has v t log within = absurd is
error_only bytes (Err d) e is has v t log within = (tt, fault_only bytes d has v t log within)
