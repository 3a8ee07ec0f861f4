-- A beginning of a log that lacks a byte of it is no log, and `check` finds it cut.
use Rattle.std.proofs.Common.{◌≡◌, ◌⊎◌, inl, inr, ℕ, zero, suc, List, [], ◌∷◌, ◌++◌, Option, Some, None, IfSome, Contains, codes, decimal, length, take, map, refl, sym, ◌∙◌, ap, subst, append_assoc}
use Rattle.std.proofs.lemmas.Bool.{cases_lt}
use Rattle.std.proofs.lemmas.List.Elements.{Contains-append_left}
use Rattle.std.specs.List.{AllByRecursion}
use Rattle.cell_base.specs.declared.cell.Cell.{Cell}
use Rattle.cell_base.specs.declared.level.Level.{Level}
use Rattle.cell_base.specs.declared.value.Value.{Value}
use Rattle.history_core.specs.declared.event.Event.{Event}
use Rattle.link_traits.specs.Traffic.{Traffic, Both, WrotePart}
use Rattle.history_log.specs.declared.draft.Draft.{Draft}
use Rattle.history_log.specs.declared.draft.Place.TheVariants.{Done}
use Rattle.history_log.specs.declared.keyword.Keyword.TheVariants as keywords
use Rattle.history_log.specs.declared.log_fault.LogFault.TheVariants as faults
use Rattle.history_log.specs.declared.trace.Trace.{Trace}
use Rattle.history_log.specs.declared.version.Version.{Version}
use Rattle.history_log.specs.declared.version.Version.TheVariants.{One, Two, Three}
use Rattle.history_log.specs.Cut.{cut_at, Lacks}
use Rattle.history_log.specs.Spelling.{cell_word, value_word, level_word, version_word, keyword_word, keyword_of, fields, event_line, initial_line, order_line, end_line, lines, whole_lines}
use Rattle.history_log.specs.Reading.{IsU32}
use Rattle.history_log.specs.Log.{IsInitialCell, IsInitialIn, AreEventsIn, CanSay, IsLog, newest}
use Rattle.history_log.specs.Draft.{IsRight, IsInitialSoFar, HasInitial}
use Rattle.history_log.specs.Faults.{IsCutInto, IsCutShort}
use Rattle.history_log.proofs.Cuts.{cut_first, cut_last}
use Rattle.history_log.proofs.LineKinds.{event_ink, initial_ink, order_ink, end_ink}
use Rattle.history_log.proofs.Strip.{head_ink, no_rows}
use Rattle.history_log.proofs.GoesOn.{nothing_after}
use Rattle.history_log.proofs.ByLine.{snoc_same}
use Rattle.history_log.proofs.OneHistory.{line_lacks, log_cut}
use Rattle.log_file.specs.Text.{trace_of, text_of}
use Rattle.check_command.specs.Verdict.{IsVerdict}
use Rattle.program_laws.specs.CutLogs.{IsCutLog, CutLogsAreNoLogs, CutLogsAreCut, cut_line, long_line, IsCutLine, CutLogsHaveFaults, FailedWritesLeaveCutLogs, CutLogsCheck}
use Rattle.program_laws.proofs.Verdicts.{one_verdict}
use Rattle.program_laws.proofs.Checking.{check_runs_exact}

-- ---- no line of a log has a line feed

end_lacks : (o : List ℕ) → AllByRecursion IsU32 o → AllByRecursion (Lacks 10) (order_line o ∷ end_line ∷ [])
end_lacks o fo = (line_lacks (keyword_word keywords.Order ∷ map decimal o) (order_ink o fo), (line_lacks (keyword_word keywords.End ∷ []) end_ink, tt))

events_lack : (v : Version) (head : Level) (es : List Event) (o : List ℕ) → AreEventsIn v head es → AllByRecursion IsU32 o
    → AllByRecursion (Lacks 10) (map (event_line v) es ++ (order_line o ∷ end_line ∷ []))
events_lack v head [] o fe fo = end_lacks o fo
events_lack v head (x ∷ es) o fe fo = (line_lacks (keyword_word (keyword_of x) ∷ fields v x) (event_ink v x fe.0.0), events_lack v head es o fe.1 fo)

rows_lack : (xs : List (Cell × Value)) (ls : List (List ℕ)) → AllByRecursion IsInitialCell xs → AllByRecursion (Lacks 10) ls
    → AllByRecursion (Lacks 10) (map initial_line xs ++ ls)
rows_lack [] ls fx all = all
rows_lack (x ∷ xs) ls fx all =
    (line_lacks (keyword_word keywords.Initial ∷ cell_word x.0 ∷ value_word x.1 ∷ []) (initial_ink x fx.0.0 fx.0.1), rows_lack xs ls fx.1 all)

lines_lack : (v : Version) (t : Trace) → CanSay v t → AllByRecursion (Lacks 10) (lines v t)
lines_lack v t says = (
  line_lacks (codes "monkey-log" ∷ version_word v ∷ level_word t.level ∷ []) (head_ink v t.level),
  rows_lack t.initial (map (event_line v) t.events ++ (order_line t.order ∷ end_line ∷ [])) (no_rows v t.initial says.initial)
      (events_lack v t.level t.events t.order says.events says.order),
)

-- ---- a beginning of whole lines

heads : {a b : ℕ} {xs ys : List ℕ} → a ∷ xs ≡ b ∷ ys → a ≡ b
heads e = cc

tails : {a b : ℕ} {xs ys : List ℕ} → a ∷ xs ≡ b ∷ ys → xs ≡ ys
tails e = cc

not_nothing : (bytes : List ℕ) (byte : ℕ) (more : List ℕ) → [] ≡ bytes ++ (byte ∷ more) → ⊥
not_nothing [] byte more e = cc
not_nothing (b ∷ bytes) byte more e = cc

-- it ends within the first line, or goes on after its line feed
divided : (text after bytes more : List ℕ) → text ++ (10 ∷ after) ≡ bytes ++ more
    → ((rest : List ℕ) × (text ≡ bytes ++ rest)) ⊎ ((rest : List ℕ) × (bytes ≡ text ++ (10 ∷ rest)) × (after ≡ rest ++ more))
divided text after [] more e = inl (text, refl)
divided [] after (b ∷ bytes) more e = inr (bytes, ap (λ (c : ℕ). c ∷ bytes) (sym (heads e)), tails e)
divided (a ∷ text) after (b ∷ bytes) more e =
    let first : a ≡ b = heads e in
    elim (divided text after bytes more (tails e)) [
      | inl r ↦ inl (r.0, ap (λ (c : ℕ). c ∷ text) first ∙ ap (λ (cs : List ℕ). b ∷ cs) r.1)
      | inr r ↦ inr (r.0, ap (λ (c : ℕ). c ∷ bytes) (sym first) ∙ ap (λ (cs : List ℕ). a ∷ cs) r.1, r.2)
    ]

front_lacks : (text bytes rest : List ℕ) → text ≡ bytes ++ rest → Lacks 10 text → Lacks 10 bytes
front_lacks text bytes rest is lacks there = lacks (subst (λ (bs : List ℕ). Contains bs 10) (sym is) (Contains-append_left bytes rest 10 there))

-- it is cut into the first lines and a rest, and there is a line more
record IsBegun (ls : List (List ℕ)) (bytes : List ℕ) : Type 0 where
  pub whole : List (List ℕ)
  pub next : List ℕ
  pub more : List (List ℕ)
  pub rest : List ℕ
  pub goes : ls ≡ whole ++ (next ∷ more)
  pub cut : IsCutInto (cut_at 10 bytes) whole rest

begun : (ls : List (List ℕ)) (bytes : List ℕ) (byte : ℕ) (after : List ℕ) → AllByRecursion (Lacks 10) ls → whole_lines ls ≡ bytes ++ (byte ∷ after) → IsBegun ls bytes
begun [] bytes byte after lack e = absurd (not_nothing bytes byte after e)
begun (l ∷ ls) bytes byte after lack e = elim (divided l (whole_lines ls) bytes (byte ∷ after) e) [
  | inl r ↦ record { whole = []; next = l; more = ls; rest = bytes; goes = refl; cut = cut_last 10 bytes (front_lacks l bytes r.0 r.1 lack.0) }
  | inr r ↦
      let b = begun ls r.0 byte after lack.1 r.2 in
      record {
        whole = l ∷ b.whole;
        next = b.next;
        more = b.more;
        rest = b.rest;
        goes = ap (λ (ks : List (List ℕ)). l ∷ ks) b.goes;
        cut = ap (cut_at 10) r.1 ∙ cut_first 10 l r.0 lack.0 ∙ ap (λ (ks : List (List ℕ)). l ∷ ks) b.cut;
      }
]

-- ---- the lines of a whole log don't go on

abbrev whole_draft : Version → Trace → Draft
whole_draft v t = record { version = v; place = Done; trace = t }

so_far : (v : Version) (rows : List (Cell × Value)) → IsInitialIn v rows → IsInitialSoFar v rows
so_far One rows is = is
so_far Two rows is = is
so_far Three rows is = is.1

has_initial : (v : Version) (rows : List (Cell × Value)) → IsInitialIn v rows → HasInitial v rows
has_initial v rows is three empty = (subst (λ (w : Version). IsInitialIn w rows) three is).0 empty

right_draft : (v : Version) (t : Trace) → CanSay v t → IsRight (whole_draft v t)
right_draft v t says =
    record { initial = so_far v t.initial says.initial; begun = λ h. has_initial v t.initial says.initial; events = says.events; order = says.order }

-- of two logs the lines of one aren't the first lines of the other, with a line after them
not_longer : (v w : Version) (t u : Trace) (whole : List (List ℕ)) (next : List ℕ) (more : List (List ℕ)) → CanSay v t → CanSay w u
    → lines v t ≡ whole ++ (next ∷ more) → whole ≡ lines w u → ⊥
not_longer v w t u whole next more says its goes same =
    nothing_after (whole_draft w u) (right_draft w u its) refl next (record {
      version = v;
      trace = t;
      more = more;
      says = says;
      goes = goes ∙ ap (λ (ks : List (List ℕ)). ks ++ (next ∷ more)) same ∙ sym (append_assoc (lines w u) (next ∷ []) more);
    })

-- ---- the text and its verdict

is_cut : (bytes : List ℕ) → IsCutLog bytes → IsCutShort (cut_at 10 bytes)
is_cut bytes c =
    let b = begun (lines c.version c.trace) bytes c.byte c.rest (lines_lack c.version c.trace c.log.says) (sym c.log.text) in
    record {
      whole = b.whole;
      rest = b.rest;
      cut = b.cut;
      begins = record { version = c.version; trace = c.trace; more = b.next ∷ b.more; says = c.log.says; goes = b.goes };
      no_log = λ w u its e.
          not_longer c.version w c.trace u b.whole b.next b.more c.log.says its b.goes (snoc_same b.whole (lines w u) b.rest [] (sym b.cut ∙ e)).0;
    }

pub no_logs : CutLogsAreNoLogs
no_logs bytes w u c log = (is_cut bytes c).no_log w u log.says (log_cut w u bytes log)

pub are_cut : CutLogsAreCut
are_cut bytes c few = (few, is_cut bytes c)

by_line : (bytes line : List ℕ) (code : ℕ) → IsCutLog bytes → IsCutLine bytes line → code ≡ 1 → IsVerdict bytes line code
by_line bytes line code c (inl cut) one = inr (inr (one, (faults.Cut, cut.1, (cut.0, is_cut bytes c))))
by_line bytes line code c (inr long) one = inr (inr (one, (faults.TooLong, long.1, long.0)))

its_line : (bytes : List ℕ) → (line : List ℕ) × IsCutLine bytes line
its_line bytes = elim (cases_lt 268435456 (length bytes)) [
  | inl long ↦ (long_line, inr (long, refl))
  | inr few ↦ (cut_line, inl (few, refl))
]

its_verdict : (bytes line : List ℕ) (code : ℕ) → IsCutLog bytes → IsVerdict bytes line code → IsCutLine bytes line × (code ≡ 1)
its_verdict bytes line code c verdict =
    let told = its_line bytes in
    let one = one_verdict bytes line told.0 code 1 verdict (by_line bytes told.0 1 c told.1 refl) in
    (subst (λ (l : List ℕ). IsCutLine bytes l) (sym one.0) told.1, one.1)

pub have_faults : CutLogsHaveFaults
have_faults bytes line code c = (its_verdict bytes line code c, λ is. by_line bytes line code c is.0 is.1)

-- ---- what a failed write left

-- so many of the bytes are all of them, or one at least stands after them
part_of : (n : ℕ) (bytes : List ℕ) → (take n bytes ≡ bytes) ⊎ ((byte : ℕ) × (rest : List ℕ) × (bytes ≡ take n bytes ++ (byte ∷ rest)))
part_of zero [] = inl refl
part_of zero (b ∷ bytes) = inr (b, bytes, refl)
part_of (suc n) [] = inl refl
part_of (suc n) (b ∷ bytes) = elim (part_of n bytes) [
  | inl all ↦ inl (ap (λ (bs : List ℕ). b ∷ bs) all)
  | inr part ↦ inr (part.0, part.1, ap (λ (bs : List ℕ). b ∷ bs) part.2)
]

module _ (v : Version) (t : Trace) (text : List ℕ) (log : IsLog v t text) where
  left_in : (given returned : Option Traffic) → IfSome given (λ told. told.written ≡ []) → Both (WrotePart text) given returned
      → IfSome returned (λ told. (told.written ≡ text) ⊎ IsCutLog told.written)
  left_in None None empty part = tt
  left_in None (Some new) empty part = absurd part
  left_in (Some old) None empty part = absurd part
  left_in (Some old) (Some new) empty part =
      let written : new.written ≡ take part.0 text = part.2.written ∙ ap (λ (bs : List ℕ). bs ++ take part.0 text) empty in
      elim (part_of part.0 text) [
        | inl all ↦ inl (written ∙ all)
        | inr more ↦ inr (record {
          version = v;
          trace = t;
          byte = more.0;
          rest = more.1;
          log = subst (λ (bs : List ℕ). IsLog v t bs) (more.2 ∙ ap (λ (bs : List ℕ). bs ++ (more.0 ∷ more.1)) (sym written)) log;
        })
      ]

pub left_cut : FailedWritesLeaveCutLogs
left_cut path history before after log =
    let w = log.unwritten in
    left_in (newest history.initial) (trace_of history log.order) (text_of (trace_of history log.order)) log.is_log w.given.traffic w.returned.traffic w.made.empty w.part

-- ---- the command

pub cut_logs_check : CutLogsCheck
cut_logs_check args path wide network left before code after bytes is does quiet told c =
    let line = its_line bytes in
    elim (check_runs_exact args path wide network left before code after bytes line.0 1 is does quiet told (by_line bytes line.0 1 c line.1 refl)) [
      | inl five ↦ inl five
      | inr judged ↦ inr (judged.0, (line.0, line.1, judged.1))
    ]
