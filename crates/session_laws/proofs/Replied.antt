-- Each statement that ran is told what it came to, where no call was refused and memory didn't run out.
use Rattle.std.proofs.Common.{◌≡◌, ◌⊎◌, inl, inr, ℕ, List, [], ◌∷◌, ◌++◌, refl, sym, subst}
use Rattle.history_core.specs.declared.fault.BookFault.{BookFault}
use Rattle.history_core.specs.declared.fault.BookFault.TheVariants as faults
use Rattle.sql_tree.specs.declared.statement.Statement.{Statement}
use Rattle.sql_tree.specs.declared.table.Table.{Table}
use Rattle.statement_course.specs.declared.demand.Outcome.{Outcome}
use Rattle.statement_course.specs.Course.{Course, done}
use Rattle.outcome_replies.specs.declared.description.RowDescription.TheVariants as described
use Rattle.block_machine.specs.Script.{Entry, did, refused, ended}
use Rattle.block_machine.specs.declared.call.Answer.TheVariants as answers
use Rattle.block_machine.specs.declared.end.End.{End}
use Rattle.session_laws.specs.Causes.{Has, LacksMemory, IsFull}
use Rattle.session_laws.specs.Acts.{Act, tells, asks, meets, runs, entries_of, entries_in}
use Rattle.session_laws.specs.Transcripts.{Replies, at_once, rolled_back, reply_for, Refuses, Ends, finished, declined, short_of, IsTranscript}
use Rattle.session_laws.specs.Statements.{AreToldNext, EachIsTold}

-- an entry of a record is a lack of memory, or a refusal by a full history
abbrev pub IsAmiss : Entry → Type 0
IsAmiss entry = LacksMemory entry ⊎ IsFull entry

refusal_amiss : (entry : Entry) (why : BookFault) → Refuses entry why → IsAmiss entry
refusal_amiss (refused faults.Memory) why is = inl tt
refusal_amiss (refused (faults.Full limit)) why is = inr tt
refusal_amiss (did (answers.Refused faults.Memory) event) why is = inl tt
refusal_amiss (did (answers.Refused (faults.Full limit)) event) why is = inr tt
refusal_amiss _ why is = absurd is

-- ---- entries of acts

has_after : (Is : Entry → Type 0) (before after : List Entry) → Has Is after → Has Is (before ++ after)
has_after Is [] after has = has
has_after Is (e ∷ before) after has = inr (has_after Is before after has)

has_before : (Is : Entry → Type 0) (before after : List Entry) → Has Is before → Has Is (before ++ after)
has_before Is [] after has = absurd has
has_before Is (e ∷ before) after has = elim has [ inl one ↦ inl one | inr other ↦ inr (has_before Is before after other) ]

-- nothing is amiss in these acts
abbrev IsFine : List Act → Type 0
IsFine acts = Has IsAmiss (entries_of acts) → ⊥

later_fine : (act : Act) (acts : List Act) → IsFine (act ∷ acts) → IsFine acts
later_fine act acts fine has = fine (has_after IsAmiss (entries_in act) (entries_of acts) has)

-- ---- one statement

replied : (reply : List ℕ) (acts : List Act) (end : End) → Replies reply acts (ended end) → AreToldNext reply acts
replied reply _ end (at_once acts next) = refl
replied reply _ end (rolled_back entry acts next) = refl

told_so : (left : Course) (acts : List Act) (end : End) → IsFine acts → Ends described.Told left acts (ended end) →
    (outcome : Outcome) × (left ≡ done outcome) × AreToldNext (reply_for described.Told outcome) acts
told_so _ _ end fine (finished outcome acts next replies) = (outcome, refl, replied (reply_for described.Told outcome) acts end replies)
told_so _ _ end fine (declined left entry why acts next cells refuses replies) = absurd (fine (inl (refusal_amiss entry why refuses)))
told_so _ _ end fine (short_of left n acts next replies) = absurd (fine (inl (inl tt)))

-- ---- all of them

pub each_told : (known : List Table) (asked : List Statement) (acts : List Act) (end : End) → IsFine acts → IsTranscript known asked acts (ended end) → EachIsTold acts
each_told known asked [] end fine is = tt
each_told known asked (tells bytes ∷ acts) end fine is = each_told known asked acts end (later_fine (tells bytes) acts fine) is
each_told known asked (asks c entry ∷ acts) end fine is = each_told is.0 asked acts end (later_fine (asks c entry) acts fine) is.3
each_told known asked (meets entry ∷ acts) end fine is = each_told known asked acts end (later_fine (meets entry) acts fine) is.1
each_told known asked (runs r ∷ acts) end fine is =
    let later = later_fine (runs r) acts fine in
    (told_so r.left acts end later is.4, each_told known is.1 acts end later is.5)

-- what is amiss is one of the two
parted : (entries : List Entry) → Has IsAmiss entries → Has LacksMemory entries ⊎ Has IsFull entries
parted [] has = absurd has
parted (e ∷ entries) has = elim has [
  | inl one ↦ elim one [ inl lacks ↦ inl (inl lacks) | inr fills ↦ inr (inl fills) ]
  | inr other ↦ elim (parted entries other) [ inl lacks ↦ inl (inr lacks) | inr fills ↦ inr (inr fills) ]
]

-- the record of acts and of what follows them
pub record_fine : (acts : List Act) (entries rest : List Entry) → entries ≡ entries_of acts ++ rest → ¬ (Has LacksMemory entries) → ¬ (Has IsFull entries) → IsFine acts
record_fine acts entries rest same memory full has =
    elim (parted (entries_of acts) has) [
      | inl lacks ↦ memory (subst (λ (es : List Entry). Has LacksMemory es) (sym same) (has_before LacksMemory (entries_of acts) rest lacks))
      | inr fills ↦ full (subst (λ (es : List Entry). Has IsFull es) (sym same) (has_before IsFull (entries_of acts) rest fills))
    ]
