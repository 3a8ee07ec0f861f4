-- A course after each answer, and as a script.
use Rattle.std.proofs.Common.{◌≡◌, ℕ, true, List, [], ◌∷◌, refl, sym, ap, subst}
use Rattle.cell_base.specs.declared.sql_state.SqlState.{SqlState}
use Rattle.history_core.specs.declared.event.Event.{Event}
use Rattle.history_core.specs.declared.fault.BookFault.{BookFault}
use Rattle.statement_course.specs.declared.demand.Demand.{Demand}
use Rattle.statement_course.specs.declared.demand.Demand.TheVariants as demands
use Rattle.statement_course.specs.declared.demand.Outcome.{Outcome}
use Rattle.statement_course.specs.declared.demand.Outcome.TheVariants as outcomes
use Rattle.statement_course.specs.declared.demand.PlanAnswer.{PlanAnswer}
use Rattle.statement_course.specs.declared.demand.PlanAnswer.TheVariants as plan_answers
use Rattle.statement_course.specs.Course.{Course, scan, touch, write, first_demand, following, FitsDemand}
use Rattle.statement_course.specs.Course as course
use Rattle.statement_course.specs.Laws.{ReadsFirst, OnlyWrites}
use Rattle.outcome_replies.specs.Replies.{outcome_reply}
use Rattle.outcome_replies.specs.declared.description.RowDescription.{RowDescription}
use Rattle.outcome_replies.specs.Ends.{EndsIn}
use Rattle.block_machine.specs.declared.block.Block.{Block}
use Rattle.block_machine.specs.declared.call.Answer.TheVariants as answers
use Rattle.block_machine.specs.Calls.{asks_cells, call_for}
use Rattle.block_machine.specs.Knowledge.{Knowledge}
use Rattle.block_machine.specs.Script.{Entry, Said, call, with_call}
use Rattle.block_machine.specs.Statements.{Around, refusal_state, succeeds, fails, concludes, runs, continues}
use Rattle.block_machine.specs.Stages.{Fits, answer_with, entry_for}

pub asks_by : (d : Demand) → ((outcome : Outcome) → d ≡ demands.Reply outcome → ⊥) → asks_cells d ≡ true
asks_by (demands.Scan table) h = refl
asks_by (demands.Touch cell) h = refl
asks_by (demands.Write cell value) h = refl
asks_by (demands.Reply outcome) h = absurd (h outcome refl)

pub done_by : (c : Course) (outcome : Outcome) → demands.Reply outcome ≡ first_demand c → c ≡ course.done outcome
done_by (scan table next) outcome h = absurd (cc h)
done_by (touch cell next) outcome h = absurd (cc h)
done_by (write cell value next) outcome h = absurd (cc h)
done_by (course.done other) outcome h = ap course.done (sym (cc h))

pub not_done : (outcome : Outcome) (d : Demand) → asks_cells d ≡ true → d ≡ demands.Reply outcome → ⊥
not_done outcome (demands.Scan table) h e = cc e
not_done outcome (demands.Touch cell) h e = cc e
not_done outcome (demands.Write cell value) h e = cc e
not_done outcome (demands.Reply other) h e = cc h

pub fits_demand : (c : Course) (b : PlanAnswer) → asks_cells (first_demand c) ≡ true → Fits (call_for (first_demand c)) (answer_with b) → FitsDemand c b
fits_demand (scan table next) (plan_answers.Keys keys) a h = h
fits_demand (touch cell next) (plan_answers.Value value) a h = tt
fits_demand (write cell value next) plan_answers.Written a h = tt
fits_demand (course.done outcome) b a h = absurd (cc a)
fits_demand (scan table next) (plan_answers.Value value) a h = absurd h
fits_demand (scan table next) plan_answers.Written a h = absurd h
fits_demand (touch cell next) (plan_answers.Keys keys) a h = absurd h
fits_demand (touch cell next) plan_answers.Written a h = absurd h
fits_demand (write cell value next) (plan_answers.Keys keys) a h = absurd h
fits_demand (write cell value next) (plan_answers.Value v) a h = absurd h

only_first : (n : ℕ) (c : Course) → OnlyWrites n c → ReadsFirst n c
only_first n (scan table next) h = absurd h
only_first n (touch cell next) h = absurd h
only_first n (write cell value next) h = h
only_first n (course.done outcome) h = tt

pub after_first : (n : ℕ) (c : Course) (b : PlanAnswer) → FitsDemand c b → ReadsFirst n c → ReadsFirst n (following c b)
after_first n (scan table next) (plan_answers.Keys keys) f h = h.1 keys
after_first n (touch cell next) (plan_answers.Value value) f h = h.1 value
after_first n (write cell value next) plan_answers.Written f h = only_first n next h.2
after_first n (course.done outcome) b f h = absurd f
after_first n (scan table next) (plan_answers.Value value) f h = absurd f
after_first n (scan table next) plan_answers.Written f h = absurd f
after_first n (touch cell next) (plan_answers.Keys keys) f h = absurd f
after_first n (touch cell next) plan_answers.Written f h = absurd f
after_first n (write cell value next) (plan_answers.Keys keys) f h = absurd f
after_first n (write cell value next) (plan_answers.Value v) f h = absurd f

pub after_ends : (P : Outcome → Type 0) (c : Course) (b : PlanAnswer) → FitsDemand c b → EndsIn P c → EndsIn P (following c b)
after_ends P (scan table next) (plan_answers.Keys keys) f h = h keys
after_ends P (touch cell next) (plan_answers.Value value) f h = h value
after_ends P (write cell value next) plan_answers.Written f h = h
after_ends P (course.done outcome) b f h = absurd f
after_ends P (scan table next) (plan_answers.Value value) f h = absurd f
after_ends P (scan table next) plan_answers.Written f h = absurd f
after_ends P (touch cell next) (plan_answers.Keys keys) f h = absurd f
after_ends P (touch cell next) plan_answers.Written f h = absurd f
after_ends P (write cell value next) (plan_answers.Keys keys) f h = absurd f
after_ends P (write cell value next) (plan_answers.Value v) f h = absurd f

pub ends_done : (P : Outcome → Type 0) (c : Course) (outcome : Outcome) → c ≡ course.done outcome → EndsIn P c → P outcome
ends_done P c outcome is h = subst (EndsIn P) is h

-- ---- scripts

pub runs_asks : (description : RowDescription) (c : Course) (block : Block) (known : Knowledge) (around : Around) (said : Said) → asks_cells (first_demand c) ≡ true → runs description c block known around said [] ≡ (said, call (call_for (first_demand c)))
runs_asks description (scan table next) block known around said h = refl
runs_asks description (touch cell next) block known around said h = refl
runs_asks description (write cell value next) block known around said h = refl
runs_asks description (course.done outcome) block known around said h = absurd (cc h)

pub runs_answered : (description : RowDescription) (c : Course) (b : PlanAnswer) (block : Block) (known : Knowledge) (around : Around) (said : Said) (e : Event) (es : List Entry) → FitsDemand c b →
    runs description c block known around said (entry_for (answer_with b) e ∷ es) ≡ continues description (following c b) block known around (with_call said (call_for (first_demand c))) es
runs_answered description (scan table next) (plan_answers.Keys keys) block known around said e es f = refl
runs_answered description (touch cell next) (plan_answers.Value value) block known around said e es f = refl
runs_answered description (write cell value next) plan_answers.Written block known around said e es f = refl
runs_answered description (course.done outcome) b block known around said e es f = absurd f
runs_answered description (scan table next) (plan_answers.Value value) block known around said e es f = absurd f
runs_answered description (scan table next) plan_answers.Written block known around said e es f = absurd f
runs_answered description (touch cell next) (plan_answers.Keys keys) block known around said e es f = absurd f
runs_answered description (touch cell next) plan_answers.Written block known around said e es f = absurd f
runs_answered description (write cell value next) (plan_answers.Keys keys) block known around said e es f = absurd f
runs_answered description (write cell value next) (plan_answers.Value v) block known around said e es f = absurd f

pub runs_refused : (description : RowDescription) (c : Course) (why : BookFault) (block : Block) (known : Knowledge) (around : Around) (said : Said) (e : Event) (es : List Entry) → asks_cells (first_demand c) ≡ true →
    runs description c block known around said (entry_for (answers.Refused why) e ∷ es) ≡ fails (refusal_state why) block known around (with_call said (call_for (first_demand c))) es
runs_refused description (scan table next) why block known around said e es h = refl
runs_refused description (touch cell next) why block known around said e es h = refl
runs_refused description (write cell value next) why block known around said e es h = refl
runs_refused description (course.done outcome) why block known around said e es h = absurd (cc h)

-- a statement that is done, and didn't fail
pub concludes_told : (description : RowDescription) (outcome : Outcome) (block : Block) (known : Knowledge) (around : Around) (said : Said) (es : List Entry) → ((code : SqlState) → outcome ≡ outcomes.Failed code → ⊥) →
    concludes description outcome block known around said es ≡ succeeds (outcome_reply description outcome) block known around said es
concludes_told description (outcomes.Failed code) block known around said es h = absurd (h code refl)
concludes_told description (outcomes.Rows fields rows) block known around said es h = refl
concludes_told description (outcomes.Inserted n) block known around said es h = refl
concludes_told description (outcomes.Updated n) block known around said es h = refl
concludes_told description (outcomes.Deleted n) block known around said es h = refl
