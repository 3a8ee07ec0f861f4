-- The lines that a judge prints.
use Rattle.std.specs.Prelude.{ℕ, List, [], ◌∷◌, ◌++◌, codes, decimal, map}
use Rattle.cell_base.specs.declared.level.Level.{Level}
use Rattle.cell_base.specs.declared.level.Level.TheVariants.{Rc, Ra, Cc}
use Rattle.history_log.specs.Spelling.{cell_word, order_line, whole_lines}
use Rattle.cycle_report.specs.declared.judgement.Reason.{Reason}
use Rattle.cycle_report.specs.declared.judgement.Reason.TheVariants as reasons
use Rattle.cycle_report.specs.declared.judgement.Step.{Step}
use Rattle.cycle_report.specs.declared.judgement.Judgement.{Judgement}
use Rattle.cycle_report.specs.declared.judgement.Judgement.TheVariants.{Top, Upto, Nothing}
use Rattle.check_command.specs.Lines.{and_number, line_of}

abbrev pub level_word : Level → List ℕ
level_word Rc = codes "rc"
level_word Ra = codes "ra"
level_word Cc = codes "cc"

-- the level that is stronger than this one; none is stronger than Causal Consistency
abbrev pub next_word : Level → List ℕ
next_word Rc = codes "ra"
next_word Ra = codes "cc"
next_word Cc = codes "cc"

-- why a pair must be kept
abbrev pub reason_words : Reason → List ℕ
reason_words reasons.SessionOrder = codes " so"
reason_words (reasons.Read event) = codes " read" ++ and_number event
reason_words (reasons.Axiom event cell) = (codes " axiom" ++ and_number event) ++ 32 ∷ cell_word cell

-- a pair of a cycle
abbrev pub step_words : Step → List ℕ
step_words step = (decimal step.edge.before ++ and_number step.edge.after) ++ reason_words step.reason

-- the line of the level, and a line for each pair
abbrev pub cycle_lines : List ℕ → List Step → List ℕ
cycle_lines level steps = line_of (codes "cycle " ++ level) ++ whole_lines (map step_words steps)

abbrev pub order_lines : List ℕ → List ℕ
order_lines order = line_of (order_line order)

-- the level, the order, and the cycle at the next level
abbrev pub judgement_lines : Judgement → List ℕ
judgement_lines (Top order) = line_of (codes "judge cc") ++ order_lines order.items
judgement_lines (Upto level order cycle) =
    (line_of (codes "judge " ++ level_word level) ++ order_lines order.items) ++ cycle_lines (next_word level) cycle.items
judgement_lines (Nothing cycle) = line_of (codes "judge none") ++ cycle_lines (codes "rc") cycle.items
