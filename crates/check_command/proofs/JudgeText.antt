-- The text of a history that meets no level.
use Rattle.std.proofs.Common.{◌≡◌, ℕ, List, [], ◌∷◌, ◌++◌, codes, map, append_assoc, ap, ◌∙◌}
use Rattle.history_log.specs.Spelling.{whole_lines}
use Rattle.cycle_report.specs.declared.judgement.Step.{Step}
use Rattle.check_command.specs.Lines.{line_of}
use Rattle.check_command.specs.JudgeLines.{step_words, cycle_lines}

pub nothing_text :
    (steps : List Step) (start a new : List ℕ) → a ≡ start ++ (line_of (codes "judge none") ++ line_of (codes "cycle rc")) →
    new ≡ a ++ whole_lines (map step_words steps) → new ≡ start ++ (line_of (codes "judge none") ++ cycle_lines (codes "rc") steps)
nothing_text steps start a new before after =
    after ∙ ap (λ (xs : List ℕ). xs ++ whole_lines (map step_words steps)) before
    ∙ append_assoc start (line_of (codes "judge none") ++ line_of (codes "cycle rc")) (whole_lines (map step_words steps))
