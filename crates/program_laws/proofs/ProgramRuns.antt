-- Two runs of the program with the same words and the same input, which end well or by their client's fault, are alike.
use Rattle.std.proofs.Common.{◌≡◌, inl, inr, ℕ, ◌<◌, ◌≤◌, List, length, Option, Some, arith, refl, sym, ◌∙◌, ap, subst}
use Rattle.std.specs.Prelude.{IfSome}
use Rattle.cell_base.specs.declared.level.Level.{Level}
use Rattle.link_traits.specs.Traffic.{Sight}
use Rattle.link_traits.specs.Host.{Hosted}
use Rattle.doors.specs.Network.{Networked}
use Rattle.command_line.specs.Commands.{IsPipe}
use Rattle.command_line.specs.declared.pipe.PipeCommand.{PipeCommand}
use Rattle.command_line.specs.declared.reading.CommandLine.{CommandLine}
use Rattle.command_line.specs.declared.reading.CommandLine.TheVariants as lines
use Rattle.command_line.proofs.OneCommand.{one_command}
use Rattle.monkey_server.specs.Program.{Piped, Untouched, Pipes, Obeys, Does}
use Rattle.program_laws.specs.OneHistory.{ProgramRunsAreAlike}
use Rattle.program_laws.proofs.PipedRuns.{piped_runs}

-- ---- a code below 2 tells that a session was served

not_small : (code n : ℕ) → code ≡ n → 2 ≤ n → code < 2 → ⊥
not_small code n is large small = omega (arith, is, large, small)

untouched_large : (before after : Hosted) (code : ℕ) → Untouched before code after → code < 2 → ⊥
untouched_large before after code u small = not_small code 5 u.0 (omega arith) small

piped_of : (level : Level) (words : List ℕ) (before after : Hosted) (code : ℕ) → Pipes level words before code after → code < 2 → Piped level words before code after
piped_of level words before after code (inl piped) small = piped
piped_of level words before after code (inr (inl linkless)) small = absurd (not_small code 6 linkless.0 (omega arith) small)
piped_of level words before after code (inr (inr untouched)) small = absurd (untouched_large before after code untouched small)

served_of : (args : List (List ℕ)) (level : Level) (words : List ℕ) (network left : Networked) (before after : Hosted) (code : ℕ) → IsPipe args level words →
    Does args network before code left after → code < 2 → Piped level words before code after
served_of args level words network left before after code is (inl (line, line_is, obeys)) small =
    let pipe : PipeCommand = record { level = level; words = words } in
    let same : line ≡ lines.Pipe pipe = one_command args line (lines.Pipe pipe) line_is is in
    piped_of level words before after code (subst (λ (l : CommandLine). Obeys l network before code left after) same obeys).0 small
served_of args level words network left before after code is (inr untouched) small = absurd (untouched_large before after code untouched.0 small)

-- ---- two runs

-- the link that was handed out is the one that was told beforehand
given_is : (told : Option Sight) (given next : Sight) → told ≡ Some next → IfSome told (λ (s : Sight). given ≡ s) → given ≡ next
given_is told given next is same = subst (λ (o : Option Sight). IfSome o (λ (s : Sight). given ≡ s)) is same

pub program_runs : ProgramRunsAreAlike
program_runs args level words network left other right before after then later code status input output pipe does also offers offer small smaller =
    let a : Piped level words before code after = served_of args level words network left before after code pipe does small in
    let b : Piped level words then status later = served_of args level words other right then later status pipe also smaller in
    let is =
    piped_runs level words before after then later code status offers.traffic offer.traffic a b
    (ap (λ (s : Sight). s.traffic) (given_is before.next_link a.given offers.next offers.next_is a.told) ∙ offers.traffic_is)
    (ap (λ (s : Sight). s.traffic) (given_is then.next_link b.given offer.next offer.next_is b.told) ∙ offer.traffic_is)
    (offers.left_is ∙ sym offer.left_is) (offers.written_is ∙ sym offer.written_is) small smaller in (
      is.0,
      (
        is.2.one.written,
        record { link = a.returned; traffic = is.2.one; back = ap (λ (h : Hosted). h.back) a.after_is; traffic_is = is.2.one_is; written_is = refl },
        record { link = b.returned; traffic = is.2.other; back = ap (λ (h : Hosted). h.back) b.after_is; traffic_is = is.2.other_is; written_is = sym is.2.same },
      ),
    )
