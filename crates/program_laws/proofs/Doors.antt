-- Where a worker's door accepted no further link, a door counted that.
use Rattle.std.proofs.Common.{◌≡◌, ◌<◌, ℕ, suc, List, [], ◌∷◌, Option, Some, None, arith, rules}
use Rattle.std.specs.Prelude.{Contains}
use Rattle.std.proofs.lemmas.List.Elements.{Contains-append_right}
use Rattle.std.proofs.lemmas.Option.{none-some}
use Rattle.cell_base.specs.declared.level.Level.{Level}
use Rattle.history_core.specs.Chronicle.{Chronicle}
use Rattle.link_traits.specs.declared.host.HostFault.{HostFault}
use Rattle.link_traits.specs.declared.host.HostFault.TheVariants as faults
use Rattle.doors.specs.Passage.{Passage}
use Rattle.door_workers.specs.Workers.{faults_after}
use Rattle.serve_command.specs.Parts.{Part, AreParts, worse, worst_of}

-- a door that counted a fault
pub record HasFailed (doors : List Passage) : Type 0 where
  pub door : Passage
  pub inside : Contains doors door
  pub some : 0 < door.faults

memory_failed : Some faults.Memory ≡ Some faults.Failed → ⊥
memory_failed clash = cc

later_failed : (door : Passage) (doors : List Passage) → HasFailed doors → HasFailed (door ∷ doors)
later_failed door doors failed = record { door = failed.door; inside = Contains-append_right (door ∷ []) doors failed.door failed.inside; some = failed.some }

first_failed : (door : Passage) (doors : List Passage) → door.faults ≡ faults_after (Some faults.Failed) 0 → HasFailed (door ∷ doors)
first_failed door doors is = record { door = door; inside = search rules; some = omega (arith, is) }

-- by the fault of the first worker
one_failed : (fault others : Option HostFault) (door : Passage) (doors : List Passage) → door.faults ≡ faults_after fault 0 → worse fault others ≡ Some faults.Failed →
    (others ≡ Some faults.Failed → HasFailed doors) → HasFailed (door ∷ doors)
one_failed None others door doors counts is further = later_failed door doors (further is)
one_failed (Some faults.Failed) others door doors counts is further = first_failed door doors counts
one_failed (Some faults.Memory) others door doors counts is further = absurd (memory_failed is)

pub some_failed : (level : Level) (start history : Chronicle) (seed most stream : ℕ) (befores : List Passage) (parts : List Part) (afters : List Passage) →
    AreParts level start history seed most stream befores parts afters → worst_of parts ≡ Some faults.Failed → HasFailed afters
some_failed level start history seed most stream [] [] [] are is = absurd (none-some faults.Failed is)
some_failed level start history seed most stream (before ∷ befores) (part ∷ parts) (after ∷ afters) are is =
    one_failed part.fault (worst_of parts) after afters are.0.faults is
    (λ worst. some_failed level start history seed most (suc stream) befores parts afters are.1 worst)
some_failed level start history seed most stream [] [] (after ∷ afters) are is = absurd are
some_failed level start history seed most stream [] (part ∷ parts) afters are is = absurd are
some_failed level start history seed most stream (before ∷ befores) [] afters are is = absurd are
some_failed level start history seed most stream (before ∷ befores) (part ∷ parts) [] are is = absurd are
