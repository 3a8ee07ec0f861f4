-- What a command prints.
use Rattle.std.specs.Prelude.{◌≡◌, ◌⊎◌, ℕ, List, Some}
use Rattle.link_traits.specs.Faults.{Rose}
use Rattle.link_traits.specs.Traffic.{Both, Wrote, WrotePart, Sight}
use Rattle.link_traits.specs.Host.{Hosted}

-- what was written of a line, and the status: this one where the line was written whole
abbrev pub Prints : List ℕ → ℕ → Sight → ℕ → Sight → Type 0
Prints line whole o code p =
    ((code ≡ whole) × Both (Wrote line) o.traffic p.traffic)
    ⊎ ((code ≡ 4) × Both (WrotePart line) o.traffic p.traffic × Rose o.write_faults p.write_faults)

-- a line was printed to the output of the host
pub record Printed (line : List ℕ) (whole : ℕ) (before : Hosted) (code : ℕ) (after : Hosted) : Type 0 where
  pub old_out : Sight
  pub new_out : Sight
  pub old_out_is : before.out ≡ Some old_out
  pub after_is : after ≡ record before { out = Some new_out }
  pub prints : Prints line whole old_out code new_out
