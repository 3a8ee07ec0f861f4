-- What the end of a session says of its link.
use Rattle.std.specs.Prelude.{◌≡◌, ℕ, List, [], Option, Some, None}
use Rattle.block_machine.specs.declared.end.End.{End}
use Rattle.block_machine.specs.declared.end.End.TheVariants as ends

-- an end whose cause is the link
abbrev pub outer_end : End → Option End
outer_end ends.Closed = Some ends.Closed
outer_end ends.Cut = Some ends.Cut
outer_end ends.ReadFault = Some ends.ReadFault
outer_end ends.WriteFault = Some ends.WriteFault
outer_end ends.Spent = Some ends.Spent
outer_end _ = None

-- bytes are lost where the session ended with a failed write alone
abbrev pub LacksBy : End → List ℕ → Type 0
LacksBy ends.WriteFault lost = Unit {0}
LacksBy _ lost = lost ≡ []
