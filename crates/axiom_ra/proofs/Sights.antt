-- What the reads of a transaction see at Read Atomic, by marks on what precedes it.
use Rattle.std.proofs.Common.{◌≡◌, ◌≤◌, ◌+◌, ℕ, List, Option, Bool, true, length, set, ◌↔◌}
use Rattle.order_witness.specs.Marks.{IsMarked}
use Rattle.cell_base.specs.declared.level.Level.TheVariants.{Ra}
use Rattle.cell_base.specs.declared.cell.Cell.{Cell}
use Rattle.history_core.specs.declared.event.Event.{Event}
use Rattle.history_core.specs.Events.{begun}
use Rattle.history_core.proofs.Prefixes.{IsSound}
use Rattle.saturation.specs.Laws.{with_read}
use Rattle.saturation.specs.Views.{ArePredecessors}
use Rattle.axiom_base.specs.Sights.{Sees, IsSightOf, IsSight, IsSightWith}
use Rattle.axiom_base.proofs.Starts.{AreStarts, starts_now, starts_with, sight_from_marks}

sight_of :
    (events now : List Event) (reader limit : ℕ) (marks : List Bool) (since : List (Option ℕ)) → AreStarts events now reader marks →
    length since ≡ length marks → ((place writer : ℕ) → Sees since (place + 1) writer ↔ IsMarked marks writer) → IsSightOf Ra now reader limit since
sight_of events now reader limit marks since starts size exact =
    sight_from_marks Ra now reader limit marks since starts.size size exact (λ place writer. (starts.back writer, starts.first writer))

pub sight_now :
    (events : List Event) (reader : ℕ) (marks : List Bool) (since : List (Option ℕ)) → IsSound events → ArePredecessors events reader marks →
    length since ≡ length marks → ((place writer : ℕ) → Sees since (place + 1) writer ↔ IsMarked marks writer) → IsSight Ra events reader since
sight_now events reader marks since sound are size exact =
    λ limit. sight_of events events reader limit marks since (starts_now events reader marks sound are) size exact

pub sight_then :
    (events : List Event) (reader : ℕ) (cell : Cell) (source : ℕ) (marks : List Bool) (since : List (Option ℕ)) → IsSound events → source ≤ begun events →
    ArePredecessors events reader marks → length since ≡ length (set marks source true) →
    ((place writer : ℕ) → Sees since (place + 1) writer ↔ IsMarked (set marks source true) writer) → IsSightWith Ra events reader cell source since
sight_then events reader cell source marks since sound small are size exact =
    λ s n u v pending. sight_of events (with_read events s cell source n u v) reader (length events + 1) (set marks source true) since
    (starts_with events s reader cell source n u v marks sound pending small are) size exact
