-- What the reads of a transaction see at Causal Consistency, by marks on its causal past.
use Rattle.std.proofs.Common.{◌≡◌, ◌≤◌, ◌+◌, ℕ, List, Option, Bool, true, length, set, ◌∙◌, ◌↔◌}
use Rattle.order_witness.specs.Marks.{IsMarked}
use Rattle.cell_base.specs.declared.level.Level.TheVariants.{Cc}
use Rattle.cell_base.specs.declared.cell.Cell.{Cell}
use Rattle.history_core.specs.declared.event.Event.{Event}
use Rattle.history_core.specs.Events.{begun}
use Rattle.history_core.proofs.Prefixes.{IsSound}
use Rattle.saturation.specs.Laws.{with_read}
use Rattle.saturation.specs.Views.{ArePredecessors, IsPastOf}
use Rattle.axiom_base.specs.Sights.{Sees, IsSightOf, IsSight, IsSightWith}
use Rattle.axiom_base.proofs.Starts.{AreStarts, starts_now, starts_with, past_exact, sight_from_marks}

sight_of :
    (events now : List Event) (reader limit : ℕ) (start marks : List Bool) (since : List (Option ℕ)) → AreStarts events now reader start →
    IsPastOf events start marks → length since ≡ length marks → ((place writer : ℕ) → Sees since (place + 1) writer ↔ IsMarked marks writer) →
    IsSightOf Cc now reader limit since
sight_of events now reader limit start marks since starts past size exact =
    sight_from_marks Cc now reader limit marks since (past.size ∙ starts.size) size exact
    (λ place writer. past_exact events now reader start marks starts past writer)

pub sight_now :
    (events : List Event) (reader : ℕ) (start marks : List Bool) (since : List (Option ℕ)) → IsSound events → ArePredecessors events reader start →
    IsPastOf events start marks → length since ≡ length marks → ((place writer : ℕ) → Sees since (place + 1) writer ↔ IsMarked marks writer) →
    IsSight Cc events reader since
sight_now events reader start marks since sound are past size exact =
    λ limit. sight_of events events reader limit start marks since (starts_now events reader start sound are) past size exact

pub sight_then :
    (events : List Event) (reader : ℕ) (cell : Cell) (source : ℕ) (start marks : List Bool) (since : List (Option ℕ)) → IsSound events → source ≤ begun events →
    ArePredecessors events reader start → IsPastOf events (set start source true) marks → length since ≡ length marks →
    ((place writer : ℕ) → Sees since (place + 1) writer ↔ IsMarked marks writer) → IsSightWith Cc events reader cell source since
sight_then events reader cell source start marks since sound small are past size exact =
    λ s n u v pending. sight_of events (with_read events s cell source n u v) reader (length events + 1) (set start source true) marks since
    (starts_with events s reader cell source n u v start sound pending small are) past size exact
