-- What the rows of a history say of a further read.
use Rattle.std.proofs.Common.{◌≡◌, ℕ, ◌+◌, ◌<◌, List, ◌++◌, length, arith, refl, sym, subst}
use Rattle.std.specs.List.{Contains, Any}
use Rattle.graph_base.specs.declared.Edge.{Edge}
use Rattle.graph_base.specs.Walk.{IsInRange, HasCycle}
use Rattle.graph_base.specs.Closure.{SameClosure}
use Rattle.reach_rows.specs.declared.Star.{Star}
use Rattle.reach_rows.specs.Ancestry.{IsLast}
use Rattle.reach_rows.specs.Rows.{edge_of}
use Rattle.reach_rows.specs.Stars.{edges_of}
use Rattle.reach_rows.proofs.OneStar.{in_star}
use Rattle.reach_rows.proofs.Graph.{in_stars}
use Rattle.cell_base.specs.declared.cell.Cell.{Cell}
use Rattle.cell_base.specs.declared.value.Value.{Value}
use Rattle.history_core.specs.declared.event.Event.{Event}
use Rattle.history_core.specs.Events.{begun}
use Rattle.history_core.specs.Relations.{Precedes}
use Rattle.history_core.specs.Forced.{IsForced}
use Rattle.history_core.proofs.Prefixes.{IsSound, sound_of}
use Rattle.history_core.proofs.Offers.{writer_bounded}
use Rattle.history_core.proofs.Next.{pending_bounded}
use Rattle.history_core.proofs.Numbers.{pending_positive}
use Rattle.saturation.specs.Laws.{with_read}
use Rattle.saturation.proofs.After.{size_after, pending_no_source}
use Rattle.further_reads.proofs.Extended.{no_cycle_permitted}
use Rattle.further_reads.proofs.NewDemands.{new_demand_writes}
use Rattle.further_reads.proofs.Pending.{pending_reaches_none, pending_precedes_none}
use Rattle.further_reads.proofs.Lasts.{last_begun_unique, pending_is_last}
use Rattle.forced_rows.specs.declared.rows.ForcedRows.{ForcedRows}
use Rattle.forced_rows.specs.declared.stars.ReadStars.{ReadStars}
use Rattle.forced_rows.specs.Seats.{seat_at, ChangesSeat, GainsSource}
use Rattle.forced_rows.specs.Rows.{AreRowsOf}
use Rattle.forced_rows.specs.Stars.{AddsRead}
use Rattle.forced_rows.proofs.Closures.{last_from, edges_then}
use Rattle.forced_rows.proofs.SeatLists.{seated}
use Rattle.forced_rows.proofs.Keeping.{link_of, stand_read}

-- what a call knows of a read whose event has been appended
pub record IsReading (before : List Event) (session source reader : ℕ) (stars : List Star) (rows : ForcedRows) : Type 0 where
  pub last : (seat_at rows.seats.items session).last ≡ reader
  pub size : rows.reach.size ≡ begun before + 1
  pub past_size : rows.past.size ≡ begun before + 1
  pub source_small : source < begun before + 1
  pub reader_small : reader < begun before + 1
  pub apart : source ≡ reader → ⊥
  pub seated : session < length rows.seats.items
  pub acyclic : IsInRange rows.reach.size rows.reach.pairs → HasCycle (rows.reach.pairs ++ edges_of stars) → ⊥
  pub none_after : IsLast rows.reach.pairs reader
  pub past_none_after : IsLast rows.past.pairs reader
  pub no_member : Any (λ star. Contains star.members.items reader) stars → ⊥

-- a member of a star is the begin of an edge
pub member_edge : (stars : List Star) (n : ℕ) → Any (λ star. Contains star.members.items n) stars → (target : ℕ) × Contains (edges_of stars) (edge_of n target)
member_edge stars n (k, star, within, at, member) =
    (star.target, in_stars stars k star (edge_of n star.target) within at (in_star star.members.items star.target n member))

pub reading :
    (initial : List (Cell × Value)) (events : List Event) (session source : ℕ) (stars : ReadStars) (rows : ForcedRows) →
    (read : AddsRead initial events session source stars rows) → IsReading read.before session source read.new.reader stars.stars.items rows
reading initial events session source stars rows read =
    let before = read.before in
    let new = read.new in
    let reader = new.reader in
    let sound : IsSound before = sound_of initial before read.formed in
    let stand = read.kept.stand in
    let last : (seat_at rows.seats.items session).last ≡ reader =
    last_begun_unique before session (seat_at rows.seats.items session).last reader (stand.seats session).last (pending_is_last before sound reader session new.pending) in
    let writes = read.permitted.0 in
    let small = pending_bounded before reader session new.pending in
    let positive = pending_positive before reader session new.pending in record {
      last = last;
      size = read.kept.size;
      past_size = read.kept.past_size;
      source_small = writer_bounded before source read.cell writes;
      reader_small = omega arith;
      apart = λ same. pending_no_source before session reader read.cell source new.pending writes (sym same);
      seated = seated rows.seats.items session (omega arith);
      acyclic = λ in_range.
          no_cycle_permitted new.level before session reader read.cell source rows.reach.pairs (edges_of stars.stars.items) new.pending new.runs
          record { in_range = subst (λ (n : ℕ). IsInRange n rows.reach.pairs) read.kept.size in_range; closure = stand.forced } new.stars.demands read.permitted;
      none_after = last_from (IsForced before) rows.reach.pairs reader stand.forced (λ m. pending_reaches_none before sound reader session m new.pending);
      past_none_after = last_from (Precedes before) rows.past.pairs reader stand.past (λ m. pending_precedes_none before sound reader session m new.pending);
      no_member = λ any.
          let found = member_edge stars.stars.items reader any in
          let wrote = new_demand_writes new.level before reader read.cell source reader found.0 (new.stars.demands.sound reader found.0 found.1) in
          pending_no_source before session reader wrote.0 reader new.pending wrote.1 refl;
    }

pub read_done :
    (initial : List (Cell × Value)) (events : List Event) (session source : ℕ) (stars : ReadStars) (rows new : ForcedRows) (middle : List Edge) →
    (read : AddsRead initial events session source stars rows) → new.reach.size ≡ rows.reach.size → new.past.size ≡ rows.past.size →
    SameClosure middle (rows.reach.pairs ++ edges_of stars.stars.items) → SameClosure new.reach.pairs (middle ++ link_of source read.new.reader) →
    SameClosure new.past.pairs (rows.past.pairs ++ link_of source read.new.reader) →
    ChangesSeat rows.seats.items new.seats.items session (GainsSource source) → AreRowsOf events new
read_done initial events session source stars rows new middle read size past_size one two past changes =
    let before = read.before in
    let same : begun (with_read before session read.cell source read.count read.word read.value) ≡ begun before =
    size_after before session read.cell source read.count read.word read.value in
    let is_size = read.kept.size in
    let is_past_size = read.kept.past_size in
    subst (λ (es : List Event). AreRowsOf es new) (sym read.is) record {
      size = omega arith;
      past_size = omega arith;
      stand = stand_read before session read.new.reader read.new.level read.cell source read.count read.word read.value (edges_of stars.stars.items) rows new
          (sound_of initial before read.formed) read.new.pending read.new.runs read.permitted.0 read.new.stars.demands read.kept.stand
          (edges_then rows.reach.pairs (edges_of stars.stars.items) (link_of source read.new.reader) middle new.reach.pairs one two) past changes;
    }
