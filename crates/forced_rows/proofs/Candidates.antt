-- Which reads are permitted, by the rows.
use Rattle.std.proofs.Common.{◌≡◌, ℕ, List, [], ◌∷◌, ◌++◌, ◌↔◌, Bool, not, arith, refl, sym, ◌∙◌, subst, inl, inr}
use Rattle.std.specs.Prelude.{IsTrue, Any}
use Rattle.std.specs.List.{Contains}
use Rattle.std.proofs.lemmas.Bool.{cases_eq, false≢true, not-true, not_from_false, false_from_ne_true}
use Rattle.std.proofs.lemmas.List.Elements.{Contains-append_right}
use Rattle.bit_rows.proofs.Marks.{contains_cons}
use Rattle.graph_base.specs.declared.Edge.{Edge}
use Rattle.graph_base.specs.Walk.{HasCycle, IsInRange, Reaches}
use Rattle.graph_base.specs.Closure.{HasEdge}
use Rattle.reach_rows.specs.Rows.{edge_of}
use Rattle.reach_rows.specs.Stars.{star_of}
use Rattle.reach_rows.proofs.OneStar.{candidate_cycle, edge_of_star, in_star}
use Rattle.cell_base.specs.declared.cell.Cell.{Cell}
use Rattle.history_core.specs.declared.event.Event.{Event}
use Rattle.history_core.specs.Relations.{Writes}
use Rattle.history_core.specs.Legal.{IsPermitted}
use Rattle.history_core.proofs.Prefixes.{IsSound}
use Rattle.further_reads.specs.Further.{Sees, SeesWith, AreNewDemands, HaveForcedClosure}
use Rattle.further_reads.proofs.Sights.{sees_more}
use Rattle.further_reads.proofs.Extended.{permitted_with, no_cycle_permitted}
use Rattle.forced_rows.specs.declared.rows.ForcedRows.{ForcedRows}
use Rattle.forced_rows.specs.declared.reader.Reader.{Reader}
use Rattle.forced_rows.specs.declared.sight.Sight.TheVariants.{SoFar}
use Rattle.forced_rows.specs.Rows.{AreRowsOf}
use Rattle.forced_rows.specs.Sights.{IsReader, AreRivals}
use Rattle.forced_rows.proofs.Keeping.{nothing}

-- the kept pairs have the closure of the forced ones
pub closure_of : (events : List Event) (rows : ForcedRows) → AreRowsOf events rows → IsInRange rows.reach.size rows.reach.pairs → HaveForcedClosure events rows.reach.pairs
closure_of events rows are in_range = record {
  in_range = subst (λ (n : ℕ). IsInRange n rows.reach.pairs) are.size in_range;
  closure = are.stand.forced;
}

-- a test that says whether the demands close a cycle says whether the read isn't permitted
pub decided :
    (events : List Event) (reader : Reader) (cell : Cell) (source : ℕ) (pairs edges : List Edge) (close : Bool) → IsSound events → IsReader events reader →
    Writes events source cell → HaveForcedClosure events pairs → AreNewDemands reader.level events reader.number cell source edges →
    IsTrue close ↔ HasCycle (pairs ++ edges) → IsTrue (not close) ↔ IsPermitted events reader.session cell source
decided events reader cell source pairs edges close sound is writes have are tells = (
  λ permitted.
      permitted_with reader.level events sound reader.session reader.number cell source pairs edges is.pending is.runs writes have are
      (λ cycle. false≢true (sym (not-true close permitted) ∙ tells.1 cycle)),
  λ permitted. not_from_false close (false_from_ne_true close (λ closes.
      no_cycle_permitted reader.level events reader.session reader.number cell source pairs edges is.pending is.runs have are permitted (tells.0 closes))),
)

-- a list without one number
pub without : (s : ℕ) (xs : List ℕ) → (ys : List ℕ) × ((m : ℕ) → Contains ys m ↔ (Contains xs m × (m ≡ s → ⊥)))
without s [] = ([], λ m. (λ member. absurd (nothing m member), λ is. absurd (nothing m is.0)))
without s (x ∷ xs) =
    let rest = without s xs in
    elim (cases_eq x s) [
      | inl same ↦ (
        rest.0,
        λ m. (
          λ member. let is = (rest.1 m).0 member in (Contains-append_right (x ∷ []) xs m is.0, is.1),
          λ is. elim (contains_cons x xs m is.0) [
            | inl first ↦ absurd (is.1 (sym first ∙ same))
            | inr later ↦ (rest.1 m).1 (later, is.1)
          ],
        ),
      )
      | inr apart ↦ (
        x ∷ rest.0,
        λ m. (
          λ member. elim (contains_cons x rest.0 m member) [
            | inl first ↦ (
              subst (λ (n : ℕ). Contains (x ∷ xs) n) first (0, omega arith, refl),
              λ same. apart (first ∙ same),
            )
            | inr later ↦ let is = (rest.1 m).0 later in (Contains-append_right (x ∷ []) xs m is.0, is.1)
          ],
          λ is. elim (contains_cons x xs m is.0) [
            | inl first ↦ subst (λ (n : ℕ). Contains (x ∷ rest.0) n) first (0, omega arith, refl)
            | inr later ↦ Contains-append_right (x ∷ []) rest.0 m ((rest.1 m).1 (later, is.1))
          ],
        ),
      )
    ]

-- where the source shows nothing new, the demands are those of the read itself: the writers that are seen, before it
pub plain_demands :
    (events : List Event) (reader : Reader) (cell : Cell) (source : ℕ) (seen others : List ℕ) → AreRivals SoFar events reader cell 0 seen →
    ((m : ℕ) → Contains others m ↔ (Contains seen m × (m ≡ source → ⊥))) →
    ((n : ℕ) → SeesWith reader.level events reader.number source n → Sees reader.level events reader.number n) →
    AreNewDemands reader.level events reader.number cell source (star_of others source)
plain_demands events reader cell source seen others are is old = record {
  sound = λ a b edge.
      let of_star = edge_of_star others source (edge_of a b) edge in
      let member = (is a).0 of_star.0 in
      let rival = (are a).0 member.0 in
      inl record { of_source = of_star.1; other = member.1; writes = rival.1; sees = sees_more reader.level events reader.number source a rival.3 };
  whole = λ a b positive demand. elim demand [
    | inl of_read ↦
        let first : Contains seen a =
        (are a).1 (positive, of_read.writes, (λ initial. let z = initial in absurd (omega arith)), old a of_read.sees) in
        subst (λ (n : ℕ). HasEdge (star_of others source) a n) (sym of_read.of_source) (in_star others source a ((is a).1 (first, of_read.other)))
    | inr earlier ↦ absurd (earlier.seen.1 (old a earlier.seen.0))
  ];
}

-- then it is decided by whether the source is before one of the writers that the reader sees
pub plain_decided :
    (events : List Event) (reader : Reader) (cell : Cell) (source : ℕ) (pairs : List Edge) (seen : List ℕ) (has : Bool) → IsSound events → IsReader events reader →
    Writes events source cell → HaveForcedClosure events pairs → (HasCycle pairs → ⊥) → AreRivals SoFar events reader cell 0 seen →
    ((n : ℕ) → SeesWith reader.level events reader.number source n → Sees reader.level events reader.number n) →
    IsTrue has ↔ Any (λ writer. Reaches pairs source writer) seen → IsTrue (not has) ↔ IsPermitted events reader.session cell source
plain_decided events reader cell source pairs seen has sound is writes have acyclic are old tells =
    let others = without source seen in
    let cycle = candidate_cycle pairs seen others.0 source acyclic (λ m member. inl ((others.1 m).0 member)) (λ m member apart. (others.1 m).1 (member, apart)) in
    decided events reader cell source pairs (star_of others.0 source) has sound is writes have
    (plain_demands events reader cell source seen others.0 are others.1 old) (
      λ on. cycle.1 (tells.0 on),
      λ closes. tells.1 (cycle.0 closes),
    )
