-- Rows that hold the closure of some edges; rows that come and go without pairs.
use Rattle.std.proofs.Common.{◌≡◌, ◌↔◌, ℕ, ◌+◌, ◌-◌, ◌<◌, ◌≤◌, List, [], ◌∷◌, ◌++◌, length, refl, ap, sym, ◌∙◌, subst, arith}
use Rattle.std.specs.List.{Contains}
use Rattle.std.proofs.lemmas.List.{length_push, get_or_push}
use Rattle.std.proofs.lemmas.List.Elements.{All-contains}
use Rattle.graph_base.specs.declared.Edge.{Edge}
use Rattle.graph_base.specs.Walk.{IsInRange, HasCycle, Reaches}
use Rattle.graph_base.specs.Closure.{SameClosure}
use Rattle.graph_base.proofs.Walks.{reaches_on, leads_from_reaches, cycle_from_reaches}
use Rattle.graph_base.proofs.Closures.{reaches_in_range}
use Rattle.bit_rows.specs.declared.TheConstants.{ROW_BITS}
use Rattle.reach_rows.specs.Ancestry.{Ancestry, IsLast}
use Rattle.reach_rows.specs.Rows.{row_at, edge_of, pairs_of, HasPair, IsClosed}
use Rattle.reach_rows.proofs.Pairs.{pairs_in_range, member_from_reaches, reaches_from_member, row_push_same, pair_from_member, pairs_of-push}

-- the rows hold the closure of the edges
abbrev pub AreRowsOf : List Edge → List (List ℕ) → Type 0
AreRowsOf edges rows = (a b : ℕ) → HasPair rows a b ↔ Reaches edges a b

pub closed_rows_of : (rows : List (List ℕ)) → IsClosed rows → AreRowsOf (pairs_of rows) rows
closed_rows_of rows closed a b = (reaches_from_member rows a b, member_from_reaches rows closed a b)

pub closed_from :
    (edges : List Edge) (rows : List (List ℕ)) → 0 < length rows → length rows ≤ ROW_BITS → IsInRange (length rows) edges →
    (HasCycle edges → ⊥) → AreRowsOf edges rows → IsClosed rows
closed_from edges rows some few in_range acyclic are = record {
  some = some;
  few = few;
  below = λ a b member. (reaches_in_range (length rows) edges in_range a b ((are a b).0 member)).0;
  transitive = λ a b c first second.
      (are a c).1 (reaches_on edges a b c ((are a b).0 first) (leads_from_reaches edges b c ((are b c).0 second)));
  irreflexive = λ a member. acyclic (cycle_from_reaches edges a ((are a a).0 member));
}

pub same_closure_from : (edges : List Edge) (rows : List (List ℕ)) → IsClosed rows → AreRowsOf edges rows → SameClosure (pairs_of rows) edges
same_closure_from edges rows closed are a b =
    (λ on. (are a b).0 (member_from_reaches rows closed a b on), λ on. reaches_from_member rows a b ((are a b).1 on))

-- ---- an empty row more, and one less

pub closed_push :
    (rows : List (List ℕ)) (row : List ℕ) → row ≡ [] → length rows < ROW_BITS → IsClosed rows → IsClosed (rows ++ row ∷ [])
closed_push rows row none room closed =
    let long : length (rows ++ row ∷ []) ≡ length rows + 1 = length_push rows row in
    let some = closed.some in
    let old : (a b : ℕ) → HasPair (rows ++ row ∷ []) a b → HasPair rows a b =
    λ a b member. subst (λ (r : List ℕ). Contains r a) (row_push_same rows row b none) member in
    let new : (a b : ℕ) → HasPair rows a b → HasPair (rows ++ row ∷ []) a b =
    λ a b member. subst (λ (r : List ℕ). Contains r a) (sym (row_push_same rows row b none)) member in
    record {
      some = omega arith;
      few = omega arith;
      below = λ a b member. let small : a < length rows = closed.below a b (old a b member) in omega arith;
      transitive = λ a b c first second. new a c (closed.transitive a b c (old a b first) (old b c second));
      irreflexive = λ a member. closed.irreflexive a (old a a member);
    }

pub nil_without : (xs : List ℕ) → ((x : ℕ) → Contains xs x → ⊥) → xs ≡ []
nil_without [] none = refl
nil_without (x ∷ xs) none = absurd (none x (0, omega arith, refl))

-- the last row is empty where no pair names its number
pub last_row_empty :
    (rows : List (List ℕ)) (row : List ℕ) → IsInRange (length rows) (pairs_of (rows ++ row ∷ [])) → row ≡ []
last_row_empty rows row unnamed =
    nil_without row (λ x member.
    let at : Contains (row_at (rows ++ row ∷ []) (length rows)) x =
    subst (λ (r : List ℕ). Contains r x) (sym (get_or_push rows row [] (length rows) refl)) member in
    let pair = pair_from_member (rows ++ row ∷ []) x (length rows) at in
    let ends = All-contains (λ e. (e.before < length rows) × (e.after < length rows))
    (pairs_of (rows ++ row ∷ [])) (edge_of x (length rows)) unnamed pair in
    let small : length rows < length rows = ends.1 in
    absurd (omega arith))

pub closed_pop :
    (rows : List (List ℕ)) (row : List ℕ) → IsClosed (rows ++ row ∷ []) → 2 ≤ length (rows ++ row ∷ []) →
    IsInRange (length rows) (pairs_of (rows ++ row ∷ [])) → IsClosed rows
closed_pop rows row closed many unnamed =
    let none : row ≡ [] = last_row_empty rows row unnamed in
    let long : length (rows ++ row ∷ []) ≡ length rows + 1 = length_push rows row in
    let few = closed.few in
    let new : (a b : ℕ) → HasPair rows a b → HasPair (rows ++ row ∷ []) a b =
    λ a b member. subst (λ (r : List ℕ). Contains r a) (sym (row_push_same rows row b none)) member in
    let old : (a b : ℕ) → HasPair (rows ++ row ∷ []) a b → HasPair rows a b =
    λ a b member. subst (λ (r : List ℕ). Contains r a) (row_push_same rows row b none) member in
    record {
      some = omega arith;
      few = omega arith;
      below = λ a b member.
          (All-contains (λ e. (e.before < length rows) × (e.after < length rows)) (pairs_of (rows ++ row ∷ [])) (edge_of a b) unnamed
          (pair_from_member (rows ++ row ∷ []) a b (new a b member))).0;
      transitive = λ a b c first second. old a c (closed.transitive a b c (new a b first) (new b c second));
      irreflexive = λ a member. closed.irreflexive a (new a a member);
    }

-- ---- what an Ancestors shows

abbrev pub ancestry_of : List (List ℕ) → Ancestry
ancestry_of rows = record { size = length rows; pairs = pairs_of rows }

pub same_ancestry :
    (rows : List (List ℕ)) (size : ℕ) (pairs : List Edge) → length rows ≡ size → pairs_of rows ≡ pairs →
    ancestry_of rows ≡ record { size = size; pairs = pairs }
same_ancestry rows size pairs long same =
    let first : ancestry_of rows ≡ record { size = size; pairs = pairs_of rows } =
    ap (λ (n : ℕ). let r : Ancestry = record { size = n; pairs = pairs_of rows } in r) long in
    let second : record { size = size; pairs = pairs_of rows } ≡ record { size = size; pairs = pairs } =
    ap (λ (ps : List Edge). let r : Ancestry = record { size = size; pairs = ps } in r) same in
    first ∙ second

pub size_of : (rows : List (List ℕ)) (now : Ancestry) → ancestry_of rows ≡ now → length rows ≡ now.size
size_of rows now view = ap (λ (r : Ancestry). r.size) view

pub pairs_of_view : (rows : List (List ℕ)) (now : Ancestry) → ancestry_of rows ≡ now → pairs_of rows ≡ now.pairs
pairs_of_view rows now view = ap (λ (r : Ancestry). r.pairs) view

pub grown :
    (rows new : List (List ℕ)) (row : List ℕ) (now : Ancestry) → ancestry_of rows ≡ now → new ≡ rows ++ row ∷ [] → row ≡ [] →
    ancestry_of new ≡ record { size = now.size + 1; pairs = now.pairs }
grown rows new row now view is none =
    let size : length rows ≡ now.size = size_of rows now view in
    let long : length (rows ++ row ∷ []) ≡ length rows + 1 = length_push rows row in
    let whole : length new ≡ length (rows ++ row ∷ []) = ap length is in
    same_ancestry new (now.size + 1) now.pairs (omega arith)
    (ap pairs_of is ∙ pairs_of-push rows row none ∙ pairs_of_view rows now view)

-- the last row goes, which no pair names
pub record IsTakenBack (new : List (List ℕ)) (now : Ancestry) : Type 0 where
  pub closed : IsClosed new
  pub shows : ancestry_of new ≡ record { size = now.size - 1; pairs = now.pairs }

pub taken_back :
    (rows new : List (List ℕ)) (row : List ℕ) (now : Ancestry) → ancestry_of rows ≡ now → IsClosed rows → rows ≡ new ++ row ∷ [] →
    2 ≤ now.size → IsInRange (now.size - 1) now.pairs → IsTakenBack new now
taken_back rows new row now view closed is many unnamed =
    let size : length rows ≡ now.size = size_of rows now view in
    let long : length (new ++ row ∷ []) ≡ length new + 1 = length_push new row in
    let whole : length rows ≡ length (new ++ row ∷ []) = ap length is in
    let less : now.size - 1 ≡ length new = omega arith in
    let pairs : now.pairs ≡ pairs_of (new ++ row ∷ []) = sym (pairs_of_view rows now view) ∙ ap pairs_of is in
    let named : IsInRange (length new) (pairs_of (new ++ row ∷ [])) =
    subst (λ (ps : List Edge). IsInRange (length new) ps) pairs (subst (λ (n : ℕ). IsInRange n now.pairs) less unnamed) in
    let none : row ≡ [] = last_row_empty new row named in
    record {
      closed = closed_pop new row (subst (λ (rs : List (List ℕ)). IsClosed rs) is closed) (omega arith) named;
      shows = same_ancestry new (now.size - 1) now.pairs (sym less) (sym (pairs_of-push new row none) ∙ sym pairs);
    }

-- nothing comes after a number that is out of range
pub last_past : (rows : List (List ℕ)) (now : Ancestry) → ancestry_of rows ≡ now → IsClosed rows → IsLast now.pairs now.size
last_past rows now view closed =
    let size : length rows ≡ now.size = size_of rows now view in
    let in_range : IsInRange (length rows) now.pairs =
    subst (λ (ps : List Edge). IsInRange (length rows) ps) (pairs_of_view rows now view) (pairs_in_range rows closed) in
    record {
      reaches_none = λ b on.
          let small : now.size < length rows = (reaches_in_range (length rows) now.pairs in_range now.size b on).0 in
          absurd (omega arith);
    }
