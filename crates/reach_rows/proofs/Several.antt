-- Several stars, added one after another to the rows of what leads to their members.
use Rattle.std.proofs.Common.{◌≡◌, ◌↔◌, ℕ, ◌+◌, ◌<◌, ◌≤◌, List, [], ◌∷◌, ◌++◌, length, get_or, take, drop, refl, ap, sym, ◌∙◌, subst, inl, inr, append_assoc, arith}
use Rattle.std.specs.List.{Contains, Any}
use Rattle.std.proofs.lemmas.Bool.{cases_lt}
use Rattle.std.proofs.lemmas.List.{append-nil, length_push, take_more, take_all, take-append-drop, get_or_push, get_or_append_left, get_or_default}
use Rattle.graph_base.specs.declared.Edge.{Edge}
use Rattle.graph_base.specs.Walk.{HasCycle, Leads}
use Rattle.graph_base.specs.Closure.{SameClosure}
use Rattle.graph_base.proofs.Walks.{cycle_kept}
use Rattle.graph_base.proofs.Closures.{same_closure_more, same_cycles}
use Rattle.reach_rows.specs.Ancestry.{Ancestry, IsLast}
use Rattle.reach_rows.specs.declared.Star.{Star}
use Rattle.reach_rows.specs.Rows.{row_at, IsUpTo, Carries, CarriesUpTo, AreStarRows}
use Rattle.reach_rows.specs.Stars.{star_of, edges_of, LeadInto}
use Rattle.reach_rows.proofs.Closing.{AreRowsOf}
use Rattle.reach_rows.proofs.OneStar.{ToSome, to_some_from_any, any_from_to_some, any_from_contains, leads_star, leads_starred, cycle_star, cycle_starred}
use Rattle.reach_rows.proofs.Carrying.{carried_at}
use Rattle.reach_rows.proofs.Adding.{leads_from_up_to}

pub any_mapped : (P Q : ℕ → Type 0) → ((x : ℕ) → P x → Q x) → (xs : List ℕ) → Any P xs → Any Q xs
any_mapped P Q map xs (k, x, small, is, holds) = (k, x, small, is, map x holds)

pub same_item :
    (stars : List Star) (j k : ℕ) (x y : Star) → k < length stars → j ≡ k → x ≡ get_or stars k x → get_or stars j y ≡ y → x ≡ y
same_item stars j k x y within here is at =
    is ∙ get_or_default stars k x y within ∙ ap (λ (i : ℕ). get_or stars i y) (sym here) ∙ at

-- ---- the edges of several stars

pub edges_of-append : (xs ys : List Star) → edges_of (xs ++ ys) ≡ edges_of xs ++ edges_of ys
edges_of-append [] ys = refl
edges_of-append (x ∷ xs) ys =
    ap (λ (es : List Edge). star_of x.members.items x.target ++ es) (edges_of-append xs ys)
    ∙ sym (append_assoc (star_of x.members.items x.target) (edges_of xs) (edges_of ys))

-- with one star more
pub stars_more :
    (edges : List Edge) (stars : List Star) (k : ℕ) (star : Star) → k < length stars → star ≡ get_or stars k star →
    edges ++ edges_of (take (k + 1) stars) ≡ (edges ++ edges_of (take k stars)) ++ star_of star.members.items star.target
stars_more edges stars k star within is =
    let last : take (k + 1) stars ≡ take k stars ++ star ∷ [] =
    take_more stars k star within ∙ ap (λ (s : Star). take k stars ++ s ∷ []) (sym is) in
    let own : List Edge = star_of star.members.items star.target in
    let whole : edges_of (take (k + 1) stars) ≡ edges_of (take k stars) ++ own =
    ap edges_of last ∙ edges_of-append (take k stars) (star ∷ []) ∙ ap (λ (es : List Edge). edges_of (take k stars) ++ es) (append-nil own) in
    ap (λ (es : List Edge). edges ++ es) whole ∙ sym (append_assoc edges (edges_of (take k stars)) own)

pub stars_rest :
    (edges : List Edge) (stars : List Star) (n : ℕ) → (edges ++ edges_of (take n stars)) ++ edges_of (drop n stars) ≡ edges ++ edges_of stars
stars_rest edges stars n =
    append_assoc edges (edges_of (take n stars)) (edges_of (drop n stars))
    ∙ ap (λ (es : List Edge). edges ++ es) (sym (edges_of-append (take n stars) (drop n stars)) ∙ ap edges_of (take-append-drop n stars))

-- ---- one star more

-- the row of one star after another one has been added
pub lead_into_more :
    (edges : List Edge) (members others : List ℕ) (target : ℕ) (old gained new : List ℕ) →
    ((n : ℕ) → Contains old n ↔ Any (λ m. Leads edges n m) members) →
    ((n : ℕ) → Contains gained n ↔ Any (λ m. Leads edges n m) others) → Carries target gained old new →
    (n : ℕ) → Contains new n ↔ Any (λ m. Leads (edges ++ star_of others target) n m) members
lead_into_more edges members others target old gained new old_is gained_is carries n =
    let all : List Edge = edges ++ star_of others target in (
      λ member. elim ((carries n).0 member) [
        | inl before ↦
            let to : ToSome edges n members = to_some_from_any edges n members ((old_is n).0 before) in
            any_from_contains (λ m. Leads all n m) members to.member to.stands
            (leads_starred edges others target n to.member (inl to.leads))
        | inr over ↦
            let into : ToSome edges n others = to_some_from_any edges n others ((gained_is n).0 over.1) in
            let to : ToSome edges target members = to_some_from_any edges target members ((old_is target).0 over.0) in
            any_from_contains (λ m. Leads all n m) members to.member to.stands
            (leads_starred edges others target n to.member (inr (into, to.leads)))
      ],
      λ any.
          let to : ToSome all n members = to_some_from_any all n members any in
          elim (leads_star edges others target n to.member to.leads) [
            | inl old_way ↦
                (carries n).1 (inl ((old_is n).1 (any_from_contains (λ m. Leads edges n m) members to.member to.stands old_way)))
            | inr over ↦
                (carries n).1 (inr (
                  (old_is target).1 (any_from_contains (λ m. Leads edges target m) members to.member to.stands over.1),
                  (gained_is n).1 (any_from_to_some edges n others over.0),
                ))
          ],
    )

-- ---- the loop over the stars

-- what holds at star k
pub record IsTrying (stars : List Star) (start befores : List (List ℕ)) (k : ℕ) : Type 0 where
  pub size : length befores ≡ length stars
  pub rows : (edges : List Edge) → LeadInto edges stars start → (HasCycle edges → ⊥) → LeadInto (edges ++ edges_of (take k stars)) stars befores
  pub acyclic : (edges : List Edge) → LeadInto edges stars start → (HasCycle edges → ⊥) → HasCycle (edges ++ edges_of (take k stars)) → ⊥

pub trying_start : (stars : List Star) (start : List (List ℕ)) → length start ≡ length stars → IsTrying stars start start 0
trying_start stars start size = record {
  size = size;
  rows = λ edges are acyclic. subst (λ (es : List Edge). LeadInto es stars start) (sym (append-nil edges)) are;
  acyclic = λ edges are acyclic. subst (λ (es : List Edge). HasCycle es → ⊥) (sym (append-nil edges)) acyclic;
}

-- the target of star k leads to one of its members
pub back_from_row :
    (edges : List Edge) (stars : List Star) (befores : List (List ℕ)) (k : ℕ) (star : Star) → k < length stars →
    star ≡ get_or stars k star → LeadInto edges stars befores →
    Contains (row_at befores k) star.target ↔ ToSome edges star.target star.members.items
back_from_row edges stars befores k star within is are = (
  λ has. to_some_from_any edges star.target star.members.items ((are k star within (sym is) star.target).0 has),
  λ to. (are k star within (sym is) star.target).1 (any_from_to_some edges star.target star.members.items to),
)

pub trying_more :
    (stars : List Star) (start befores new : List (List ℕ)) (k : ℕ) (star : Star) (gained : List ℕ) → k < length stars →
    star ≡ get_or stars k star → (Contains (row_at befores k) star.target → ⊥) → gained ≡ row_at befores k →
    CarriesUpTo (length befores) star.target gained befores new → IsTrying stars start befores k → IsTrying stars start new (k + 1)
trying_more stars start befores new k star gained within is apart copied carries trying = record {
  size = carries.size ∙ trying.size;
  rows = λ edges are acyclic.
      let so_far : List Edge = edges ++ edges_of (take k stars) in
      let now : LeadInto so_far stars befores = trying.rows edges are acyclic in
      let gained_is : (n : ℕ) → Contains gained n ↔ Any (λ m. Leads so_far n m) star.members.items =
      subst (λ (r : List ℕ). (n : ℕ) → Contains r n ↔ Any (λ m. Leads so_far n m) star.members.items) (sym copied)
      (now k star within (sym is)) in
      let more : LeadInto (so_far ++ star_of star.members.items star.target) stars new = λ j other small at.
      lead_into_more so_far other.members.items star.members.items star.target (row_at befores j) gained (row_at new j)
      (now j other small at) gained_is (carried_at star.target gained befores new carries j) in
      subst (λ (es : List Edge). LeadInto es stars new) (sym (stars_more edges stars k star within is)) more;
  acyclic = λ edges are acyclic cycle.
      let so_far : List Edge = edges ++ edges_of (take k stars) in
      let now : LeadInto so_far stars befores = trying.rows edges are acyclic in
      elim (cycle_star so_far star.members.items star.target
      (subst (λ (es : List Edge). HasCycle es) (stars_more edges stars k star within is) cycle)) [
        | inl old ↦ trying.acyclic edges are acyclic old
        | inr back ↦ apart ((back_from_row so_far stars befores k star within is now).1 back)
      ];
}

-- a star that leads back closes a cycle with all the stars
pub trying_found :
    (stars : List Star) (start befores : List (List ℕ)) (k : ℕ) (star : Star) → k < length stars → star ≡ get_or stars k star →
    Contains (row_at befores k) star.target → IsTrying stars start befores k →
    (edges : List Edge) → LeadInto edges stars start → (HasCycle edges → ⊥) → HasCycle (edges ++ edges_of stars)
trying_found stars start befores k star within is back trying edges are acyclic =
    let so_far : List Edge = edges ++ edges_of (take k stars) in
    let now : LeadInto so_far stars befores = trying.rows edges are acyclic in
    let closed : HasCycle (so_far ++ star_of star.members.items star.target) =
    cycle_starred so_far star.members.items star.target (inr ((back_from_row so_far stars befores k star within is now).0 back)) in
    subst (λ (es : List Edge). HasCycle es) (stars_rest edges stars (k + 1))
    (cycle_kept (edges ++ edges_of (take (k + 1) stars)) (edges_of (drop (k + 1) stars))
    (subst (λ (es : List Edge). HasCycle es) (sym (stars_more edges stars k star within is)) closed))

-- where none leads back, all the stars close none
pub trying_none :
    (stars : List Star) (start befores : List (List ℕ)) (k : ℕ) → length stars ≤ k → IsTrying stars start befores k →
    (edges : List Edge) → LeadInto edges stars start → (HasCycle edges → ⊥) → HasCycle (edges ++ edges_of stars) → ⊥
trying_none stars start befores k end trying edges are acyclic cycle =
    trying.acyclic edges are acyclic
    (subst (λ (ss : List Star). HasCycle (edges ++ edges_of ss)) (sym (take_all k stars end)) cycle)

-- ---- the rows as they are made

-- so many rows are made
pub record AreMade (rows : List (List ℕ)) (stars : List Star) (count : ℕ) (befores : List (List ℕ)) : Type 0 where
  pub size : length befores ≡ count
  pub rows_are : (k : ℕ) (star : Star) → k < count → get_or stars k star ≡ star →
      (n : ℕ) → Contains (row_at befores k) n ↔ Any (λ m. IsUpTo rows n m) star.members.items

pub made_more :
    (rows : List (List ℕ)) (stars : List Star) (k : ℕ) (star : Star) (befores : List (List ℕ)) (row : List ℕ) → k < length stars →
    star ≡ get_or stars k star → ((n : ℕ) → Contains row n ↔ Any (λ m. IsUpTo rows n m) star.members.items) →
    AreMade rows stars k befores → AreMade rows stars (k + 1) (befores ++ row ∷ [])
made_more rows stars k star befores row within is row_is made =
    let size = made.size in
    record {
      size = length_push befores row ∙ ap (λ (n : ℕ). n + 1) made.size;
      rows_are = λ j other small at. elim (cases_lt j k) [
        | inl earlier ↦
            let same : row_at (befores ++ row ∷ []) j ≡ row_at befores j = get_or_append_left befores (row ∷ []) [] j (omega arith) in
            subst (λ (r : List ℕ). (n : ℕ) → Contains r n ↔ Any (λ m. IsUpTo rows n m) other.members.items) (sym same)
            (made.rows_are j other earlier at)
        | inr later ↦
            let here : j ≡ k = omega arith in
            let last : row_at (befores ++ row ∷ []) j ≡ row = get_or_push befores row [] j (omega arith) in
            let same : star ≡ other = same_item stars j k star other within here is at in
            subst (λ (r : List ℕ). (n : ℕ) → Contains r n ↔ Any (λ m. IsUpTo rows n m) other.members.items) (sym last)
            (subst (λ (s : Star). (n : ℕ) → Contains row n ↔ Any (λ m. IsUpTo rows n m) s.members.items) same row_is)
      ];
    }

pub lead_into_made :
    (edges : List Edge) (rows : List (List ℕ)) (stars : List Star) (befores : List (List ℕ)) → AreRowsOf edges rows →
    AreStarRows rows stars befores → LeadInto edges stars befores
lead_into_made edges rows stars befores are made k star within at n = (
  λ member. any_mapped (λ m. IsUpTo rows n m) (λ m. Leads edges n m) (λ m. (leads_from_up_to edges rows are n m).0) star.members.items
      ((made k star within at n).0 member),
  λ any. (made k star within at n).1
      (any_mapped (λ m. Leads edges n m) (λ m. IsUpTo rows n m) (λ m. (leads_from_up_to edges rows are n m).1) star.members.items any),
)

pub made_all :
    (rows : List (List ℕ)) (stars : List Star) (count : ℕ) (befores : List (List ℕ)) → count ≡ length stars →
    AreMade rows stars count befores → (length befores ≡ length stars) × AreStarRows rows stars befores
made_all rows stars count befores end made = (
  made.size ∙ end,
  λ k star small at. made.rows_are k star (subst (λ (n : ℕ). k < n) (sym end) small) at,
)

-- ---- stars that are added

-- what holds when so many stars have been added
pub record IsAdding (start : Ancestry) (stars : List Star) (k : ℕ) (now : Ancestry) : Type 0 where
  pub size : now.size ≡ start.size
  pub closure : SameClosure now.pairs (start.pairs ++ edges_of (take k stars))
  pub last : (n : ℕ) → (Any (λ star. Contains star.members.items n) stars → ⊥) → IsLast start.pairs n → IsLast now.pairs n

pub adding_start : (start : Ancestry) (stars : List Star) → IsAdding start stars 0 start
adding_start start stars = record {
  size = refl;
  closure = subst (λ (es : List Edge). SameClosure start.pairs es) (sym (append-nil start.pairs)) (λ a b. (λ on. on, λ on. on));
  last = λ n apart last. last;
}

-- the next star closes no cycle
pub next_acyclic :
    (start now : Ancestry) (stars : List Star) (k : ℕ) (star : Star) → k < length stars → star ≡ get_or stars k star →
    (HasCycle (start.pairs ++ edges_of stars) → ⊥) → IsAdding start stars k now →
    HasCycle (now.pairs ++ star_of star.members.items star.target) → ⊥
next_acyclic start now stars k star within is acyclic adding cycle =
    let own : List Edge = star_of star.members.items star.target in
    let so_far : List Edge = start.pairs ++ edges_of (take k stars) in
    let closed : HasCycle (so_far ++ own) = (same_cycles now.pairs so_far own adding.closure).0 cycle in
    acyclic (subst (λ (es : List Edge). HasCycle es) (stars_rest start.pairs stars (k + 1))
    (cycle_kept (start.pairs ++ edges_of (take (k + 1) stars)) (edges_of (drop (k + 1) stars))
    (subst (λ (es : List Edge). HasCycle es) (sym (stars_more start.pairs stars k star within is)) closed)))

pub adding_more :
    (start now new : Ancestry) (stars : List Star) (k : ℕ) (star : Star) → k < length stars → star ≡ get_or stars k star →
    new.size ≡ now.size → SameClosure new.pairs (now.pairs ++ star_of star.members.items star.target) →
    ((n : ℕ) → (Contains star.members.items n → ⊥) → IsLast now.pairs n → IsLast new.pairs n) →
    IsAdding start stars k now → IsAdding start stars (k + 1) new
adding_more start now new stars k star within is size closure last adding =
    let own : List Edge = star_of star.members.items star.target in
    let so_far : List Edge = start.pairs ++ edges_of (take k stars) in
    let more : SameClosure (now.pairs ++ own) (so_far ++ own) = same_closure_more now.pairs so_far own adding.closure in
    let all : SameClosure new.pairs (so_far ++ own) =
    λ a b. (λ on. (more a b).0 ((closure a b).0 on), λ on. (closure a b).1 ((more a b).1 on)) in
    record {
      size = size ∙ adding.size;
      closure = subst (λ (es : List Edge). SameClosure new.pairs es) (sym (stars_more start.pairs stars k star within is)) all;
      last = λ n apart was.
          last n (λ stands. apart (k, star, within, sym is, stands)) (adding.last n apart was);
    }

pub adding_all :
    (start now : Ancestry) (stars : List Star) (k : ℕ) → length stars ≤ k → IsAdding start stars k now →
    SameClosure now.pairs (start.pairs ++ edges_of stars)
adding_all start now stars k end adding =
    subst (λ (ss : List Star). SameClosure now.pairs (start.pairs ++ edges_of ss)) (take_all k stars end) adding.closure
