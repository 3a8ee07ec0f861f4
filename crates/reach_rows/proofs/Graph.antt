-- The graph of stars: an arrow leads from one star to another where the target of the first leads to a member of the second.
use Rattle.std.proofs.Common.{◌≡◌, ◌↔◌, ◌⊎◌, ℕ, ◌<◌, zero, suc, List, [], ◌∷◌, ◌++◌, length, get_or, refl, ap, sym, ◌∙◌, subst, inl, inr, arith}
use Rattle.std.specs.List.{Contains}
use Rattle.std.proofs.lemmas.List.{get_or_default}
use Rattle.std.proofs.lemmas.List.Elements.{Contains-append_cases, Contains-append_left, Contains-append_right}
use Rattle.graph_base.specs.declared.Edge.{Edge}
use Rattle.graph_base.specs.Walk.{IsWalk, HasCycle, Leads, Reaches}
use Rattle.graph_base.specs.Closure.{HasEdge}
use Rattle.graph_base.proofs.Walks.{leads_none, leads_first, leads_on, leads_kept, leads_from_reaches, reaches_edge, reaches_first, reaches_on, reaches_after, reaches_from_cycle, cycle_from_reaches}
use Rattle.reach_rows.specs.declared.Star.{Star}
use Rattle.reach_rows.specs.Rows.{edge_of}
use Rattle.reach_rows.specs.Stars.{star_of, edges_of, Follows}
use Rattle.reach_rows.proofs.OneStar.{ToSome, to_some_from_any, any_from_to_some, to_some_first, edge_of_star, in_star}

-- ---- the star of an edge

pub record InStar (stars : List Star) (e : Edge) : Type 0 where
  pub at : ℕ
  pub star : Star
  pub small : at < length stars
  pub is : get_or stars at star ≡ star
  pub member : Contains (star_of star.members.items star.target) e

pub star_of_edge : (stars : List Star) (e : Edge) → Contains (edges_of stars) e → InStar stars e
star_of_edge [] e (k, small, is) = absurd (omega arith)
star_of_edge (star ∷ stars) e member =
    elim (Contains-append_cases (star_of star.members.items star.target) (edges_of stars) e member) [
      | inl here ↦ record { at = 0; star = star; small = omega arith; is = refl; member = here }
      | inr later ↦
          let rest = star_of_edge stars e later in
          let small = rest.small in
          record { at = suc rest.at; star = rest.star; small = omega arith; is = rest.is; member = rest.member }
    ]

pub in_stars :
    (stars : List Star) (k : ℕ) (star : Star) (e : Edge) → k < length stars → get_or stars k star ≡ star →
    Contains (star_of star.members.items star.target) e → Contains (edges_of stars) e
in_stars [] k star e small is member = absurd (omega arith)
in_stars (first ∷ stars) zero star e small is member =
    Contains-append_left (star_of first.members.items first.target) (edges_of stars) e
    (subst (λ (s : Star). Contains (star_of s.members.items s.target) e) (sym is) member)
in_stars (first ∷ stars) (suc k) star e small is member =
    Contains-append_right (star_of first.members.items first.target) (edges_of stars) e (in_stars stars k star e (omega arith) is member)

-- ---- from arrows to walks

-- each edge of xs leads somewhere along ys, from a number to another that stand for its ends
abbrev pub AllReachBy : (ℕ → ℕ) → List Edge → List Edge → Type 0
AllReachBy f xs ys = (e : Edge) → Contains xs e → Reaches ys (f e.before) (f e.after)

pub walk_by :
    (f : ℕ → ℕ) (xs ys : List Edge) → AllReachBy f xs ys → (a : ℕ) (walk : List Edge) (b : ℕ) → IsWalk xs a walk b → Leads ys (f a) (f b)
walk_by f xs ys all a [] b same = record { walk = []; is = ap f same }
walk_by f xs ys all a (e ∷ walk) b (begins, member, rest) =
    let first : Leads ys (f a) (f e.after) =
    subst (λ (n : ℕ). Leads ys (f n) (f e.after)) begins (leads_from_reaches ys (f e.before) (f e.after) (all e member)) in
    leads_on ys (f a) (f e.after) (f b) first (walk_by f xs ys all e.after walk b rest)

pub cycle_by : (f : ℕ → ℕ) (xs ys : List Edge) → AllReachBy f xs ys → HasCycle xs → HasCycle ys
cycle_by f xs ys all cycle =
    let at = reaches_from_cycle xs cycle in
    let n : ℕ = at.0 in
    let e : Edge = at.1.first in
    let is = at.1.is in
    let first : Reaches ys (f n) (f e.after) = subst (λ (m : ℕ). Reaches ys (f m) (f e.after)) is.0 (all e is.1) in
    cycle_from_reaches ys (f n) (reaches_on ys (f n) (f e.after) (f n) first (walk_by f xs ys all e.after at.1.walk n is.2))

-- the target of star k
abbrev pub target_at : List Star → Star → ℕ → ℕ
target_at stars some k = (get_or stars k some).target

pub target_is :
    (stars : List Star) (some : Star) (k : ℕ) (star : Star) → k < length stars → get_or stars k star ≡ star → star.target ≡ target_at stars some k
target_is stars some k star small is = ap (λ (s : Star). s.target) (sym is ∙ get_or_default stars k star some small)

pub reaches_from_follows :
    (edges : List Edge) (stars : List Star) (some : Star) (i j : ℕ) → Follows edges stars i j →
    Reaches (edges ++ edges_of stars) (target_at stars some i) (target_at stars some j)
reaches_from_follows edges stars some i j follows =
    let all : List Edge = edges ++ edges_of stars in
    let to : ToSome edges follows.from.target follows.to.members.items =
    to_some_from_any edges follows.from.target follows.to.members.items follows.leads in
    let m : ℕ = to.member in
    let e : Edge = edge_of m follows.to.target in
    let stands : Contains all e =
    Contains-append_right edges (edges_of stars) e
    (in_stars stars j follows.to e follows.to_in follows.to_is (in_star follows.to.members.items follows.to.target m to.stands)) in
    let on : Reaches all follows.from.target follows.to.target =
    reaches_after all follows.from.target m follows.to.target (leads_kept edges (edges_of stars) follows.from.target m to.leads)
    (reaches_edge all e stands) in
    subst (λ (n : ℕ). Reaches all n (target_at stars some j)) (target_is stars some i follows.from follows.from_in follows.from_is)
    (subst (λ (n : ℕ). Reaches all follows.from.target n) (target_is stars some j follows.to follows.to_in follows.to_is) on)

-- ---- from walks to arrows

abbrev pub AreArrows : List Edge → List Star → List Edge → Type 0
AreArrows edges stars arrows = (i j : ℕ) → HasEdge arrows i j ↔ Follows edges stars i j

-- into one star, along arrows, and out of the target of another one
pub record Through (edges : List Edge) (stars : List Star) (arrows : List Edge) (a b : ℕ) : Type 0 where
  pub i : ℕ
  pub j : ℕ
  pub from : Star
  pub to : Star
  pub from_in : i < length stars
  pub from_is : get_or stars i from ≡ from
  pub to_in : j < length stars
  pub to_is : get_or stars j to ≡ to
  pub into : ToSome edges a from.members.items
  pub along : Leads arrows i j
  pub out : Leads edges to.target b

pub through_first :
    (edges : List Edge) (stars : List Star) (arrows : List Edge) (e : Edge) (a b : ℕ) → e.before ≡ a → Contains edges e →
    Through edges stars arrows e.after b → Through edges stars arrows a b
through_first edges stars arrows e a b begins old through = record {
  i = through.i;
  j = through.j;
  from = through.from;
  to = through.to;
  from_in = through.from_in;
  from_is = through.from_is;
  to_in = through.to_in;
  to_is = through.to_is;
  into = to_some_first edges a e.after through.from.members.items
      (leads_first edges e a e.after begins old (leads_none edges e.after)) through.into;
  along = through.along;
  out = through.out;
}

pub through_star :
    (edges : List Edge) (stars : List Star) (arrows : List Edge) (e : Edge) (a b : ℕ) → AreArrows edges stars arrows →
    e.before ≡ a → Contains (edges_of stars) e → Leads edges e.after b ⊎ Through edges stars arrows e.after b →
    Through edges stars arrows a b
through_star edges stars arrows e a b are begins new on =
    let own : InStar stars e = star_of_edge stars e new in
    let ends = edge_of_star own.star.members.items own.star.target e own.member in
    let into : ToSome edges a own.star.members.items =
    record { member = e.before; stands = ends.0; leads = record { walk = []; is = sym begins } } in
    elim on [
      | inl direct ↦ record {
        i = own.at;
        j = own.at;
        from = own.star;
        to = own.star;
        from_in = own.small;
        from_is = own.is;
        to_in = own.small;
        to_is = own.is;
        into = into;
        along = leads_none arrows own.at;
        out = subst (λ (n : ℕ). Leads edges n b) ends.1 direct;
      }
      | inr through ↦
          let leads : ToSome edges own.star.target through.from.members.items =
          subst (λ (n : ℕ). ToSome edges n through.from.members.items) ends.1 through.into in
          let follows : Follows edges stars own.at through.i = record {
            from = own.star;
            to = through.from;
            from_in = own.small;
            from_is = own.is;
            to_in = through.from_in;
            to_is = through.from_is;
            leads = any_from_to_some edges own.star.target through.from.members.items leads;
          } in
          let arrow : Contains arrows (edge_of own.at through.i) = (are own.at through.i).1 follows in
          record {
            i = own.at;
            j = through.j;
            from = own.star;
            to = through.to;
            from_in = own.small;
            from_is = own.is;
            to_in = through.to_in;
            to_is = through.to_is;
            into = into;
            along = leads_first arrows (edge_of own.at through.i) own.at through.j refl arrow through.along;
            out = through.out;
          }
    ]

pub leads_through :
    (edges : List Edge) (stars : List Star) (arrows : List Edge) → AreArrows edges stars arrows → (a : ℕ) (walk : List Edge) (b : ℕ) →
    IsWalk (edges ++ edges_of stars) a walk b → Leads edges a b ⊎ Through edges stars arrows a b
leads_through edges stars arrows are a [] b same = inl record { walk = []; is = same }
leads_through edges stars arrows are a (e ∷ walk) b (begins, member, rest) =
    let on = leads_through edges stars arrows are e.after walk b rest in
    elim (Contains-append_cases edges (edges_of stars) e member) [
      | inl old ↦ elim on [
        | inl direct ↦ inl (leads_first edges e a b begins old direct)
        | inr through ↦ inr (through_first edges stars arrows e a b begins old through)
      ]
      | inr new ↦ inr (through_star edges stars arrows e a b are begins new on)
    ]

pub reaches_through :
    (edges : List Edge) (stars : List Star) (arrows : List Edge) → AreArrows edges stars arrows → (a b : ℕ) →
    Reaches (edges ++ edges_of stars) a b → Reaches edges a b ⊎ Through edges stars arrows a b
reaches_through edges stars arrows are a b reaches =
    let e : Edge = reaches.first in
    let is = reaches.is in
    let on = leads_through edges stars arrows are e.after reaches.walk b is.2 in
    elim (Contains-append_cases edges (edges_of stars) e is.1) [
      | inl old ↦ elim on [
        | inl direct ↦ inl (reaches_first edges e a b is.0 old direct)
        | inr through ↦ inr (through_first edges stars arrows e a b is.0 old through)
      ]
      | inr new ↦ inr (through_star edges stars arrows e a b are is.0 new on)
    ]

pub cycle_of_arrows :
    (edges : List Edge) (stars : List Star) (arrows : List Edge) (n : ℕ) → AreArrows edges stars arrows →
    Through edges stars arrows n n → HasCycle arrows
cycle_of_arrows edges stars arrows n are through =
    let leads : ToSome edges through.to.target through.from.members.items =
    to_some_first edges through.to.target n through.from.members.items through.out through.into in
    let follows : Follows edges stars through.j through.i = record {
      from = through.to;
      to = through.from;
      from_in = through.to_in;
      from_is = through.to_is;
      to_in = through.from_in;
      to_is = through.from_is;
      leads = any_from_to_some edges through.to.target through.from.members.items leads;
    } in
    let back : Reaches arrows through.j through.i =
    reaches_edge arrows (edge_of through.j through.i) ((are through.j through.i).1 follows) in
    cycle_from_reaches arrows through.i (reaches_after arrows through.i through.j through.i through.along back)

-- ---- stars close a cycle exactly where their graph has one

pub cycle_of_stars :
    (edges : List Edge) (stars : List Star) (arrows : List Edge) → (HasCycle edges → ⊥) → AreArrows edges stars arrows →
    HasCycle (edges ++ edges_of stars) ↔ HasCycle arrows
cycle_of_stars edges stars arrows acyclic are = (
  λ cycle.
      let at = reaches_from_cycle (edges ++ edges_of stars) cycle in
      elim (reaches_through edges stars arrows are at.0 at.0 at.1) [
        | inl old ↦ absurd (acyclic (cycle_from_reaches edges at.0 old))
        | inr through ↦ cycle_of_arrows edges stars arrows at.0 are through
      ],
  λ cycle.
      let at = reaches_from_cycle arrows cycle in
      let e : Edge = at.1.first in
      let some : Star = ((are e.before e.after).0 at.1.is.1).from in
      cycle_by (target_at stars some) arrows (edges ++ edges_of stars)
      (λ f member. reaches_from_follows edges stars some f.before f.after ((are f.before f.after).0 member)) cycle,
)
