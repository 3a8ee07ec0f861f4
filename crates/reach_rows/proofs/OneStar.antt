-- What a star adds: edges from each member to one target.
use Rattle.std.proofs.Common.{◌≡◌, ℕ, ◌<◌, List, [], ◌∷◌, ◌++◌, refl, ap, sym, subst, inl, inr, ◌⊎◌, ◌↔◌}
use Rattle.std.specs.List.{Contains, Any, All}
use Rattle.std.proofs.lemmas.List.Elements.{Contains-append_cases, Contains-append_right, All-contains, All-map, All-weaker, All-cons, All-nil}
use Rattle.graph_base.specs.declared.Edge.{Edge}
use Rattle.graph_base.specs.Walk.{IsInRange, IsWalk, HasCycle, Leads, Reaches}
use Rattle.graph_base.specs.Closure.{SameClosure}
use Rattle.graph_base.proofs.Walks.{leads_none, leads_first, leads_on, leads_kept, leads_cases, leads_from_cases, leads_from_reaches, reaches_edge, reaches_first, reaches_after, reaches_kept, reaches_from_cycle, cycle_from_reaches, cycle_kept}
use Rattle.graph_base.proofs.Closures.{AllReach, reaches_mapped}
use Rattle.reach_rows.specs.Ancestry.{IsLast}
use Rattle.reach_rows.specs.Rows.{edge_of}
use Rattle.reach_rows.specs.Stars.{star_of}
use Rattle.reach_rows.proofs.Pairs.{from_map, in_map}

-- ---- the edges of a star

pub edge_of_star : (members : List ℕ) (target : ℕ) (e : Edge) → Contains (star_of members target) e → Contains members e.before × (e.after ≡ target)
edge_of_star members target e member =
    let at = from_map (λ m. edge_of m target) members e member in (
      subst (λ (m : ℕ). Contains members m) (ap (λ (f : Edge). f.before) at.1.1) at.1.0,
      ap (λ (f : Edge). f.after) (sym at.1.1),
    )

pub in_star : (members : List ℕ) (target m : ℕ) → Contains members m → Contains (star_of members target) (edge_of m target)
in_star members target m stands = in_map (λ a. edge_of a target) members m stands

pub star_in_range :
    (size : ℕ) (members : List ℕ) (target : ℕ) → target < size → All (λ m. m < size) members → IsInRange size (star_of members target)
star_in_range size members target small within =
    All-map (λ e. (e.before < size) × (e.after < size)) (λ m. edge_of m target) members
    (All-weaker (λ m. m < size) (λ m. (m < size) × (target < size)) (λ m below. (below, small)) members within)

-- ---- what leads to some member

pub record ToSome (edges : List Edge) (a : ℕ) (members : List ℕ) : Type 0 where
  pub member : ℕ
  pub stands : Contains members member
  pub leads : Leads edges a member

pub to_some_from_any : (edges : List Edge) (a : ℕ) (members : List ℕ) → Any (λ m. Leads edges a m) members → ToSome edges a members
to_some_from_any edges a members (k, m, small, is, leads) = record { member = m; stands = (k, small, is); leads = leads }

pub any_from_contains : (P : ℕ → Type 0) (xs : List ℕ) (x : ℕ) → Contains xs x → P x → Any P xs
any_from_contains P xs x (k, small, is) holds = (k, x, small, is, holds)

pub any_from_to_some : (edges : List Edge) (a : ℕ) (members : List ℕ) → ToSome edges a members → Any (λ m. Leads edges a m) members
any_from_to_some edges a members to = any_from_contains (λ m. Leads edges a m) members to.member to.stands to.leads

pub to_some_first : (edges : List Edge) (a b : ℕ) (members : List ℕ) → Leads edges a b → ToSome edges b members → ToSome edges a members
to_some_first edges a b members first to =
    record { member = to.member; stands = to.stands; leads = leads_on edges a b to.member first to.leads }

-- ---- one star

-- as before, or into the star and out of its target
abbrev pub OverStar : List Edge → List ℕ → ℕ → ℕ → ℕ → Type 0
OverStar edges members target a b = ToSome edges a members × Leads edges target b

pub over_first :
    (edges : List Edge) (members : List ℕ) (target : ℕ) (e : Edge) (a b : ℕ) → e.before ≡ a → Contains edges e →
    OverStar edges members target e.after b → OverStar edges members target a b
over_first edges members target e a b begins old over = (
  to_some_first edges a e.after members (leads_first edges e a e.after begins old (leads_none edges e.after)) over.0,
  over.1,
)

-- an edge of the star, and from its end on
pub over_star :
    (edges : List Edge) (members : List ℕ) (target : ℕ) (e : Edge) (a b : ℕ) → e.before ≡ a → Contains (star_of members target) e →
    Leads edges e.after b ⊎ OverStar edges members target e.after b → OverStar edges members target a b
over_star edges members target e a b begins new on =
    let star = edge_of_star members target e new in
    let first : ToSome edges a members = record { member = e.before; stands = star.0; leads = record { walk = []; is = sym begins } } in
    elim on [
      | inl direct ↦ (first, subst (λ (n : ℕ). Leads edges n b) star.1 direct)
      | inr over ↦ (first, over.1)
    ]

pub leads_star_of :
    (edges : List Edge) (members : List ℕ) (target a : ℕ) (walk : List Edge) (b : ℕ) →
    IsWalk (edges ++ star_of members target) a walk b → Leads edges a b ⊎ OverStar edges members target a b
leads_star_of edges members target a [] b same = inl record { walk = []; is = same }
leads_star_of edges members target a (e ∷ walk) b (begins, member, rest) =
    let on = leads_star_of edges members target e.after walk b rest in
    elim (Contains-append_cases edges (star_of members target) e member) [
      | inl old ↦ elim on [
        | inl direct ↦ inl (leads_first edges e a b begins old direct)
        | inr over ↦ inr (over_first edges members target e a b begins old over)
      ]
      | inr new ↦ inr (over_star edges members target e a b begins new on)
    ]

pub leads_star :
    (edges : List Edge) (members : List ℕ) (target a b : ℕ) → Leads (edges ++ star_of members target) a b →
    Leads edges a b ⊎ OverStar edges members target a b
leads_star edges members target a b on = leads_star_of edges members target a on.walk b on.is

pub reaches_star_of :
    (edges : List Edge) (members : List ℕ) (target a : ℕ) (e : Edge) (walk : List Edge) (b : ℕ) →
    IsWalk (edges ++ star_of members target) a (e ∷ walk) b → Reaches edges a b ⊎ OverStar edges members target a b
reaches_star_of edges members target a e walk b (begins, member, rest) =
    let on = leads_star_of edges members target e.after walk b rest in
    elim (Contains-append_cases edges (star_of members target) e member) [
      | inl old ↦ elim on [
        | inl direct ↦ inl (reaches_first edges e a b begins old direct)
        | inr over ↦ inr (over_first edges members target e a b begins old over)
      ]
      | inr new ↦ inr (over_star edges members target e a b begins new on)
    ]

pub reaches_star :
    (edges : List Edge) (members : List ℕ) (target a b : ℕ) → Reaches (edges ++ star_of members target) a b →
    Reaches edges a b ⊎ OverStar edges members target a b
reaches_star edges members target a b on = reaches_star_of edges members target a on.first on.walk b on.is

pub reaches_over :
    (edges : List Edge) (members : List ℕ) (target a b : ℕ) → OverStar edges members target a b →
    Reaches (edges ++ star_of members target) a b
reaches_over edges members target a b over =
    let all : List Edge = edges ++ star_of members target in
    let m : ℕ = over.0.member in
    let e : Edge = edge_of m target in
    let first : Leads all a m = leads_kept edges (star_of members target) a m over.0.leads in
    let new : Contains all e = Contains-append_right edges (star_of members target) e (in_star members target m over.0.stands) in
    reaches_after all a m b first (reaches_first all e m b refl new (leads_kept edges (star_of members target) target b over.1))

pub reaches_starred :
    (edges : List Edge) (members : List ℕ) (target a b : ℕ) → Reaches edges a b ⊎ OverStar edges members target a b →
    Reaches (edges ++ star_of members target) a b
reaches_starred edges members target a b (inl old) = reaches_kept edges (star_of members target) a b old
reaches_starred edges members target a b (inr over) = reaches_over edges members target a b over

pub leads_starred :
    (edges : List Edge) (members : List ℕ) (target a b : ℕ) → Leads edges a b ⊎ OverStar edges members target a b →
    Leads (edges ++ star_of members target) a b
leads_starred edges members target a b (inl old) = leads_kept edges (star_of members target) a b old
leads_starred edges members target a b (inr over) =
    leads_from_reaches (edges ++ star_of members target) a b (reaches_over edges members target a b over)

-- a cycle comes exactly where the target leads to a member
pub cycle_star :
    (edges : List Edge) (members : List ℕ) (target : ℕ) → HasCycle (edges ++ star_of members target) →
    HasCycle edges ⊎ ToSome edges target members
cycle_star edges members target cycle =
    let at = reaches_from_cycle (edges ++ star_of members target) cycle in
    elim (reaches_star edges members target at.0 at.0 at.1) [
      | inl old ↦ inl (cycle_from_reaches edges at.0 old)
      | inr over ↦ inr (to_some_first edges target at.0 members over.1 over.0)
    ]

pub cycle_starred :
    (edges : List Edge) (members : List ℕ) (target : ℕ) → HasCycle edges ⊎ ToSome edges target members →
    HasCycle (edges ++ star_of members target)
cycle_starred edges members target (inl cycle) = cycle_kept edges (star_of members target) cycle
cycle_starred edges members target (inr to) =
    let none : Leads edges target target = record { walk = []; is = refl } in
    cycle_from_reaches (edges ++ star_of members target) target (reaches_over edges members target target target (to, none))

-- a star whose members all come before the target already adds nothing
pub star_known :
    (edges : List Edge) (members : List ℕ) (target : ℕ) → All (λ m. Reaches edges m target) members →
    SameClosure edges (edges ++ star_of members target)
star_known edges members target known a b =
    let all : AllReach (edges ++ star_of members target) edges =
    λ e member. elim (Contains-append_cases edges (star_of members target) e member) [
      | inl old ↦ reaches_edge edges e old
      | inr new ↦
          let star = edge_of_star members target e new in
          subst (λ (n : ℕ). Reaches edges e.before n) (sym star.1)
          (All-contains (λ m. Reaches edges m target) members e.before known star.0)
    ] in
    (reaches_kept edges (star_of members target) a b, reaches_mapped (edges ++ star_of members target) edges all a b)

-- what nothing came after, and is no member, nothing comes after
pub still_last :
    (edges new : List Edge) (members : List ℕ) (target : ℕ) → SameClosure new (edges ++ star_of members target) →
    (n : ℕ) → (Contains members n → ⊥) → IsLast edges n → IsLast new n
still_last edges new members target same n apart last = record {
  reaches_none = λ b on. elim (reaches_star edges members target n b ((same n b).0 on)) [
    | inl old ↦ last.reaches_none b old
    | inr over ↦ elim (leads_cases edges n over.0.member over.0.leads) [
      | inl is ↦ apart (subst (λ (m : ℕ). Contains members m) (sym is) over.0.stands)
      | inr leads ↦ last.reaches_none over.0.member leads
    ]
  ];
}

-- a cycle, by the numbers that the target is or reaches
pub star_meets :
    (edges : List Edge) (members : List ℕ) (target : ℕ) → (HasCycle edges → ⊥) →
    HasCycle (edges ++ star_of members target) ↔ Any (λ m. (target ≡ m) ⊎ Reaches edges target m) members
star_meets edges members target acyclic = (
  λ cycle. elim (cycle_star edges members target cycle) [
    | inl old ↦ absurd (acyclic old)
    | inr to ↦
        any_from_contains (λ m. (target ≡ m) ⊎ Reaches edges target m) members to.member to.stands
        (leads_cases edges target to.member to.leads)
  ],
  λ (k, m, small, is, meets). cycle_starred edges members target
      (inr record { member = m; stands = (k, small, is); leads = leads_from_cases edges target m meets }),
)

-- ---- the same in the words of the laws

pub reaches_star_any :
    (edges : List Edge) (members : List ℕ) (target a b : ℕ) → Reaches (edges ++ star_of members target) a b →
    Reaches edges a b ⊎ (Any (λ m. Leads edges a m) members × Leads edges target b)
reaches_star_any edges members target a b on = elim (reaches_star edges members target a b on) [
  | inl old ↦ inl old
  | inr over ↦ inr (any_from_to_some edges a members over.0, over.1)
]

pub reaches_any_star :
    (edges : List Edge) (members : List ℕ) (target a b : ℕ) →
    Reaches edges a b ⊎ (Any (λ m. Leads edges a m) members × Leads edges target b) → Reaches (edges ++ star_of members target) a b
reaches_any_star edges members target a b (inl old) = reaches_starred edges members target a b (inl old)
reaches_any_star edges members target a b (inr over) =
    reaches_starred edges members target a b (inr (to_some_from_any edges a members over.0, over.1))

pub cycle_star_any :
    (edges : List Edge) (members : List ℕ) (target : ℕ) → HasCycle (edges ++ star_of members target) →
    HasCycle edges ⊎ Any (λ m. Leads edges target m) members
cycle_star_any edges members target cycle = elim (cycle_star edges members target cycle) [
  | inl old ↦ inl old
  | inr to ↦ inr (any_from_to_some edges target members to)
]

pub cycle_any_star :
    (edges : List Edge) (members : List ℕ) (target : ℕ) → HasCycle edges ⊎ Any (λ m. Leads edges target m) members →
    HasCycle (edges ++ star_of members target)
cycle_any_star edges members target (inl old) = cycle_starred edges members target (inl old)
cycle_any_star edges members target (inr any) =
    cycle_starred edges members target (inr (to_some_from_any edges target members any))

-- ---- one union for many candidates

pub candidate_cycle :
    (edges : List Edge) (members others : List ℕ) (s : ℕ) → (HasCycle edges → ⊥) →
    ((m : ℕ) → Contains others m → (Contains members m × (m ≡ s → ⊥)) ⊎ Reaches edges m s) →
    ((m : ℕ) → Contains members m → (m ≡ s → ⊥) → Contains others m) →
    HasCycle (edges ++ star_of others s) ↔ Any (λ m. Reaches edges s m) members
candidate_cycle edges members others s acyclic only all = (
  λ cycle. elim (cycle_star edges others s cycle) [
    | inl old ↦ absurd (acyclic old)
    | inr to ↦
        let m : ℕ = to.member in
        elim (only m to.stands) [
          | inl member ↦ elim (leads_cases edges s m to.leads) [
            | inl same ↦ absurd (member.1 (sym same))
            | inr on ↦ any_from_contains (λ x. Reaches edges s x) members m member.0 on
          ]
          | inr before ↦ absurd (acyclic (cycle_from_reaches edges s (reaches_after edges s m s to.leads before)))
        ]
  ],
  λ (k, m, small, is, on).
      let other : m ≡ s → ⊥ = λ same. acyclic (cycle_from_reaches edges s (subst (λ (n : ℕ). Reaches edges s n) same on)) in
      cycle_starred edges others s
      (inr record { member = m; stands = all m (k, small, is) other; leads = leads_from_reaches edges s m on }),
)

-- an edge that the closure has already adds nothing
pub edge_known : (edges : List Edge) (source target : ℕ) → Reaches edges source target → SameClosure edges (edges ++ star_of (source ∷ []) target)
edge_known edges source target on =
    star_known edges (source ∷ []) target
    (All-cons (λ m. Reaches edges m target) source [] on (All-nil (λ m. Reaches edges m target)))
