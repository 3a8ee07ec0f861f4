-- Rows that gather what comes before some members, and rows that take it over.
use Rattle.std.proofs.Common.{◌≡◌, ◌↔◌, ℕ, ◌+◌, ◌<◌, ◌≤◌, List, [], ◌∷◌, length, get_or, set, drop, refl, get_or-set_same, get_or-set_other, ap, sym, ◌∙◌, subst, inl, inr, arith}
use Rattle.std.specs.List.{All, Contains, Any}
use Rattle.std.proofs.lemmas.Bool.{cases_eq, cases_lt}
use Rattle.std.proofs.lemmas.List.{length-set, length-drop, get_or_default, get_or_past, drop_more}
use Rattle.std.proofs.lemmas.List.Elements.{All-contains}
use Rattle.bit_rows.specs.Members.{Gains, IsUnion}
use Rattle.bit_rows.proofs.Marks.{contains_cons, contains_first, contains_later}
use Rattle.reach_rows.specs.Rows.{row_at, HasPair, IsClosed, IsDown, IsUpTo, GainsOne, GainsAll, Carries, CarriesAt, CarriesUpTo, JoinsAt, Spreads}
use Rattle.reach_rows.proofs.OneStar.{any_from_contains}

-- ---- what one number brings

pub past_known : (rows : List (List ℕ)) (row : List ℕ) (m : ℕ) → IsDown rows row → Contains row m → GainsOne (HasPair rows) m row row
past_known rows row m down has n =
    (λ member. inl member, λ either. elim either [ inl member ↦ member | inr pair ↦ down n m pair has ])

pub up_to_known : (rows : List (List ℕ)) (row : List ℕ) (m : ℕ) → IsDown rows row → Contains row m → GainsOne (IsUpTo rows) m row row
up_to_known rows row m down has n = (
  λ member. inl member,
  λ either. elim either [
    | inl member ↦ member
    | inr up ↦ elim up [ inl same ↦ subst (λ (k : ℕ). Contains row k) (sym same) has | inr pair ↦ down n m pair has ]
  ],
)

pub up_to_gained :
    (rows : List (List ℕ)) (old joined new : List ℕ) (m : ℕ) → IsUnion old (row_at rows m) joined → Gains joined new m →
    GainsOne (IsUpTo rows) m old new
up_to_gained rows old joined new m union gains n = (
  λ member. elim ((gains n).0 member) [
    | inl is ↦ elim ((union n).0 is) [ inl before ↦ inl before | inr pair ↦ inr (inr pair) ]
    | inr same ↦ inr (inl same)
  ],
  λ either. elim either [
    | inl before ↦ (gains n).1 (inl ((union n).1 (inl before)))
    | inr up ↦ elim up [
      | inl same ↦ (gains n).1 (inr same)
      | inr pair ↦ (gains n).1 (inl ((union n).1 (inr pair)))
    ]
  ],
)

-- ---- what some members bring

-- what is related to a member is so with all that comes before it
abbrev pub GoesDown : List (List ℕ) → (ℕ → ℕ → Type 0) → Type 0
GoesDown rows R = (a b m : ℕ) → HasPair rows a b → R b m → R a m

pub past_goes_down : (rows : List (List ℕ)) → IsClosed rows → GoesDown rows (HasPair rows)
past_goes_down rows closed a b m first second = closed.transitive a b m first second

pub up_to_goes_down : (rows : List (List ℕ)) → IsClosed rows → GoesDown rows (IsUpTo rows)
up_to_goes_down rows closed a b m first second = elim second [
  | inl same ↦ inr (subst (λ (k : ℕ). HasPair rows a k) same first)
  | inr pair ↦ inr (closed.transitive a b m first pair)
]

-- the row has gained what the members from place k on bring
pub record IsGathering (rows : List (List ℕ)) (R : ℕ → ℕ → Type 0) (members : List ℕ) (k : ℕ) (old new : List ℕ) : Type 0 where
  pub gains : GainsAll R (drop k members) old new
  pub down : IsDown rows new

pub gathering_start :
    (rows : List (List ℕ)) (R : ℕ → ℕ → Type 0) (members : List ℕ) (k : ℕ) (row : List ℕ) → length members ≤ k → IsDown rows row →
    IsGathering rows R members k row row
gathering_start rows R members k row past down = record {
  gains = λ n. (
    λ member. inl member,
    λ either. elim either [
      | inl member ↦ member
      | inr any ↦
          let small = any.2 in
          let none = length-drop k members in
          absurd (omega arith)
    ],
  );
  down = down;
}

pub gathering_more :
    (rows : List (List ℕ)) (R : ℕ → ℕ → Type 0) (members : List ℕ) (k m : ℕ) (old row new : List ℕ) → GoesDown rows R →
    k < length members → m ≡ get_or members k 0 → GainsOne R m row new →
    IsGathering rows R members (k + 1) old row → IsGathering rows R members k old new
gathering_more rows R members k m old row new goes within is gains gathering =
    let rest : List ℕ = drop (k + 1) members in
    let first : drop k members ≡ m ∷ rest = drop_more members k 0 within ∙ ap (λ (x : ℕ). x ∷ rest) (sym is) in
    let all : GainsAll R (m ∷ rest) old new = λ n. (
      λ member. elim ((gains n).0 member) [
        | inl so_far ↦ elim ((gathering.gains n).0 so_far) [
          | inl before ↦ inl before
          | inr (j, x, small, at, related) ↦
              inr (any_from_contains (λ x. R n x) (m ∷ rest) x (contains_later m rest x (j, small, at)) related)
        ]
        | inr related ↦ inr (any_from_contains (λ x. R n x) (m ∷ rest) m (contains_first m rest m refl) related)
      ],
      λ either. elim either [
        | inl before ↦ (gains n).1 (inl ((gathering.gains n).1 (inl before)))
        | inr (j, x, small, at, related) ↦ elim (contains_cons m rest x (j, small, at)) [
          | inl same ↦ (gains n).1 (inr (subst (λ (x : ℕ). R n x) (sym same) related))
          | inr later ↦ (gains n).1 (inl ((gathering.gains n).1 (inr (any_from_contains (λ x. R n x) rest x later related))))
        ]
      ],
    ) in
    record {
      gains = subst (λ (ms : List ℕ). GainsAll R ms old new) (sym first) all;
      down = λ a b pair member. elim ((gains b).0 member) [
        | inl so_far ↦ (gains a).1 (inl (gathering.down a b pair so_far))
        | inr related ↦ (gains a).1 (inr (goes a b m pair related))
      ];
    }

-- ---- rows that take over

pub carries_union :
    (target : ℕ) (gained old new : List ℕ) → Contains old target → IsUnion old gained new → Carries target gained old new
carries_union target gained old new has union n = (
  λ member. elim ((union n).0 member) [ inl is ↦ inl is | inr more ↦ inr (has, more) ],
  λ either. elim either [ inl is ↦ (union n).1 (inl is) | inr over ↦ (union n).1 (inr over.1) ],
)

pub carries_more :
    (k target : ℕ) (gained : List ℕ) (old rows : List (List ℕ)) (row : List ℕ) → k < length old →
    CarriesUpTo k target gained old rows → Carries target gained (row_at rows k) row →
    CarriesUpTo (k + 1) target gained old (set rows k row)
carries_more k target gained old rows row within so_far here =
    let size = so_far.size in
    record {
      size = length-set rows k row ∙ so_far.size;
      carried = λ j small. elim (cases_eq j k) [
        | inl same ↦
            let now : row_at (set rows k row) j ≡ row =
            ap (row_at (set rows k row)) same ∙ get_or-set_same rows k row [] (omega arith) in
            let was : row_at rows k ≡ row_at old j = so_far.others k (omega arith) ∙ ap (row_at old) (sym same) in
            subst (λ (r : List ℕ). Carries target gained (row_at old j) r) (sym now)
            (subst (λ (r : List ℕ). Carries target gained r row) was here)
        | inr other ↦
            let now : row_at (set rows k row) j ≡ row_at rows j = get_or-set_other rows k j row [] other in
            subst (λ (r : List ℕ). Carries target gained (row_at old j) r) (sym now) (so_far.carried j (omega arith))
      ];
      others = λ j past.
          let other : j ≡ k → ⊥ = λ e. absurd (omega arith) in
          get_or-set_other rows k j row [] other ∙ so_far.others j (omega arith);
    }

pub carries_joined :
    (number target : ℕ) (gained : List ℕ) (old new : List (List ℕ)) → Contains (row_at old number) target →
    JoinsAt number gained old new → CarriesAt number target gained old new
carries_joined number target gained old new has joins = record {
  size = joins.size;
  carried = carries_union target gained (row_at old number) (row_at new number) has joins.joined;
  others = joins.others;
}

-- a row without the target stays
pub carries_none :
    (number target : ℕ) (gained : List ℕ) (rows : List (List ℕ)) → (Contains (row_at rows number) target → ⊥) →
    CarriesAt number target gained rows rows
carries_none number target gained rows hasnt = record {
  size = refl;
  carried = λ n. (
    λ member. inl member,
    λ either. elim either [ inl before ↦ before | inr over ↦ absurd (hasnt over.0) ],
  );
  others = λ k other. refl;
}

pub carries_next :
    (k target : ℕ) (gained : List ℕ) (old rows new : List (List ℕ)) → CarriesUpTo k target gained old rows →
    CarriesAt k target gained rows new → CarriesUpTo (k + 1) target gained old new
carries_next k target gained old rows new so_far here = record {
  size = here.size ∙ so_far.size;
  carried = λ j small. elim (cases_eq j k) [
    | inl same ↦
        subst (λ (i : ℕ). Carries target gained (row_at old i) (row_at new i)) (sym same)
        (subst (λ (r : List ℕ). Carries target gained r (row_at new k)) (so_far.others k (omega arith)) here.carried)
    | inr other ↦
        subst (λ (r : List ℕ). Carries target gained (row_at old j) r) (sym (here.others j other)) (so_far.carried j (omega arith))
  ];
  others = λ j past.
      let other : j ≡ k → ⊥ = λ e. absurd (omega arith) in
      here.others j other ∙ so_far.others j (omega arith);
}

pub carried_at :
    (target : ℕ) (gained : List ℕ) (old rows : List (List ℕ)) → CarriesUpTo (length old) target gained old rows →
    (k : ℕ) → Carries target gained (row_at old k) (row_at rows k)
carried_at target gained old rows carries k = elim (cases_lt k (length old)) [
  | inl within ↦ carries.carried k within
  | inr past ↦
      let none : row_at old k ≡ [] = get_or_past old k [] past in
      let same : row_at rows k ≡ row_at old k = carries.others k past in
      λ n. (
        λ member. inl (subst (λ (r : List ℕ). Contains r n) same member),
        λ either. elim either [
          | inl before ↦ subst (λ (r : List ℕ). Contains r n) (sym same) before
          | inr over ↦
              let small = (subst (λ (r : List ℕ). Contains r target) none over.0).1 in
              absurd (omega arith)
        ],
      )
]

pub spreads :
    (target : ℕ) (gained : List ℕ) (old rows new : List (List ℕ)) →
    CarriesUpTo (length old) target gained old rows → JoinsAt target gained rows new → Spreads target gained old new
spreads target gained old rows new carries joins = record {
  size = joins.size ∙ carries.size;
  rows = λ k n.
      let carried : Carries target gained (row_at old k) (row_at rows k) = carried_at target gained old rows carries k in
      elim (cases_eq k target) [
        | inl same ↦
            let joined : IsUnion (row_at rows k) gained (row_at new k) =
            subst (λ (j : ℕ). IsUnion (row_at rows j) gained (row_at new j)) (sym same) joins.joined in (
              λ member. elim ((joined n).0 member) [
                | inl so_far ↦ elim ((carried n).0 so_far) [ inl before ↦ inl before | inr over ↦ inr (inl same, over.1) ]
                | inr more ↦ inr (inl same, more)
              ],
              λ either. elim either [
                | inl before ↦ (joined n).1 (inl ((carried n).1 (inl before)))
                | inr over ↦ (joined n).1 (inr over.1)
              ],
            )
        | inr other ↦
            let row : row_at new k ≡ row_at rows k = joins.others k other in (
              λ member. elim ((carried n).0 (subst (λ (r : List ℕ). Contains r n) row member)) [
                | inl before ↦ inl before
                | inr over ↦ inr (inr over.0, over.1)
              ],
              λ either. subst (λ (r : List ℕ). Contains r n) (sym row) (elim either [
                | inl before ↦ (carried n).1 (inl before)
                | inr over ↦ elim over.0 [
                  | inl same ↦ absurd (other same)
                  | inr has ↦ (carried n).1 (inr (has, over.1))
                ]
              ]),
            )
      ];
}

-- what the empty row has gained
pub gains_from_empty :
    (R : ℕ → ℕ → Type 0) (members row new : List ℕ) → row ≡ [] → GainsAll R members row new →
    (n : ℕ) → Contains new n ↔ Any (λ m. R n m) members
gains_from_empty R members row new none gains n = (
  λ member. elim ((gains n).0 member) [
    | inl before ↦
        let small = (subst (λ (r : List ℕ). Contains r n) none before).1 in
        absurd (omega arith)
    | inr any ↦ any
  ],
  λ any. (gains n).1 (inr any),
)

-- all that a row has gathered is below the size
pub gathered_below :
    (rows : List (List ℕ)) (members : List ℕ) (target : ℕ) (copied gained : List ℕ) → IsClosed rows →
    All (λ m. m < length rows) members → copied ≡ row_at rows target → GainsAll (IsUpTo rows) members copied gained →
    All (λ n. n < length rows) gained
gathered_below rows members target copied gained closed within is gains = λ k d small.
    let x : ℕ = get_or gained k d in
    elim ((gains x).0 (k, small, get_or_default gained k x d small)) [
      | inl before ↦ closed.below x target (subst (λ (r : List ℕ). Contains r x) is before)
      | inr (j, m, here, at, up) ↦
          let below : m < length rows = All-contains (λ n. n < length rows) members m within (j, here, at) in
          elim up [
            | inl same ↦ subst (λ (n : ℕ). n < length rows) (sym same) below
            | inr pair ↦ closed.below x m pair
          ]
    ]
