-- The least order of edges and of their closure: it is one, the first of all orders, and the same for one closure.
use Rattle.std.proofs.Common.{◌≡◌, ◌↔◌, ◌⊎◌, ℕ, ◌+◌, ◌<◌, ◌≤◌, zero, suc, List, [], ◌∷◌, length, get_or, take, arith, refl, sym, ◌∙◌, subst, inl, inr}
use Rattle.std.specs.List.{Contains}
use Rattle.std.proofs.lemmas.List.{take_all, take_more_same}
use Rattle.std.proofs.lemmas.List.Elements.{All-contains, All-from_get_or, Contains-get_or}
use Rattle.graph_base.specs.declared.Edge.{Edge}
use Rattle.graph_base.specs.Walk.{IsInRange, IsWalk, Leads, Reaches}
use Rattle.graph_base.specs.Order.{place_of, Extends, HoldsEachOnce, IsOrder, MayComeNext, IsLeastOrder, IsLower}
use Rattle.graph_base.specs.Chain.{Chained}
use Rattle.graph_base.specs.Closure.{HasEdge, SameClosure}
use Rattle.graph_base.specs.LeastOrder.{RisesAlong, MayFollow, PlacesLeast}
use Rattle.graph_base.proofs.Chains.{chained_one, chained_rises, last_pair}
use Rattle.graph_base.proofs.Ranks.{rank_along}
use Rattle.graph_base.proofs.Walks.{leads_first, reaches_edge}
use Rattle.graph_base.proofs.Closures.{has_edge}
use Rattle.graph_base.proofs.Places.{place_of-contained, get_or-place_of}
use Rattle.graph_base.proofs.Fronts.{in_front, front_place, IsFresh, place_of-fresh, each_from_fresh, once_from_fresh, fresh_from_once, length_from_once, differ}

-- ---- the last edge of a walk

pub record LastEdge (edges : List Edge) (a b : ℕ) : Type 0 where
  pub edge : Edge
  pub member : Contains edges edge
  pub ends : edge.after ≡ b
  pub leads : Leads edges a edge.before

pub last_edge_of : (edges : List Edge) (a : ℕ) (e : Edge) (walk : List Edge) (b : ℕ) → IsWalk edges a (e ∷ walk) b → LastEdge edges a b
last_edge_of edges a e [] b (begins, member, ends) =
    record { edge = e; member = member; ends = ends; leads = record { walk = []; is = sym begins } }
last_edge_of edges a e (f ∷ walk) b (begins, member, rest) =
    let last = last_edge_of edges e.after f walk b rest in
    record { edge = last.edge; member = last.member; ends = last.ends; leads = leads_first edges e a last.edge.before begins member last.leads }

pub last_edge : (edges : List Edge) (a b : ℕ) → Reaches edges a b → LastEdge edges a b
last_edge edges a b on = last_edge_of edges a on.first on.walk b on.is

-- the place rises along the closure
pub reaches_rises :
    (order : List ℕ) (edges : List Edge) → Extends order edges → (a b : ℕ) → Reaches edges a b → place_of order a < place_of order b
reaches_rises order edges extends a b on =
    let last = last_edge edges a b on in
    let e : Edge = last.edge in
    let along : place_of order a ≤ place_of order e.before =
    rank_along (place_of order) edges extends a last.leads.walk e.before last.leads.is in
    let up : place_of order e.before < place_of order e.after =
    All-contains (λ f. place_of order f.before < place_of order f.after) edges e extends last.member in
    subst (λ (n : ℕ). place_of order a < place_of order n) last.ends (omega arith)

-- ---- what may come next by the edges, by their pairs and by their closure

pub follow_from_next :
    (size : ℕ) (edges : List Edge) (placed : List ℕ) (n : ℕ) → MayComeNext size edges placed n → MayFollow size (HasEdge edges) placed n
follow_from_next size edges placed n next = record {
  in_range = next.in_range;
  unplaced = next.unplaced;
  ready = λ m member. All-contains (λ e. e.after ≡ n → Contains placed e.before) edges (record { before = m; after = n }) next.ready member refl;
}

pub next_from_follow :
    (size : ℕ) (edges : List Edge) (placed : List ℕ) (n : ℕ) → MayFollow size (HasEdge edges) placed n → MayComeNext size edges placed n
next_from_follow size edges placed n follow = record {
  in_range = follow.in_range;
  unplaced = follow.unplaced;
  ready = λ k d small into.
      let e : Edge = get_or edges k d in
      follow.ready e.before (has_edge edges e e.before n refl into (Contains-get_or edges k d small));
}

pub next_from_closure :
    (size : ℕ) (edges : List Edge) (placed : List ℕ) (n : ℕ) → MayFollow size (Reaches edges) placed n → MayComeNext size edges placed n
next_from_closure size edges placed n follow = record {
  in_range = follow.in_range;
  unplaced = follow.unplaced;
  ready = λ k d small into.
      let e : Edge = get_or edges k d in
      follow.ready e.before (subst (λ (m : ℕ). Reaches edges e.before m) into (reaches_edge edges e (Contains-get_or edges k d small)));
}

-- what stands in front of a list along which the places rise holds all that reaches it
pub closure_from_next :
    (size : ℕ) (edges : List Edge) (order : List ℕ) (k n : ℕ) → k ≤ length order → Extends order edges →
    MayComeNext size edges (take k order) n → MayFollow size (Reaches edges) (take k order) n
closure_from_next size edges order k n within extends next = record {
  in_range = next.in_range;
  unplaced = next.unplaced;
  ready = λ m on.
      let last = last_edge edges m n on in
      let e : Edge = last.edge in
      let front : Contains (take k order) e.before =
      All-contains (λ f. f.after ≡ n → Contains (take k order) f.before) edges e next.ready last.member last.ends in
      let early : place_of order e.before < k = front_place order k e.before within front in
      let along : place_of order m ≤ place_of order e.before =
      rank_along (place_of order) edges extends m last.leads.walk e.before last.leads.is in
      in_front order k m within (omega arith);
}

-- ---- an order by what is related to its numbers

-- a list that holds each number once and rises along the relation
pub follows_in_order :
    (size : ℕ) (R : ℕ → ℕ → Type 0) (order : List ℕ) → HoldsEachOnce size order → RisesAlong R order →
    (k : ℕ) → k < length order → MayFollow size R (take k order) (get_or order k 0)
follows_in_order size R order holds rises k small =
    let fresh : IsFresh order = fresh_from_once size order holds in
    record {
      in_range = holds.below k 0 small;
      unplaced = fresh k small;
      ready = λ m related.
          let up : place_of order m < place_of order (get_or order k 0) = rises m (get_or order k 0) related in
          let here : place_of order (get_or order k 0) ≡ k = place_of-fresh order k fresh small in
          in_front order k m (omega arith) (omega arith);
    }

pub places_fresh : (size : ℕ) (R : ℕ → ℕ → Type 0) (order : List ℕ) → PlacesLeast size R order → IsFresh order
places_fresh size R order places k small =
    let all : length order ≡ size = places.all in
    (places.each k (omega arith)).may.unplaced

pub places_once : (size : ℕ) (R : ℕ → ℕ → Type 0) (order : List ℕ) → PlacesLeast size R order → HoldsEachOnce size order
places_once size R order places =
    let all : length order ≡ size = places.all in
    once_from_fresh size order (places_fresh size R order places) all
    (All-from_get_or (λ n. n < size) order 0 (λ k small. (places.each k (omega arith)).may.in_range))

-- its places rise along the relation
pub places_rise :
    (size : ℕ) (R : ℕ → ℕ → Type 0) (order : List ℕ) → PlacesLeast size R order →
    (a b : ℕ) → b < size → R a b → place_of order a < place_of order b
places_rise size R order places a b small related =
    let all : length order ≡ size = places.all in
    let fresh : IsFresh order = places_fresh size R order places in
    let member : Contains order b =
    each_from_fresh size order fresh all
    (All-from_get_or (λ n. n < size) order 0 (λ k within. (places.each k (omega arith)).may.in_range)) b small in
    let k : ℕ = place_of order b in
    let found : k < length order = place_of-contained order b member in
    let item : get_or order k 0 ≡ b = get_or-place_of order b 0 found in
    let front : Contains (take k order) a =
    (places.each k (omega arith)).may.ready a (subst (λ (n : ℕ). R a n) (sym item) related) in
    front_place order k a (omega arith) front

-- relations that say the same
pub follow_same :
    (size : ℕ) (R S : ℕ → ℕ → Type 0) → ((a b : ℕ) → S a b → R a b) → (placed : List ℕ) (n : ℕ) →
    MayFollow size R placed n → MayFollow size S placed n
follow_same size R S within placed n follow =
    record { in_range = follow.in_range; unplaced = follow.unplaced; ready = λ m related. follow.ready m (within m n related) }

pub places_same :
    (size : ℕ) (R S : ℕ → ℕ → Type 0) → ((a b : ℕ) → R a b ↔ S a b) → (order : List ℕ) →
    PlacesLeast size R order → PlacesLeast size S order
places_same size R S same order places = record {
  all = places.all;
  each = λ k small.
      let here = places.each k small in
      record {
        may = follow_same size R S (λ a b. (same a b).1) (take k order) (get_or order k 0) here.may;
        least = λ m follow. here.least m (follow_same size S R (λ a b. (same a b).0) (take k order) m follow);
      };
}

-- one relation has one such list
pub one_up_to :
    (size : ℕ) (R : ℕ → ℕ → Type 0) (xs ys : List ℕ) → PlacesLeast size R xs → PlacesLeast size R ys →
    (k : ℕ) → k ≤ size → take k xs ≡ take k ys
one_up_to size R xs ys first second zero within = refl
one_up_to size R xs ys first second (suc k) within =
    let all : length xs ≡ size = first.all in
    let other_all : length ys ≡ size = second.all in
    let same : take k xs ≡ take k ys = one_up_to size R xs ys first second k (omega arith) in
    let here = first.each k (omega arith) in
    let there = second.each k (omega arith) in
    let up : get_or xs k 0 ≤ get_or ys k 0 =
    here.least (get_or ys k 0) (subst (λ (front : List ℕ). MayFollow size R front (get_or ys k 0)) (sym same) there.may) in
    let down : get_or ys k 0 ≤ get_or xs k 0 =
    there.least (get_or xs k 0) (subst (λ (front : List ℕ). MayFollow size R front (get_or xs k 0)) same here.may) in
    let next : k + 1 ≡ suc k = omega arith in
    subst (λ (m : ℕ). take m xs ≡ take m ys) next (take_more_same xs ys k 0 (omega arith) (omega arith) same (omega arith))

pub places_one :
    (size : ℕ) (R : ℕ → ℕ → Type 0) (xs ys : List ℕ) → PlacesLeast size R xs → PlacesLeast size R ys → xs ≡ ys
places_one size R xs ys first second =
    let all : length xs ≡ size = first.all in
    let other_all : length ys ≡ size = second.all in
    sym (take_all size xs (omega arith)) ∙ one_up_to size R xs ys first second size (omega arith) ∙ take_all size ys (omega arith)

-- it is the first of all that rise along the relation
pub places_first :
    (size : ℕ) (R : ℕ → ℕ → Type 0) (order other : List ℕ) → PlacesLeast size R order → HoldsEachOnce size other →
    RisesAlong R other → (order ≡ other) ⊎ IsLower order other
places_first size R order other places holds rises =
    let all : length order ≡ size = places.all in
    let other_all : length other ≡ size = length_from_once size other holds in
    elim (differ order other (omega arith)) [
      | inl same ↦ inl same
      | inr at ↦
          let k : ℕ = at.place in
          let small : k < length order = at.within in
          let follow : MayFollow size R (take k other) (get_or other k 0) =
          follows_in_order size R other holds rises k (omega arith) in
          let up : get_or order k 0 ≤ get_or other k 0 =
          (places.each k (omega arith)).least (get_or other k 0)
          (subst (λ (front : List ℕ). MayFollow size R front (get_or other k 0)) (sym at.same) follow) in
          let apart = at.other in
          inr record { place = k; within = small; within_other = omega arith; same = at.same; lower = omega arith }
    ]

-- what stands in front of a list that rises along the relation holds all that is chained to it
pub follow_chained :
    (size : ℕ) (R : ℕ → ℕ → Type 0) (order : List ℕ) (k n : ℕ) → k ≤ length order → RisesAlong R order →
    MayFollow size R (take k order) n → MayFollow size (Chained R) (take k order) n
follow_chained size R order k n within rises follow = record {
  in_range = follow.in_range;
  unplaced = follow.unplaced;
  ready = λ m chain.
      let last = last_pair R m n chain in
      let front : Contains (take k order) last.before = follow.ready last.before last.is in
      elim last.leads [
        | inl same ↦ subst (λ (p : ℕ). Contains (take k order) p) (sym same) front
        | inr on ↦
            let early : place_of order last.before < k = front_place order k last.before within front in
            let up : place_of order m < place_of order last.before = chained_rises R (place_of order) rises m last.before on in
            in_front order k m within (omega arith)
      ];
}

-- by a relation or by its chains
pub places_chained :
    (size : ℕ) (R : ℕ → ℕ → Type 0) → ((a b : ℕ) → R a b → b < size) → (order : List ℕ) →
    PlacesLeast size R order → PlacesLeast size (Chained R) order
places_chained size R in_range order places =
    let all : length order ≡ size = places.all in
    let rises : RisesAlong R order = λ a b related. places_rise size R order places a b (in_range a b related) related in
    record {
      all = all;
      each = λ k small. record {
        may = follow_chained size R order k (get_or order k 0) (omega arith) rises (places.each k small).may;
        least = λ m follow.
            (places.each k small).least m (follow_same size (Chained R) R (chained_one R) (take k order) m follow);
      };
    }

pub places_unchained :
    (size : ℕ) (R : ℕ → ℕ → Type 0) → ((a b : ℕ) → R a b → b < size) → (order : List ℕ) →
    PlacesLeast size (Chained R) order → PlacesLeast size R order
places_unchained size R in_range order places =
    let all : length order ≡ size = places.all in
    let rises : RisesAlong R order = λ a b related.
    places_rise size (Chained R) order places a b (in_range a b related) (chained_one R a b related) in
    record {
      all = all;
      each = λ k small. record {
        may = follow_same size (Chained R) R (chained_one R) (take k order) (get_or order k 0) (places.each k small).may;
        least = λ m follow. (places.each k small).least m (follow_chained size R order k m (omega arith) rises follow);
      };
    }

-- ---- the least order of the edges is that of their pairs, and that of their closure

pub order_rises_pairs : (order : List ℕ) (edges : List Edge) → Extends order edges → RisesAlong (HasEdge edges) order
order_rises_pairs order edges extends a b member =
    All-contains (λ e. place_of order e.before < place_of order e.after) edges (record { before = a; after = b }) extends member

pub places_pairs : (size : ℕ) (edges : List Edge) (order : List ℕ) → IsLeastOrder size edges order → PlacesLeast size (HasEdge edges) order
places_pairs size edges order is =
    let holds = is.extends.holds in
    let all : length order ≡ size = length_from_once size order holds in
    record {
      all = all;
      each = λ k small. record {
        may = follows_in_order size (HasEdge edges) order holds (order_rises_pairs order edges is.extends.extends) k (omega arith);
        least = λ m follow. is.least k (omega arith) m (next_from_follow size edges (take k order) m follow);
      };
    }

pub places_closure : (size : ℕ) (edges : List Edge) (order : List ℕ) → IsLeastOrder size edges order → PlacesLeast size (Reaches edges) order
places_closure size edges order is =
    let holds = is.extends.holds in
    let all : length order ≡ size = length_from_once size order holds in
    record {
      all = all;
      each = λ k small. record {
        may = follows_in_order size (Reaches edges) order holds (reaches_rises order edges is.extends.extends) k (omega arith);
        least = λ m follow. is.least k (omega arith) m (next_from_closure size edges (take k order) m follow);
      };
    }

pub least_from_pairs :
    (size : ℕ) (edges : List Edge) (order : List ℕ) → IsInRange size edges → PlacesLeast size (HasEdge edges) order → IsLeastOrder size edges order
least_from_pairs size edges order in_range places =
    let all : length order ≡ size = places.all in
    record {
      extends = record {
        holds = places_once size (HasEdge edges) order places;
        extends = λ k d small.
            let e : Edge = get_or edges k d in
            places_rise size (HasEdge edges) order places e.before e.after (in_range k d small).1 (Contains-get_or edges k d small);
      };
      least = λ k small n next. (places.each k (omega arith)).least n (follow_from_next size edges (take k order) n next);
    }

pub least_from_closure :
    (size : ℕ) (edges : List Edge) (order : List ℕ) → IsInRange size edges → PlacesLeast size (Reaches edges) order → IsLeastOrder size edges order
least_from_closure size edges order in_range places =
    let all : length order ≡ size = places.all in
    let rises : Extends order edges = λ k d small.
    let e : Edge = get_or edges k d in
    places_rise size (Reaches edges) order places e.before e.after (in_range k d small).1
    (reaches_edge edges e (Contains-get_or edges k d small)) in
    record {
      extends = record { holds = places_once size (Reaches edges) order places; extends = rises };
      least = λ k small n next.
          (places.each k (omega arith)).least n (closure_from_next size edges order k n (omega arith) rises next);
    }

-- ---- the laws

pub least_one : (size : ℕ) (edges : List Edge) (xs ys : List ℕ) → IsLeastOrder size edges xs → IsLeastOrder size edges ys → xs ≡ ys
least_one size edges xs ys first second =
    places_one size (HasEdge edges) xs ys (places_pairs size edges xs first) (places_pairs size edges ys second)

pub least_first :
    (size : ℕ) (edges : List Edge) (order other : List ℕ) → IsLeastOrder size edges order → IsOrder size edges other →
    (order ≡ other) ⊎ IsLower order other
least_first size edges order other is is_order =
    places_first size (HasEdge edges) order other (places_pairs size edges order is) is_order.holds
    (order_rises_pairs other edges is_order.extends)

pub least_kept :
    (size : ℕ) (xs ys : List Edge) → SameClosure xs ys → (order : List ℕ) → IsLeastOrder size xs order → IsLeastOrder size ys order
least_kept size xs ys same order is =
    let rises : Extends order ys = λ k d small.
    let e : Edge = get_or ys k d in
    reaches_rises order xs is.extends.extends e.before e.after
    ((same e.before e.after).1 (reaches_edge ys e (Contains-get_or ys k d small))) in
    record {
      extends = record { holds = is.extends.holds; extends = rises };
      least = λ k small n next.
          is.least k small n (next_from_closure size xs (take k order) n
          (follow_same size (Reaches ys) (Reaches xs) (λ a b. (same a b).0) (take k order) n
          (closure_from_next size ys order k n (omega arith) rises next)));
    }
