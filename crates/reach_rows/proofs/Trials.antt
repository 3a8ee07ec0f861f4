-- Edges as stars of one member.
use Rattle.std.proofs.Common.{◌≡◌, ◌<◌, ◌≤◌, ℕ, ◌+◌, List, [], ◌∷◌, ◌++◌, length, get_or, take, refl, ap, sym, ◌∙◌, subst}
use Rattle.std.specs.List.{All}
use Rattle.std.proofs.lemmas.List.{append-nil, take_more, take_all}
use Rattle.std.proofs.lemmas.List.Elements.{All-push, All-cons, All-nil}
use Rattle.graph_base.specs.declared.Edge.{Edge}
use Rattle.graph_base.specs.Walk.{IsInRange}
use Rattle.reach_rows.specs.declared.Star.{Star}
use Rattle.reach_rows.specs.Rows.{edge_of}
use Rattle.reach_rows.specs.Stars.{star_of, edges_of, IsStarInRange}
use Rattle.reach_rows.proofs.Several.{edges_of-append}

-- the stars of the first k edges of a trial
pub record AreStarsOf (trial : List Edge) (k : ℕ) (stars : List Star) : Type 0 where
  pub edges : edges_of stars ≡ take k trial
  pub in_range : (size : ℕ) → IsInRange size trial → All (IsStarInRange size) stars

pub stars_of_none : (trial : List Edge) → AreStarsOf trial 0 []
stars_of_none trial = record { edges = refl; in_range = λ size within. All-nil (IsStarInRange size) }

pub star_of_begin : (e : Edge) (star : Star) → star.members.items ≡ e.before ∷ [] → star.target ≡ e.after → edges_of (star ∷ []) ≡ e ∷ []
star_of_begin e star members target =
    append-nil (star_of star.members.items star.target)
    ∙ ap (λ (ms : List ℕ). star_of ms star.target) members
    ∙ ap (λ (t : ℕ). star_of (e.before ∷ []) t) target

pub begin_in_range :
    (size : ℕ) (e : Edge) (star : Star) → star.members.items ≡ e.before ∷ [] → star.target ≡ e.after →
    (e.before < size) × (e.after < size) → IsStarInRange size star
begin_in_range size e star members target within = (
  subst (λ (t : ℕ). t < size) (sym target) within.1,
  subst (λ (ms : List ℕ). All (λ m. m < size) ms) (sym members)
      (All-cons (λ m. m < size) e.before [] within.0 (All-nil (λ m. m < size))),
)

pub stars_of_more :
    (trial : List Edge) (k : ℕ) (e : Edge) (stars : List Star) (star : Star) → k < length trial → get_or trial k (edge_of 0 0) ≡ e →
    star.members.items ≡ e.before ∷ [] → star.target ≡ e.after → AreStarsOf trial k stars →
    AreStarsOf trial (k + 1) (stars ++ star ∷ [])
stars_of_more trial k e stars star within is members target are =
    let last : take (k + 1) trial ≡ take k trial ++ e ∷ [] =
    take_more trial k (edge_of 0 0) within ∙ ap (λ (f : Edge). take k trial ++ f ∷ []) is in
    record {
      edges =
          edges_of-append stars (star ∷ []) ∙ ap (λ (es : List Edge). es ++ edges_of (star ∷ [])) are.edges
          ∙ ap (λ (es : List Edge). take k trial ++ es) (star_of_begin e star members target) ∙ sym last;
      in_range = λ size all.
          All-push (IsStarInRange size) stars star (are.in_range size all)
          (begin_in_range size e star members target
          (subst (λ (f : Edge). (f.before < size) × (f.after < size)) is (all k (edge_of 0 0) within)));
    }

pub edges_of_stars :
    (trial : List Edge) (k : ℕ) (stars : List Star) → length trial ≤ k → AreStarsOf trial k stars → edges_of stars ≡ trial
edges_of_stars trial k stars end are = are.edges ∙ take_all k trial end
