-- What a worker has attended to: nothing, one link, and further links.
use Rattle.std.proofs.Common.{◌≡◌, ◌+◌, ◌<◌, ℕ, List, [], ◌∷◌, ◌++◌, map, Option, None, Some, refl, sym, ◌∙◌, ap, subst, arith, inl, inr, length-append, Err, IsErrOf, IfSome}
use Rattle.std.proofs.lemmas.List.{append-nil, append_assoc, map-append}
use Rattle.cell_base.specs.declared.level.Level.{Level}
use Rattle.link_traits.specs.Traffic.{Sight}
use Rattle.link_traits.specs.declared.host.HostFault.{HostFault}
use Rattle.link_traits.specs.declared.host.HostFault.TheVariants as faults
use Rattle.history_core.specs.Chronicle.{IsLegalChronicle}
use Rattle.history_book.specs.Book.{Past, no_session}
use Rattle.session_core.specs.declared.served.Served.{Served}
use Rattle.session_core.specs.Serve.{Account, Serves, scene_of}
use Rattle.doors.specs.Passage.{Passage, CameIn, IsNextOf, given_back, accept_failed}
use Rattle.door_workers.specs.Visits.{came_of, went_of, outcome_of}
use Rattle.door_workers.specs.Workers.{Post, AreNextOf, IsNoneLeft, faults_after, Ceases, Attended}
use Rattle.door_workers.proofs.Visiting.{visits_joined}

-- ---- lists that grow

pub kept_then : {X Y : Type 0} (f : X → Y) (xs ys : List X) (old between new : List Y) →
    between ≡ old ++ map f xs → new ≡ between ++ map f ys → new ≡ old ++ map f (xs ++ ys)
kept_then f xs ys old between new first second =
    second ∙ ap (λ zs. zs ++ map f ys) first ∙ append_assoc old (map f xs) (map f ys) ∙ ap (λ zs. old ++ zs) (sym (map-append f xs ys))

pub next_none : (old : Option (List Sight)) → AreNextOf [] old old
next_none None = tt
next_none (Some links) = refl

pub next_one : (link : Sight) (old new : Option (List Sight)) → IsNextOf link old new → AreNextOf (link ∷ []) old new
next_one link None None next = tt
next_one link (Some old) (Some new) next = next
next_one link None (Some new) next = absurd next
next_one link (Some old) None next = absurd next

pub next_then : (xs ys : List Sight) (old between new : Option (List Sight)) →
    AreNextOf xs old between → AreNextOf ys between new → AreNextOf (xs ++ ys) old new
next_then xs ys None None None first second = tt
next_then xs ys (Some old) (Some between) (Some new) first second =
    first ∙ ap (λ zs. xs ++ zs) second ∙ sym (append_assoc xs ys new)
next_then xs ys None None (Some new) first second = absurd second
next_then xs ys None (Some between) new first second = absurd first
next_then xs ys (Some old) None new first second = absurd first
next_then xs ys (Some old) (Some between) None first second = absurd second

-- what a value that is there meets
pub some_meets : {A : Type 0} (P : A → Type 0) (value : Option A) (item : A) → value ≡ Some item → IfSome value P → P item
some_meets {A} P value item is meets = subst (λ (x : Option A). IfSome x P) is meets

-- ---- a call that gave no link

-- the same links came in, went back and are to come
pub record IsAsBefore (old new : Passage) : Type 0 where
  pub accepted : new.accepted ≡ old.accepted
  pub back : new.back ≡ old.back
  pub to_come : new.to_come ≡ old.to_come

pub before_same : (old new : Passage) → new ≡ old → IsAsBefore old new
before_same old new same = record {
  accepted = ap (λ (p : Passage). p.accepted) same;
  back = ap (λ (p : Passage). p.back) same;
  to_come = ap (λ (p : Passage). p.to_come) same;
}

pub before_failed : (old new : Passage) → new ≡ accept_failed old → IsAsBefore old new
before_failed old new failed = record {
  accepted = ap (λ (p : Passage). p.accepted) failed;
  back = ap (λ (p : Passage). p.back) failed;
  to_come = ap (λ (p : Passage). p.to_come) failed;
}

pub before_fault : {T : Type 0} (fault : HostFault) (old new : Passage) →
    (IsErrOf {T = T} {E = HostFault} (Err fault) faults.Failed → new ≡ accept_failed old) →
    (IsErrOf {T = T} {E = HostFault} (Err fault) faults.Memory → new ≡ old) → IsAsBefore old new
before_fault faults.Failed old new failed memory = before_failed old new (failed refl)
before_fault faults.Memory old new failed memory = before_same old new (memory refl)

-- ---- what was attended to

-- no link
pub attended_none : {B W : Type 0} (unchanged : B → B → Type 0) (gives : W → ℕ → W → Type 0) (level : Level) (a b : Post B W) →
    unchanged a.book b.book → b.past ≡ a.past → b.words ≡ a.words → IsAsBefore a.passage b.passage → b.served ≡ a.served →
    b.accept ≡ a.accept → a.past.state ≡ no_session → Attended unchanged gives level 0 a b
attended_none unchanged gives level a b stays past words passage served accept none = record {
  visits = [];
  number_is = refl;
  are_visits = (past, words);
  served = served ∙ sym (append-nil a.served);
  accepted = omega (arith, passage.accepted);
  back = passage.back ∙ sym (append-nil a.passage.back);
  to_come = subst (λ links. AreNextOf [] a.passage.to_come links) (sym passage.to_come) (next_none a.passage.to_come);
  accept = accept;
  no_session = ap (λ (p : Past). p.state) past ∙ none;
  legal = λ legal. subst (λ (p : Past). IsLegalChronicle p.seen) (sym past) legal;
  stays = stays;
}

-- one link
pub attended_one : {B W : Type 0} (unchanged : B → B → Type 0) (gives : W → ℕ → W → Type 0) (level : Level) (a b : Post B W)
    (came went : Sight) (outcome : Served) (account : Account) (between : Passage) →
    CameIn came a.passage between → b.passage ≡ given_back went between →
    Serves gives level (scene_of a.past a.words came) outcome (scene_of b.past b.words went) account →
    b.served ≡ a.served ++ outcome ∷ [] → b.accept ≡ a.accept → b.past.state ≡ no_session →
    (IsLegalChronicle a.past.seen → IsLegalChronicle b.past.seen) → unchanged a.book b.book → Attended unchanged gives level 1 a b
attended_one unchanged gives level a b came went outcome account between came_in given serves served accept none legal stays = record {
  visits = record { came = came; went = went; outcome = outcome; account = account } ∷ [];
  number_is = refl;
  are_visits = (b.past, b.words, serves, none, (refl, refl));
  served = served;
  accepted = ap (λ (p : Passage). p.accepted) given ∙ came_in.accepted;
  back = ap (λ (p : Passage). p.back) given ∙ ap (λ links. links ++ went ∷ []) came_in.back;
  to_come = subst (λ links. AreNextOf (came ∷ []) a.passage.to_come links) (sym (ap (λ (p : Passage). p.to_come) given))
      (next_one came a.passage.to_come between.to_come came_in.to_come);
  accept = accept;
  no_session = none;
  legal = legal;
  stays = stays;
}

-- links, and then further ones
pub attended_then : {B W : Type 0} (unchanged : B → B → Type 0) (gives : W → ℕ → W → Type 0) (level : Level) (n m k : ℕ) (a b c : Post B W) →
    k ≡ n + m → ((x y z : B) → unchanged x y → unchanged y z → unchanged x z) →
    Attended unchanged gives level n a b → Attended unchanged gives level m b c → Attended unchanged gives level k a c
attended_then unchanged gives level n m k a b c sum together first second = record {
  visits = first.visits ++ second.visits;
  number_is = omega (arith, sum, length-append first.visits second.visits, first.number_is, second.number_is);
  are_visits = visits_joined gives level a.past a.words first.visits second.visits b.past b.words c.past c.words first.are_visits
      second.are_visits;
  served = kept_then outcome_of first.visits second.visits a.served b.served c.served first.served second.served;
  accepted = omega (arith, sum, first.accepted, second.accepted);
  back = kept_then went_of first.visits second.visits a.passage.back b.passage.back c.passage.back first.back second.back;
  to_come = subst (λ links. AreNextOf links a.passage.to_come c.passage.to_come) (sym (map-append came_of first.visits second.visits))
      (next_then (map came_of first.visits) (map came_of second.visits) a.passage.to_come b.passage.to_come c.passage.to_come first.to_come
      second.to_come);
  accept = second.accept ∙ first.accept;
  no_session = second.no_session;
  legal = λ legal. second.legal (first.legal legal);
  stays = together a.book b.book c.book first.stays second.stays;
}

-- ---- why a worker ceases

pub ceases_short : (fault : Option HostFault) (accepted most : ℕ) (to_come : Option (List Sight)) →
    accepted < most → (fault ≡ None → IsNoneLeft to_come) → Ceases fault accepted most to_come
ceases_short None accepted most to_come less none = inr (less, none refl)
ceases_short (Some fault) accepted most to_come less none = less

pub ceases_full : (fault : Option HostFault) (accepted most : ℕ) (to_come : Option (List Sight)) →
    accepted ≡ most → fault ≡ None → Ceases fault accepted most to_come
ceases_full fault accepted most to_come all none =
    subst (λ (f : Option HostFault). Ceases f accepted most to_come) (sym none) (inl all)

-- the count of faults, where it was the same before
pub faults_then : (fault : Option HostFault) (a b c : ℕ) → b ≡ a → c ≡ faults_after fault b → c ≡ faults_after fault a
faults_then fault a b c same now = subst (λ (x : ℕ). c ≡ faults_after fault x) same now

-- the count of faults without a fault
pub faults_none : (fault : Option HostFault) (a b : ℕ) → fault ≡ None → b ≡ faults_after fault a → b ≡ a
faults_none fault a b none now = subst (λ (f : Option HostFault). b ≡ faults_after f a) none now

pub faults_same : (fault : Option HostFault) (a b : ℕ) → fault ≡ None → b ≡ a → b ≡ faults_after fault a
faults_same fault a b none now = subst (λ (f : Option HostFault). b ≡ faults_after f a) (sym none) now
