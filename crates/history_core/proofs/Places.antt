-- Places of a list that grows at its end, and the numbers of starts.
use Rattle.std.proofs.Common.{◌≡◌, ℕ, ◌+◌, ◌<◌, ◌≤◌, zero, suc, List, [], ◌∷◌, ◌++◌, Some, true, cond, length, get_or, take, arith, refl, ap, sym, ◌∙◌, inl, inr}
use Rattle.std.specs.List.{slice_get}
use Rattle.std.proofs.lemmas.List.{take-take}
use Rattle.std.proofs.lemmas.List.Sums.{count_by_more_yes, sum_by-take-le}
use Rattle.std.proofs.lemmas.Option.{slice_get_within, get_or_from_slice_get}
use Rattle.std.proofs.lemmas.Bool.{cases_order}
use Rattle.cell_base.specs.declared.level.Level.{Level}
use Rattle.history_core.specs.declared.event.Event.{Event}
use Rattle.history_core.specs.declared.event.Event.TheVariants.{Begin}
use Rattle.history_core.specs.Transactions.{IsStart, RunsAt}
use Rattle.history_core.specs.Events.{begun, is_begin}

pub slice_get-append_left : {X : Type 0} (xs ys : List X) (k : ℕ) → k < length xs → slice_get (xs ++ ys) k ≡ slice_get xs k
slice_get-append_left [] ys k h = absurd (omega arith)
slice_get-append_left (x ∷ xs) ys zero h = refl
slice_get-append_left (x ∷ xs) ys (suc k) h = slice_get-append_left xs ys k (omega arith)

pub slice_get-take :
    {X : Type 0} (xs : List X) (n k : ℕ) → k < n → slice_get (take n xs) k ≡ slice_get xs k
slice_get-take xs zero k h = absurd (omega arith)
slice_get-take [] (suc n) k h = refl
slice_get-take (x ∷ xs) (suc n) zero h = refl
slice_get-take (x ∷ xs) (suc n) (suc k) h = slice_get-take xs n k (omega arith)

pub begun-take-le : (events : List Event) (i j : ℕ) → i ≤ j → begun (take i events) ≤ begun (take j events)
begun-take-le events i j le =
    let h : begun (take i (take j events)) ≤ begun (take j events) = sum_by-take-le (λ e. cond (is_begin e) 1 0) (take j events) i in
    let same : begun (take i (take j events)) ≡ begun (take i events) = ap begun (take-take i j events le) in
    omega arith

-- a start raises the number
pub begun-take_past :
    (events : List Event) (session : ℕ) (level : Level) (p q : ℕ) → slice_get events p ≡ Some (Begin session level) → p < q →
    begun (take p events) + 1 ≤ begun (take q events)
begun-take_past events session level p q is less =
    let within : p < length events = slice_get_within events p (Begin session level) is in
    let at : is_begin (get_or events p (Begin session level)) ≡ true = ap is_begin (get_or_from_slice_get events p (Begin session level) (Begin session level) is) in
    let more : begun (take (p + 1) events) ≡ begun (take p events) + 1 = count_by_more_yes is_begin events p (Begin session level) within at in
    let on : begun (take (p + 1) events) ≤ begun (take q events) = begun-take-le events (p + 1) q (omega arith) in
    omega arith

-- a number has one start
pub start_unique :
    (events : List Event) (k s t p q : ℕ) → IsStart events k s p → IsStart events k t q → p ≡ q
start_unique events k s t p q first second =
    elim (cases_order p q) [
      | inl same ↦ same
      | inr apart ↦ elim apart [
        | inl less ↦
            let h = begun-take_past events s first.level p q first.is less in
            let a = first.counts in let b = second.counts in absurd (omega arith)
        | inr more ↦
            let h = begun-take_past events t second.level q p second.is more in
            let a = first.counts in let b = second.counts in absurd (omega arith)
      ]
    ]

pub start_session :
    (events : List Event) (k s t p q : ℕ) → IsStart events k s p → IsStart events k t q → s ≡ t
start_session events k s t p q first second =
    let same : p ≡ q = start_unique events k s t p q first second in
    let both : Some (Begin s first.level) ≡ Some (Begin t second.level) = sym first.is ∙ ap (λ (n : ℕ). slice_get events n) same ∙ second.is in
    cc

pub begun-take_all : (events : List Event) (p : ℕ) → begun (take p events) ≤ begun events
begun-take_all events p = sum_by-take-le (λ e. cond (is_begin e) 1 0) events p

-- a transaction that runs at a level has started
pub start_of : (events : List Event) (k : ℕ) (level : Level) → (runs : RunsAt events k level) → IsStart events k runs.session runs.place
start_of events k level runs = record { level = level; is = runs.is; counts = runs.counts }

-- a transaction that has started runs at a level
pub runs_of : (events : List Event) (k s p : ℕ) → (start : IsStart events k s p) → RunsAt events k start.level
runs_of events k s p start = record { session = s; place = p; is = start.is; counts = start.counts }

-- a transaction runs at one level
pub runs_unique : (events : List Event) (k : ℕ) (a b : Level) → RunsAt events k a → RunsAt events k b → a ≡ b
runs_unique events k a b first second =
    let same : first.place ≡ second.place =
    start_unique events k first.session second.session first.place second.place (start_of events k a first) (start_of events k b second) in
    let both : Some (Begin first.session a) ≡ Some (Begin second.session b) =
    sym first.is ∙ ap (λ (n : ℕ). slice_get events n) same ∙ second.is in
    cc
