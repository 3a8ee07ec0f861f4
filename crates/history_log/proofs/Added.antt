-- What a line adds to a draft.
use Rattle.std.proofs.Common.{◌≡◌, ◌≢◌, ◌⊎◌, inl, inr, ℕ, List, [], ◌∷◌, ◌++◌, refl, sym, ap, ◌∙◌, map, subst, append_assoc}
use Rattle.std.specs.Prelude.{OnOk, Result, Ok, Err}
use Rattle.cell_base.specs.declared.cell.Cell.{Cell}
use Rattle.cell_base.specs.declared.value.Value.{Value}
use Rattle.history_core.specs.declared.event.Event.{Event}
use Rattle.history_log.specs.declared.draft.Draft.{Draft}
use Rattle.history_log.specs.declared.draft.Place.{Place}
use Rattle.history_log.specs.declared.draft.Place.TheVariants.{Body, End, Done}
use Rattle.history_log.specs.declared.keyword.Keyword.{Keyword}
use Rattle.history_log.specs.declared.keyword.Keyword.TheVariants as keywords
use Rattle.history_log.specs.declared.version.Version.{Version}
use Rattle.history_log.specs.declared.version.Version.TheVariants.{Three}
use Rattle.history_log.specs.Cut.{cut_at}
use Rattle.history_log.specs.Spelling.{keyword_word, keyword_of, head_line, event_line, initial_line, order_line, end_line, line}
use Rattle.history_log.specs.Reading.{FitsEvent, IsEventIn}
use Rattle.history_log.specs.Log.{IsInitialCell, AreInitialCells}
use Rattle.history_log.specs.Draft.{IsRight, IsInitialSoFar, IsNextRow, IsNextEvent, IsNextOrder, said, ending}
use Rattle.history_log.specs.declared.misread.Misread.{Misread}
use Rattle.history_log.proofs.Cuts.{joined_cut}
use Rattle.history_log.proofs.Misreads.{all_push}

map_end : {X : Type 0} (f : X → List ℕ) (xs : List X) (x : X) → map f (xs ++ x ∷ []) ≡ map f xs ++ f x ∷ []
map_end f [] x = refl
map_end f (y ∷ xs) x = ap (λ zs. f y ∷ zs) (map_end f xs x)

nothing : (xs : List (List ℕ)) → xs ++ [] ≡ xs
nothing [] = refl
nothing (x ∷ xs) = ap (λ zs. x ∷ zs) (nothing xs)

push_after : (a b : List (List ℕ)) (text : List ℕ) → a ++ (b ++ text ∷ []) ≡ (a ++ b) ++ text ∷ []
push_after a b text = sym (append_assoc a b (text ∷ []))

three_so_far : (v : Version) (rows : List (Cell × Value)) → v ≡ Three → AreInitialCells rows → IsInitialSoFar v rows
three_so_far v rows e is = subst (λ (w : Version). IsInitialSoFar w rows) (sym e) is

cells_in_three : (v : Version) (rows : List (Cell × Value)) → v ≡ Three → IsInitialSoFar v rows → AreInitialCells rows
cells_in_three v rows e is = subst (λ (w : Version). IsInitialSoFar w rows) e is

pub row_added : (d : Draft) (x : Cell × Value) (words : List (List ℕ)) (text : List ℕ) → IsRight d → d.place ≡ Body → IsNextRow d x words → cut_at 32 text ≡ keyword_word keywords.Initial ∷ words
    → IsRight (record d { trace = record d.trace { initial = d.trace.initial ++ x ∷ [] } })
    × (said (record d { trace = record d.trace { initial = d.trace.initial ++ x ∷ [] } }) ≡ said d ++ text ∷ [])
row_added d x words text right body next cut = (
  record {
    initial = three_so_far d.version (d.trace.initial ++ x ∷ []) next.0 (next.3, all_push IsInitialCell d.trace.initial x (cells_in_three d.version d.trace.initial next.0 right.initial).1 next.2);
    begun = begun;
    events = right.events;
    order = right.order;
  },
  ap (λ (ls : List (List ℕ)). head_line d.version d.trace.level ∷ ls) (
      ap (λ (es : List (List ℕ)). map initial_line (d.trace.initial ++ x ∷ []) ++ es) empty ∙ nothing (map initial_line (d.trace.initial ++ x ∷ [])) ∙ map_end initial_line d.trace.initial x
      ∙ ap (λ (w : List ℕ). map initial_line d.trace.initial ++ w ∷ []) (sym is_row)
      ∙ ap (λ (ls : List (List ℕ)). ls ++ text ∷ []) (sym (ap (λ (es : List (List ℕ)). map initial_line d.trace.initial ++ es) empty ∙ nothing (map initial_line d.trace.initial)))),
) where
  empty : map (event_line d.version) d.trace.events ++ ending d.place d.trace.order ≡ []
  empty = ap (λ (es : List Event). map (event_line d.version) es ++ ending d.place d.trace.order) next.1 ∙ ap (λ (p : Place). ending p d.trace.order) body

  is_row : text ≡ initial_line x
  is_row = joined_cut 32 text (keyword_word keywords.Initial ∷ words) cut ∙ ap (λ (ws : List (List ℕ)). line (keyword_word keywords.Initial ∷ ws)) next.4

  begun : ((d.place ≢ Body) ⊎ (d.trace.events ≢ [])) → d.version ≡ Three → d.trace.initial ++ x ∷ [] ≢ []
  begun (inl h) = absurd (h body)
  begun (inr h) = absurd (h next.1)

pub event_added : (d : Draft) (k : Keyword) (f : Event) (words : List (List ℕ)) (text : List ℕ) → IsRight d → d.place ≡ Body → IsNextEvent d k f words → cut_at 32 text ≡ keyword_word k ∷ words
    → IsRight (record d { trace = record d.trace { events = d.trace.events ++ f ∷ [] } })
    × (said (record d { trace = record d.trace { events = d.trace.events ++ f ∷ [] } }) ≡ said d ++ text ∷ [])
event_added d k f words text right body next cut = (
  record {
    initial = right.initial;
    begun = λ h. next.0;
    events = all_push (λ (event : Event). FitsEvent event × IsEventIn d.version d.trace.level event) d.trace.events f right.events (next.1.0, next.1.1);
    order = right.order;
  },
  ap (λ (ls : List (List ℕ)). head_line d.version d.trace.level ∷ (map initial_line d.trace.initial ++ ls)) (
      ap (λ (p : Place). map (event_line d.version) (d.trace.events ++ f ∷ []) ++ ending p d.trace.order) body ∙ nothing (map (event_line d.version) (d.trace.events ++ f ∷ []))
      ∙ map_end (event_line d.version) d.trace.events f ∙ ap (λ (w : List ℕ). map (event_line d.version) d.trace.events ++ w ∷ []) (sym is_event)
      ∙ ap (λ (ls : List (List ℕ)). ls ++ text ∷ []) (sym (ap (λ (p : Place). map (event_line d.version) d.trace.events ++ ending p d.trace.order) body ∙ nothing (map (event_line d.version) d.trace.events))))
      ∙ ap (λ (ls : List (List ℕ)). head_line d.version d.trace.level ∷ ls) (push_after (map initial_line d.trace.initial) (map (event_line d.version) d.trace.events ++ ending d.place d.trace.order) text),
) where
  is_event : text ≡ event_line d.version f
  is_event = joined_cut 32 text (keyword_word k ∷ words) cut ∙ ap (λ (j : Keyword). line (keyword_word j ∷ words)) (sym next.1.2)
      ∙ ap (λ (ws : List (List ℕ)). line (keyword_word (keyword_of f) ∷ ws)) next.1.3

pub order_added : (d : Draft) (o : List ℕ) (words : List (List ℕ)) (text : List ℕ) → IsRight d → d.place ≡ Body → IsNextOrder d o words → cut_at 32 text ≡ keyword_word keywords.Order ∷ words
    → IsRight (record d { place = End; trace = record d.trace { order = o } })
    × (said (record d { place = End; trace = record d.trace { order = o } }) ≡ said d ++ text ∷ [])
order_added d o words text right body next cut = (
  record { initial = right.initial; begun = λ h. next.0; events = right.events; order = next.1.0 },
  ap (λ (ls : List (List ℕ)). head_line d.version d.trace.level ∷ (map initial_line d.trace.initial ++ ls)) (
      ap (λ (w : List ℕ). map (event_line d.version) d.trace.events ++ w ∷ []) (sym is_order)
      ∙ ap (λ (ls : List (List ℕ)). ls ++ text ∷ []) (sym (ap (λ (p : Place). map (event_line d.version) d.trace.events ++ ending p d.trace.order) body ∙ nothing (map (event_line d.version) d.trace.events))))
      ∙ ap (λ (ls : List (List ℕ)). head_line d.version d.trace.level ∷ ls) (push_after (map initial_line d.trace.initial) (map (event_line d.version) d.trace.events ++ ending d.place d.trace.order) text),
) where
  is_order : text ≡ order_line o
  is_order = joined_cut 32 text (keyword_word keywords.Order ∷ words) cut ∙ ap (λ (ws : List (List ℕ)). line (keyword_word keywords.Order ∷ ws)) next.1.1

pub end_added : (d : Draft) (text : List ℕ) → IsRight d → d.place ≡ End → text ≡ end_line
    → IsRight (record d { place = Done }) × (said (record d { place = Done }) ≡ said d ++ text ∷ [])
end_added d text right at is = (
  record { initial = right.initial; begun = λ h. right.begun (inl other); events = right.events; order = right.order },
  ap (λ (ls : List (List ℕ)). head_line d.version d.trace.level ∷ (map initial_line d.trace.initial ++ (map (event_line d.version) d.trace.events ++ ls)))
      (ap (λ (w : List ℕ). order_line d.trace.order ∷ w ∷ []) (sym is) ∙ ap (λ (p : Place). ending p d.trace.order ++ text ∷ []) (sym at))
      ∙ ap (λ (ls : List (List ℕ)). head_line d.version d.trace.level ∷ (map initial_line d.trace.initial ++ ls)) (push_after (map (event_line d.version) d.trace.events) (ending d.place d.trace.order) text)
      ∙ ap (λ (ls : List (List ℕ)). head_line d.version d.trace.level ∷ ls) (push_after (map initial_line d.trace.initial) (map (event_line d.version) d.trace.events ++ ending d.place d.trace.order) text),
) where
  other : d.place ≢ Body
  other e = differ (sym at ∙ e) where
    differ : End ≡ Body → ⊥
    differ e = cc

-- the same of what a call answers

pub row_ok : (d new : Draft) (words : List (List ℕ)) (text : List ℕ) (r : Result (Unit {0}) Misread) → IsRight d → d.place ≡ Body → cut_at 32 text ≡ keyword_word keywords.Initial ∷ words
    → OnOk r ((x : Cell × Value) × IsNextRow d x words × (new ≡ record d { trace = record d.trace { initial = d.trace.initial ++ x ∷ [] } })) → OnOk r (IsRight new) × OnOk r (said new ≡ said d ++ text ∷ [])
row_ok d new words text (Err e) right body cut p = (tt, tt)
row_ok d new words text (Ok u) right body cut p =
    let a = row_added d p.0 words text right body p.1 cut in (subst (λ (e : Draft). IsRight e) (sym p.2) a.0, ap said p.2 ∙ a.1)

pub event_ok : (d new : Draft) (k : Keyword) (words : List (List ℕ)) (text : List ℕ) (r : Result (Unit {0}) Misread) → IsRight d → d.place ≡ Body → cut_at 32 text ≡ keyword_word k ∷ words
    → OnOk r ((f : Event) × IsNextEvent d k f words × (new ≡ record d { trace = record d.trace { events = d.trace.events ++ f ∷ [] } })) → OnOk r (IsRight new) × OnOk r (said new ≡ said d ++ text ∷ [])
event_ok d new k words text (Err e) right body cut p = (tt, tt)
event_ok d new k words text (Ok u) right body cut p =
    let a = event_added d k p.0 words text right body p.1 cut in (subst (λ (e : Draft). IsRight e) (sym p.2) a.0, ap said p.2 ∙ a.1)

pub order_ok : (d new : Draft) (words : List (List ℕ)) (text : List ℕ) (r : Result (Unit {0}) Misread) → IsRight d → d.place ≡ Body → cut_at 32 text ≡ keyword_word keywords.Order ∷ words
    → OnOk r ((o : List ℕ) × IsNextOrder d o words × (new ≡ record d { place = End; trace = record d.trace { order = o } })) → OnOk r (IsRight new) × OnOk r (said new ≡ said d ++ text ∷ [])
order_ok d new words text (Err e) right body cut p = (tt, tt)
order_ok d new words text (Ok u) right body cut p =
    let a = order_added d p.0 words text right body p.1 cut in (subst (λ (e : Draft). IsRight e) (sym p.2) a.0, ap said p.2 ∙ a.1)
