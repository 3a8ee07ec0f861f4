-- That what a draft has read may go on, and where it can't.
use Rattle.std.proofs.Common.{◌≡◌, ◌≢◌, inl, inr, ℕ, pos, List, [], ◌∷◌, ◌++◌, refl, sym, ap, ◌∙◌, map, subst, arith, append_assoc, true}
use Rattle.std.specs.List.{AllByRecursion}
use Rattle.cell_base.specs.declared.cell.Cell.{Cell}
use Rattle.cell_base.specs.declared.cell.Cell.TheVariants.{Presence}
use Rattle.cell_base.specs.declared.key.Key.TheVariants as keys
use Rattle.cell_base.specs.declared.level.Level.{Level}
use Rattle.cell_base.specs.declared.value.Value.{Value}
use Rattle.cell_base.specs.declared.value.Value.TheVariants as values
use Rattle.history_core.specs.declared.event.Event.{Event}
use Rattle.history_log.specs.declared.draft.Draft.{Draft}
use Rattle.history_log.specs.declared.draft.Place.{Place}
use Rattle.history_log.specs.declared.draft.Place.TheVariants.{Body, End, Done}
use Rattle.history_log.specs.declared.trace.Trace.{Trace}
use Rattle.history_log.specs.declared.version.Version.{Version}
use Rattle.history_log.specs.declared.version.Version.TheVariants.{One, Two, Three}
use Rattle.history_log.specs.Spelling.{head_line, event_line, initial_line, order_line, end_line, lines}
use Rattle.history_log.specs.Reading.{IsU32}
use Rattle.history_log.specs.Log.{IsInitialCell, IsInitialIn, AreEventsIn, CanSay}
use Rattle.history_log.specs.Draft.{IsRight, IsInitialSoFar, HasInitial, said, ending}
use Rattle.history_log.specs.Faults.{CanGoOn}
use Rattle.history_log.proofs.Strip.{order_not_initial, event_not_order}
use Rattle.history_core.specs.Initial.{IsInitialState}
use Rattle.history_log.proofs.RowLemmas.{one_row}
use Rattle.history_log.proofs.Going.{goes}

regroup : (a b c d : List (List ℕ)) → a ++ (b ++ (c ++ d)) ≡ (a ++ (b ++ c)) ++ d
regroup a b c d = sym (append_assoc a (b ++ c) d ∙ ap (λ (z : List (List ℕ)). a ++ z) (append_assoc b c d))

pub initial_in : (v : Version) (rows : List (Cell × Value)) → IsInitialSoFar v rows → HasInitial v rows → IsInitialIn v rows
initial_in One rows is has = is
initial_in Two rows is has = is
initial_in Three rows is has = (has refl, is)

by_place : (d : Draft) → IsRight d → IsInitialIn d.version d.trace.initial → (p : Place)
    → CanGoOn (head_line d.version d.trace.level ∷ (map initial_line d.trace.initial ++ (map (event_line d.version) d.trace.events ++ ending p d.trace.order)))
by_place d right is Body = record {
  version = d.version;
  trace = record d.trace { order = [] };
  more = order_line [] ∷ end_line ∷ [];
  says = record { initial = is; events = right.events; order = tt };
  goes = ap (λ (ls : List (List ℕ)). head_line d.version d.trace.level ∷ ls) (regroup (map initial_line d.trace.initial) (map (event_line d.version) d.trace.events) [] (order_line [] ∷ end_line ∷ []));
}
by_place d right is End = record {
  version = d.version;
  trace = d.trace;
  more = end_line ∷ [];
  says = record { initial = is; events = right.events; order = right.order };
  goes = ap (λ (ls : List (List ℕ)). head_line d.version d.trace.level ∷ ls) (regroup (map initial_line d.trace.initial) (map (event_line d.version) d.trace.events) (order_line d.trace.order ∷ []) (end_line ∷ []));
}
by_place d right is Done = record {
  version = d.version;
  trace = d.trace;
  more = [];
  says = record { initial = is; events = right.events; order = right.order };
  goes = ap (λ (ls : List (List ℕ)). head_line d.version d.trace.level ∷ ls) (regroup (map initial_line d.trace.initial) (map (event_line d.version) d.trace.events) (order_line d.trace.order ∷ end_line ∷ []) []);
}

first_row : Cell × Value
first_row = (Presence 0 (keys.Int (pos 0)), values.Flag true)

first_state : IsInitialState (first_row ∷ [])
unfolding first_row
first_state = one_row 0 (keys.Int (pos 0))

first : (level : Level) → CanGoOn (head_line Three level ∷ [])
unfolding first_row
first level = record {
  version = Three;
  trace = record { level = level; initial = first_row ∷ []; events = []; order = [] };
  more = initial_line first_row ∷ order_line [] ∷ end_line ∷ [];
  says = record { initial = ((λ e. cc), (first_state, (((omega arith, record { sfits = omega arith }), tt), tt))); events = tt; order = tt };
  goes = refl;
}

module _ (d : Draft) (right : IsRight d) where
  start : d.version ≡ Three → d.trace.initial ≡ [] → (p : Place) → d.place ≡ p → (es : List Event) → d.trace.events ≡ es → CanGoOn (said d)
  start three none Body at [] empty = subst (λ (ls : List (List ℕ)). CanGoOn ls) (sym said_is) (first d.trace.level) where
    said_is : said d ≡ head_line Three d.trace.level ∷ []
    said_is =
        ap (λ (xs : List (Cell × Value)). head_line d.version d.trace.level ∷ (map initial_line xs ++ (map (event_line d.version) d.trace.events ++ ending d.place d.trace.order))) none
        ∙ ap (λ (es : List Event). head_line d.version d.trace.level ∷ (map (event_line d.version) es ++ ending d.place d.trace.order)) empty
        ∙ ap (λ (p : Place). head_line d.version d.trace.level ∷ ending p d.trace.order) at
        ∙ ap (λ (v : Version). head_line v d.trace.level ∷ []) three
  start three none Body at (e ∷ es) some = absurd (right.begun (inr (λ z. cons_nil (sym some ∙ z))) three none) where
    cons_nil : e ∷ es ≡ [] → ⊥
    cons_nil e = cc
  start three none End at es some = absurd (right.begun (inl (λ b. differ (sym at ∙ b))) three none) where
    differ : End ≡ Body → ⊥
    differ e = cc
  start three none Done at es some = absurd (right.begun (inl (λ b. differ (sym at ∙ b))) three none) where
    differ : Done ≡ Body → ⊥
    differ e = cc

  go : (v : Version) → d.version ≡ v → (rows : List (Cell × Value)) → d.trace.initial ≡ rows → CanGoOn (said d)
  go v is (x ∷ rows) some = by_place d right (initial_in d.version d.trace.initial right.initial (λ three none. cons_nil (sym some ∙ none))) d.place where
    cons_nil : x ∷ rows ≡ [] → ⊥
    cons_nil e = cc
  go One is [] none = by_place d right (initial_in d.version d.trace.initial right.initial (λ three empty. differ (sym is ∙ three))) d.place where
    differ : One ≡ Three → ⊥
    differ e = cc
  go Two is [] none = by_place d right (initial_in d.version d.trace.initial right.initial (λ three empty. differ (sym is ∙ three))) d.place where
    differ : Two ≡ Three → ⊥
    differ e = cc
  go Three is [] none = start is none d.place refl d.trace.events refl

  pub goes_on : CanGoOn (said d)
  goes_on = go d.version refl d.trace.initial refl

-- after the order nothing but the end comes, and after the end nothing

module _ (v : Version) (head : Level) (ord : List ℕ) (fo : AllByRecursion IsU32 ord) (after : List (List ℕ)) where
  past_order : (rows : List (Cell × Value)) (events : List Event) (o : List ℕ) → AllByRecursion IsInitialCell rows → AreEventsIn v head events
      → map initial_line rows ++ (map (event_line v) events ++ (order_line o ∷ end_line ∷ [])) ≡ order_line ord ∷ after → after ≡ end_line ∷ []
  past_order (x ∷ rows) events o fr fe e = absurd (order_not_initial x ord fr.0 fo (cc))
  past_order [] (f ∷ events) o fr fe e = absurd (event_not_order v f ord fe.0.0 fo (cc))
  past_order [] [] o fr fe e = cc

pub no_other_end : (d : Draft) → IsRight d → d.place ≡ End → (text : List ℕ) → (text ≢ end_line) → CanGoOn (said d ++ text ∷ []) → ⊥
no_other_end d right at text other g =
    let s = goes d right (text ∷ []) g in
    other (heads (past_order d.version d.trace.level d.trace.order right.order (text ∷ g.more) s.more_rows s.more_events s.order s.rows_fit s.events_fit
    (s.goes ∙ ap (λ (p : Place). ending p d.trace.order ++ (text ∷ g.more)) at))) where
      heads : {a b : List ℕ} {xs ys : List (List ℕ)} → a ∷ xs ≡ b ∷ ys → a ≡ b
      heads e = cc

pub nothing_after : (d : Draft) → IsRight d → d.place ≡ Done → (text : List ℕ) → CanGoOn (said d ++ text ∷ []) → ⊥
nothing_after d right at text g =
    let s = goes d right (text ∷ []) g in
    longer (past_order d.version d.trace.level d.trace.order right.order (end_line ∷ text ∷ g.more) s.more_rows s.more_events s.order s.rows_fit s.events_fit
    (s.goes ∙ ap (λ (p : Place). ending p d.trace.order ++ (text ∷ g.more)) at)) where
      longer : {a b c : List ℕ} {xs : List (List ℕ)} → a ∷ b ∷ xs ≡ c ∷ [] → ⊥
      longer e = cc

-- what isn't done is no whole text
pub not_whole : (d : Draft) → IsRight d → d.place ≢ Done → (v : Version) (t : Trace) → CanSay v t → said d ≡ lines v t → ⊥
not_whole d right unfinished v t says e = by d.place refl where
  empty : (rows : List (Cell × Value)) (events : List Event) (o : List ℕ) → map initial_line rows ++ (map (event_line d.version) events ++ (order_line o ∷ end_line ∷ [])) ≡ [] → ⊥
  empty (x ∷ rows) events o e = cc
  empty [] (f ∷ events) o e = cc
  empty [] [] o e = cc

  none : (xs : List (List ℕ)) → xs ++ [] ≡ xs
  none [] = refl
  none (x ∷ xs) = ap (λ zs. x ∷ zs) (none xs)

  whole : CanGoOn (said d ++ [])
  whole = record { version = v; trace = t; more = []; says = says; goes = sym e ∙ sym (none (said d)) ∙ sym (none (said d ++ [])) }

  by : (p : Place) → d.place ≡ p → ⊥
  by Body at = let s = goes d right [] whole in
      empty s.more_rows s.more_events s.order (s.goes ∙ ap (λ (p : Place). ending p d.trace.order ++ []) at)
  by End at = let s = goes d right [] whole in
      no_line (past_order d.version d.trace.level d.trace.order right.order [] s.more_rows s.more_events s.order s.rows_fit s.events_fit
      (s.goes ∙ ap (λ (p : Place). ending p d.trace.order ++ []) at)) where
        no_line : {a : List ℕ} → [] ≡ a ∷ [] → ⊥
        no_line e = cc
  by Done at = unfinished at
