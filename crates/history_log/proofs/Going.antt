-- Which line may come next, and that no other may.
use Rattle.std.proofs.Common.{◌≡◌, ◌≢◌, ◌⊎◌, inl, inr, ℕ, List, [], ◌∷◌, ◌++◌, refl, sym, ap, ◌∙◌, map, subst, append_assoc}
use Rattle.std.specs.Fmt.{decimal}
use Rattle.std.specs.List.{AllByRecursion}
use Rattle.cell_base.specs.declared.cell.Cell.{Cell}
use Rattle.cell_base.specs.declared.level.Level.{Level}
use Rattle.cell_base.specs.declared.value.Value.{Value}
use Rattle.history_core.specs.declared.event.Event.{Event}
use Rattle.history_log.specs.declared.draft.Draft.{Draft}
use Rattle.history_log.specs.declared.draft.Place.{Place}
use Rattle.history_log.specs.declared.draft.Place.TheVariants.{Body}
use Rattle.history_log.specs.declared.keyword.Keyword.{Keyword}
use Rattle.history_log.specs.declared.keyword.Keyword.TheVariants as keywords
use Rattle.history_log.specs.declared.version.Version.{Version}
use Rattle.history_log.specs.declared.version.Version.TheVariants.{One, Two, Three}
use Rattle.history_log.specs.Cut.{cut_at}
use Rattle.history_log.specs.Spelling.{cell_word, value_word, keyword_word, keyword_of, fields, event_line, initial_line, order_line, end_line}
use Rattle.history_log.specs.Reading.{IsU32}
use Rattle.history_log.specs.Log.{IsInitialCell, IsInitialIn, AreEventsIn}
use Rattle.history_log.specs.Draft.{IsRight, IsInitialSoFar, HasInitial, IsNextRow, IsNextEvent, IsNextOrder, said, ending}
use Rattle.history_log.specs.Faults.{CanGoOn}
use Rattle.history_log.proofs.EventForms.{known_as}
use Rattle.history_log.proofs.LineKinds.{event_cut, order_cut, same_keyword}
use Rattle.history_log.proofs.RowLemmas.{state_so_far}
use Rattle.history_log.proofs.Strip.{Goes, goes_after, same_head, row_cut}

regroup : (a b c d e : List (List ℕ)) → ((a ++ (b ++ c)) ++ d) ++ e ≡ a ++ (b ++ (c ++ (d ++ e)))
regroup a b c d e = simp append_assoc

pub cells_so_far : (v : Version) (rows : List (Cell × Value)) → IsInitialSoFar v rows → AllByRecursion IsInitialCell rows
cells_so_far One rows is = subst (λ (ys : List (Cell × Value)). AllByRecursion IsInitialCell ys) (sym is) tt
cells_so_far Two rows is = subst (λ (ys : List (Cell × Value)). AllByRecursion IsInitialCell ys) (sym is) tt
cells_so_far Three rows is = is.1

pub same_events : (v w : Version) (l m : Level) (es : List Event) → v ≡ w → l ≡ m → AreEventsIn v l es → AreEventsIn w m es
same_events v w l m es e f is = subst (λ (x : Version). AreEventsIn x m es) e (subst (λ (x : Level). AreEventsIn v x es) f is)

-- a text that begins as the draft goes on so
pub goes : (d : Draft) → IsRight d → (next : List (List ℕ)) → (g : CanGoOn (said d ++ next))
    → Goes d.version d.trace.level d.trace.initial d.trace.events (ending d.place d.trace.order ++ (next ++ g.more))
goes d right next g =
    let both = same_head g.version d.version g.trace.level d.trace.level (heads g.goes) in
    goes_after d.version d.trace.level g.trace.initial d.trace.initial g.trace.events d.trace.events g.trace.order (ending d.place d.trace.order ++ (next ++ g.more))
    (subst (λ (x : Version). IsInitialIn x g.trace.initial) both.0 g.says.initial) (cells_so_far d.version d.trace.initial right.initial)
    (same_events g.version d.version g.trace.level d.trace.level g.trace.events both.0 both.1 g.says.events) right.events g.says.order
    (subst (λ (x : Version). map initial_line g.trace.initial ++ (map (event_line x) g.trace.events ++ (order_line g.trace.order ∷ end_line ∷ []))
    ≡ ((map initial_line d.trace.initial ++ (map (event_line d.version) d.trace.events ++ ending d.place d.trace.order)) ++ next) ++ g.more) both.0 (tails g.goes)
    ∙ regroup (map initial_line d.trace.initial) (map (event_line d.version) d.trace.events) (ending d.place d.trace.order) next g.more) where
      heads : {a b : List ℕ} {xs ys : List (List ℕ)} → a ∷ xs ≡ b ∷ ys → a ≡ b
      heads e = cc

      tails : {a b : List ℕ} {xs ys : List (List ℕ)} → a ∷ xs ≡ b ∷ ys → xs ≡ ys
      tails e = cc

-- what the next line may be

abbrev pub NextLine : Draft → List ℕ → Type 0
NextLine d text = ((x : Cell × Value) × IsNextRow d x (cell_word x.0 ∷ value_word x.1 ∷ []) × (text ≡ initial_line x))
    ⊎ (((f : Event) × IsNextEvent d (keyword_of f) f (fields d.version f) × (text ≡ event_line d.version f))
    ⊎ ((o : List ℕ) × IsNextOrder d o (map decimal o) × (text ≡ order_line o)))

not_nil : (xs : List (Cell × Value)) (x : Cell × Value) (ys : List (Cell × Value)) → xs ++ x ∷ ys ≡ [] → ⊥
not_nil [] x ys e = cc
not_nil (y ∷ xs) x ys e = cc

is_three : (v : Version) (rows : List (Cell × Value)) (x : Cell × Value) (more : List (Cell × Value)) → IsInitialIn v (rows ++ x ∷ more) → v ≡ Three
is_three One rows x more is = absurd (not_nil rows x more is)
is_three Two rows x more is = absurd (not_nil rows x more is)
is_three Three rows x more is = refl

has_initial : (v : Version) (rows : List (Cell × Value)) → IsInitialIn v (rows ++ []) → HasInitial v rows
has_initial v rows is e3 er = (subst (λ (w : Version). IsInitialIn w (rows ++ [])) e3 is).0 (ap (λ (xs : List (Cell × Value)). xs ++ []) er)

module _ (d : Draft) (text : List ℕ) (more : List (List ℕ)) where
  pick : (rows : List (Cell × Value)) (events : List Event) (o : List ℕ) → IsInitialIn d.version (d.trace.initial ++ rows) → AllByRecursion IsInitialCell rows → AreEventsIn d.version d.trace.level events
      → AllByRecursion IsU32 o → map initial_line rows ++ (map (event_line d.version) events ++ (order_line o ∷ end_line ∷ [])) ≡ text ∷ more → ((rows ≡ []) ⊎ (d.trace.events ≡ [])) → NextLine d text
  pick (x ∷ rows) events o all fr fe fo e either =
      let three = is_three d.version d.trace.initial x rows all in
      let whole = subst (λ (w : Version). IsInitialIn w (d.trace.initial ++ x ∷ rows)) three all in
      inl (x, (three, no_events either, fr.0, state_so_far d.trace.initial x rows whole.1.0, refl), cc) where
        no_events : ((x ∷ rows ≡ []) ⊎ (d.trace.events ≡ [])) → d.trace.events ≡ []
        no_events (inl h) = cc
        no_events (inr h) = h
  pick [] (f ∷ events) o all fr fe fo e either = inr (inl (f, (has_initial d.version d.trace.initial all, (fe.0.0, fe.0.1, refl, refl)), cc))
  pick [] [] o all fr fe fo e either = inr (inr (o, (has_initial d.version d.trace.initial all, (fo, refl)), cc))

pub next_line : (d : Draft) → IsRight d → d.place ≡ Body → (text : List ℕ) → CanGoOn (said d ++ text ∷ []) → NextLine d text
next_line d right body text g =
    let s = goes d right (text ∷ []) g in
    pick d text g.more s.more_rows s.more_events s.order s.all_rows s.rows_fit s.events_fit s.order_fits
    (s.goes ∙ ap (λ (p : Place). ending p d.trace.order ++ (text ∷ g.more)) body) s.either

-- what can't come next

module _ (d : Draft) (text : List ℕ) where
  next_cut : NextLine d text → (k : Keyword) × (ws : List (List ℕ)) × (cut_at 32 text ≡ keyword_word k ∷ ws)
  next_cut (inl n) = (keywords.Initial, cell_word n.0.0 ∷ value_word n.0.1 ∷ [], ap (cut_at 32) n.2 ∙ row_cut n.0 n.1.2)
  next_cut (inr (inl n)) = (keyword_of n.0, fields d.version n.0, ap (cut_at 32) n.2 ∙ event_cut d.version n.0 n.1.1.0)
  next_cut (inr (inr n)) = (keywords.Order, map decimal n.0, ap (cut_at 32) n.2 ∙ order_cut n.0 n.1.1.0)

  pub no_words : cut_at 32 text ≡ [] → NextLine d text → ⊥
  no_words e next = let n = next_cut next in nil (sym e ∙ n.2) where
    nil : {a : List ℕ} {xs : List (List ℕ)} → [] ≡ a ∷ xs → ⊥
    nil e = cc

  pub no_keyword : (word : List ℕ) (ws : List (List ℕ)) → cut_at 32 text ≡ word ∷ ws → ((k : Keyword) → word ≡ keyword_word k → ⊥) → NextLine d text → ⊥
  no_keyword word ws e fails next = let n = next_cut next in fails n.0 (heads (sym e ∙ n.2)) where
    heads : {a b : List ℕ} {xs ys : List (List ℕ)} → a ∷ xs ≡ b ∷ ys → a ≡ b
    heads e = cc

  module _ (k : Keyword) (ws : List (List ℕ)) (cut : cut_at 32 text ≡ keyword_word k ∷ ws) where
    same_words : (j : Keyword) (xs : List (List ℕ)) → cut_at 32 text ≡ keyword_word j ∷ xs → (k ≡ j) × (ws ≡ xs)
    same_words j xs e = (same_keyword k j (heads (sym cut ∙ e)), tails (sym cut ∙ e)) where
      heads : {a b : List ℕ} {xs ys : List (List ℕ)} → a ∷ xs ≡ b ∷ ys → a ≡ b
      heads e = cc

      tails : {a b : List ℕ} {xs ys : List (List ℕ)} → a ∷ xs ≡ b ∷ ys → xs ≡ ys
      tails e = cc

    pub no_row : k ≡ keywords.Initial → ((x : Cell × Value) → IsNextRow d x ws → ⊥) → NextLine d text → ⊥
    no_row is fails (inl n) =
        let s = same_words keywords.Initial (cell_word n.0.0 ∷ value_word n.0.1 ∷ []) (ap (cut_at 32) n.2 ∙ row_cut n.0 n.1.2) in
        fails n.0 (n.1.0, n.1.1, n.1.2, n.1.3, s.1)
    no_row is fails (inr (inl n)) =
        let s = same_words (keyword_of n.0) (fields d.version n.0) (ap (cut_at 32) n.2 ∙ event_cut d.version n.0 n.1.1.0) in
        known_as keywords.Initial n.0 (sym s.0 ∙ is)
    no_row is fails (inr (inr n)) =
        let s = same_words keywords.Order (map decimal n.0) (ap (cut_at 32) n.2 ∙ order_cut n.0 n.1.1.0) in
        differ (sym is ∙ s.0) where
          differ : keywords.Initial ≡ keywords.Order → ⊥
          differ e = cc

    pub no_order : k ≡ keywords.Order → ((o : List ℕ) → IsNextOrder d o ws → ⊥) → NextLine d text → ⊥
    no_order is fails (inl n) =
        let s = same_words keywords.Initial (cell_word n.0.0 ∷ value_word n.0.1 ∷ []) (ap (cut_at 32) n.2 ∙ row_cut n.0 n.1.2) in
        differ (sym is ∙ s.0) where
          differ : keywords.Order ≡ keywords.Initial → ⊥
          differ e = cc
    no_order is fails (inr (inl n)) =
        let s = same_words (keyword_of n.0) (fields d.version n.0) (ap (cut_at 32) n.2 ∙ event_cut d.version n.0 n.1.1.0) in
        known_as keywords.Order n.0 (sym s.0 ∙ is)
    no_order is fails (inr (inr n)) =
        let s = same_words keywords.Order (map decimal n.0) (ap (cut_at 32) n.2 ∙ order_cut n.0 n.1.1.0) in
        fails n.0 (n.1.0, (n.1.1.0, s.1))

    pub no_event : k ≢ keywords.Initial → k ≢ keywords.Order → ((f : Event) → IsNextEvent d k f ws → ⊥) → NextLine d text → ⊥
    no_event ni nord fails (inl n) =
        ni (same_words keywords.Initial (cell_word n.0.0 ∷ value_word n.0.1 ∷ []) (ap (cut_at 32) n.2 ∙ row_cut n.0 n.1.2)).0
    no_event ni nord fails (inr (inl n)) =
        let s = same_words (keyword_of n.0) (fields d.version n.0) (ap (cut_at 32) n.2 ∙ event_cut d.version n.0 n.1.1.0) in
        fails n.0 (n.1.0, (n.1.1.0, n.1.1.1, sym s.0, s.1))
    no_event ni nord fails (inr (inr n)) =
        nord (same_words keywords.Order (map decimal n.0) (ap (cut_at 32) n.2 ∙ order_cut n.0 n.1.1.0)).0
