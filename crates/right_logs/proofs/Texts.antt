-- Texts of right histories, put together of their parts.
use Rattle.std.proofs.Common.{◌≡◌, ◌==◌, ℕ, ◌<◌, List, [], ◌∷◌, ◌++◌, Some, Bool, true, false, Result, Ok, Err, length, refl, sym, ap, ◌∙◌, map, subst, arith, append_assoc, append-nil, length-append}
use Rattle.std.proofs.lemmas.Bool.Decides.{nat_tests}
use Rattle.std.specs.Prelude.{IfOk, IfSome, IsTrue, Option, codes}
use Rattle.std.specs.Bool.{then_some}
use Rattle.std.specs.List.{AllByRecursion}
use Rattle.cell_base.specs.declared.level.Level.{Level}
use Rattle.cell_base.specs.declared.memory.Memory.{Memory}
use Rattle.cell_writers.specs.declared.cell_note.CellNotes.{CellNotes}
use Rattle.history_core.specs.declared.event.Event.{Event}
use Rattle.history_core.specs.Relations.{Meets}
use Rattle.history_log.specs.declared.version.Version.{Version}
use Rattle.history_log.specs.declared.version.Version.TheVariants.{One, Two, Three}
use Rattle.history_log.specs.Spelling.{event_line, order_line, head_line, end_line, whole_lines}
use Rattle.history_log.specs.Reading.{IsU32, FitsEvent, IsEventIn, IsEventLine, IsOrderLine}
use Rattle.history_log.specs.Log.{AreEventsIn, IsLog, IsInitialIn}
use Rattle.history_log.specs.Leading.{IsLeading, IsLeadingIn}
use Rattle.history_log.specs.Faults.{HasFewBytes}
use Rattle.order_test.specs.declared.places.Places.{Places}
use Rattle.order_test.specs.Places.{ArePlaces, IsPlaced}
use Rattle.order_test.specs.Unkept.{HoldsAll}
use Rattle.history_log.proofs.Misreads.{all_push}
use Rattle.history_log.proofs.Written.{whole_append}
use Rattle.right_logs.specs.declared.pass.Pass.{Pass}
use Rattle.right_logs.specs.declared.glimpse.Glimpse.{Glimpse}
use Rattle.right_logs.specs.declared.glimpse.Glimpse.TheVariants.{Right, Judged, Unclear}
use Rattle.right_logs.specs.Passes.{StandsFor, Stands}
use Rattle.right_logs.specs.Endings.{IsEnded, IsFirstEvent, IsTaken, AreTaken, AreRightEvents, AreJudgedEvents, AreRightLines, AreJudgedLines}
use Rattle.right_logs.specs.Glimpses.{IsClearlyRight, IsJudgedLog, IsGlimpseOf, IsGlimpseOfEvents, IsGlimpseOfLines}

-- ---- the end

pub ended : (text front end body last : List ℕ) → text ≡ front ++ end → end ≡ codes "\nend\n" → front ≡ body ++ last → IsEnded text body last
ended text front end body last cut is split =
    cut ∙ ap (λ (e : List ℕ). front ++ e) is ∙ ap (λ (f : List ℕ). f ++ codes "\nend\n") split ∙ append_assoc body last (codes "\nend\n")

-- ---- one event

pub leading_first : (v : Version) (head : Level) (event : Event) (text rest : List ℕ) → IsLeading event text rest → IsFirstEvent v head text event rest
leading_first v head event text rest is = (is.fits, (is.anywhere v head, is.line v))

pub begin_first : (v : Version) (head : Level) (event : Event) (text rest : List ℕ) → IsLeadingIn v head event text rest → IsFirstEvent v head text event rest
begin_first v head event text rest is = (is.fits, (is.own, is.line))

pub line_first : (v : Version) (head : Level) (event : Event) (text line rest : List ℕ) → text ≡ line ++ 10 ∷ rest → IsEventLine v head event line → IsFirstEvent v head text event rest
line_first v head event text line rest cut is = (is.0, (is.1, cut ∙ ap (λ (l : List ℕ). l ++ 10 ∷ rest) is.2))

-- what is kept where the pass goes on
pub kept_where : {T : Type 0} (P : T → Type 0) (goes : Bool) (rest : T) (kept : Option T) → kept ≡ then_some goes rest → (IsTrue goes → P rest) → IfSome kept P
kept_where P true rest kept is holds = subst (λ (o : Option _). IfSome o P) (sym is) (holds refl)
kept_where P false rest kept is holds = subst (λ (o : Option _). IfSome o P) (sym is) tt

pub taken_shorter : (v : Version) (head : Level) (places text rest : List ℕ) (old new : Pass) → IsTaken v head places text rest old new → length rest < length text
taken_shorter v head places text rest old new is =
    let long : length text ≡ length (event_line v is.event ++ 10 ∷ rest) = ap length is.first.1.1 in
    omega (arith, long, length-append (event_line v is.event) (10 ∷ rest))

-- ---- events one after another

lines_push : (f : Event → List ℕ) (events : List Event) (event : Event) (rest : List ℕ) → whole_lines (map f (events ++ event ∷ [])) ++ rest ≡ whole_lines (map f events) ++ (f event ++ 10 ∷ rest)
lines_push f [] event rest = append_assoc (f event) (10 ∷ []) rest
lines_push f (e ∷ events) event rest =
    append_assoc (f e) (10 ∷ whole_lines (map f (events ++ event ∷ []))) rest
    ∙ ap (λ (t : List ℕ). f e ++ 10 ∷ t) (lines_push f events event rest)
    ∙ sym (append_assoc (f e) (10 ∷ whole_lines (map f events)) (f event ++ 10 ∷ rest))

pub none_taken : (v : Version) (head : Level) (order places text : List ℕ) (pass : Pass) → StandsFor order places [] pass → AreTaken v head order places text text pass
none_taken v head order places text pass stands = record { events = []; fit = tt; spelled = refl; stands = stands }

pub one_more : (v : Version) (head : Level) (order places text rest after : List ℕ) (old new : Pass) → AreTaken v head order places text rest old → IsTaken v head places rest after old new
    → AreTaken v head order places text after new
one_more v head order places text rest after old new taken next = record {
  events = taken.events ++ next.event ∷ [];
  fit = all_push (λ (event : Event). FitsEvent event × IsEventIn v head event) taken.events next.event taken.fit (next.first.0, next.first.1.0);
  spelled = taken.spelled ∙ ap (λ (r : List ℕ). whole_lines (map (event_line v) taken.events) ++ r) next.first.1.1 ∙ sym (lines_push (event_line v) taken.events next.event after);
  stands = next.goes order taken.events taken.stands;
}

nothing_left : (rest : List ℕ) → true ≡ (length rest == 0) → rest ≡ []
nothing_left [] empty = refl
nothing_left (b ∷ rest) empty = absurd (grind (arith, nat_tests))

pub all_taken : (v : Version) (head : Level) (order places text rest : List ℕ) (pass : Pass) → true ≡ (length rest == 0) → AreTaken v head order places text rest pass
    → AreTaken v head order places text [] pass
all_taken v head order places text rest pass empty taken = subst (λ (r : List ℕ). AreTaken v head order places text r pass) (nothing_left rest empty) taken

pub stands_now : (v : Version) (head : Level) (order places text rest : List ℕ) (pass : Pass) → AreTaken v head order places text rest pass → Stands places pass
stands_now v head order places text rest pass taken = (order, (taken.events, taken.stands))

-- ---- the whole text

module _ (v : Version) (head : Level) (order places text : List ℕ) (pass : Pass) (all : AreTaken v head order places text [] pass) where
  all_spelled : text ≡ whole_lines (map (event_line v) all.events)
  all_spelled = all.spelled ∙ append-nil (whole_lines (map (event_line v) all.events))

  pub met_events : ((is : List ℕ) (events : List Event) → HoldsAll (length places) is → StandsFor is places events pass → Meets events is) → HoldsAll (length places) order
      → AreRightEvents v head text order
  met_events meets holds = record {
    events = all.events;
    fit = all.fit;
    spelled = all_spelled;
    right = all.stands.right;
    meets = meets order all.events holds all.stands;
  }

  pub judged_events : AreJudgedEvents v head text pass.cells
  judged_events = record {
    events = all.events;
    fit = all.fit;
    spelled = all_spelled;
    right = all.stands.right;
    notes = all.stands.cells;
    numbered = all.stands.numbered.are;
  }

own_places : (order places : List ℕ) → ArePlaces (length order) order places → ArePlaces (length places) order places
own_places order places placed = subst (λ (n : ℕ). ArePlaces n order places) (sym placed.count) placed

pub some_order : (order : List ℕ) (places : Places) → IsPlaced (length order) order (Some places) → (own : List ℕ) × ArePlaces (length places.at.items) own places.at.items
some_order order places placed = (order, own_places order places.at.items placed.1)

pub placed_events : (v : Version) (head : Level) (text order : List ℕ) (places : Places) (r : Result Glimpse Memory) → IsPlaced (length order) order (Some places)
    → IfOk r (λ glimpse. (own : List ℕ) → ArePlaces (length places.at.items) own places.at.items → HoldsAll (length places.at.items) own → IsGlimpseOfEvents v head text own glimpse)
    → IfOk r (IsGlimpseOfEvents v head text order)
placed_events v head text order places (Ok glimpse) placed are =
    are order (own_places order places.at.items placed.1) (subst (λ (n : ℕ). HoldsAll n order) (sym placed.1.count) placed.0)
placed_events v head text order places (Err memory) placed are = tt

module _ (v : Version) (head : Level) (text body last order : List ℕ) (end : IsEnded text body last) (said : IsOrderLine order last) where
  said_lines : (events : List Event) → body ≡ whole_lines (map (event_line v) events) → text ≡ whole_lines (map (event_line v) events) ++ (order_line order ++ codes "\nend\n")
  said_lines events spelled =
      end ∙ ap (λ (b : List ℕ). b ++ (last ++ codes "\nend\n")) spelled
      ∙ ap (λ (l : List ℕ). whole_lines (map (event_line v) events) ++ (l ++ codes "\nend\n")) said.1

  right_lines : AreRightEvents v head body order → AreRightLines v head text
  right_lines are = record {
    events = are.events;
    order = order;
    fit = are.fit;
    numbers = said.0;
    spelled = said_lines are.events are.spelled;
    right = are.right;
    meets = are.meets;
  }

  judged_lines : (cells : CellNotes) → AreJudgedEvents v head body cells → AreJudgedLines v head text cells
  judged_lines cells are = record {
    events = are.events;
    order = order;
    fit = are.fit;
    numbers = said.0;
    spelled = said_lines are.events are.spelled;
    right = are.right;
    notes = are.notes;
    numbered = are.numbered;
  }

lines_by : (v : Version) (head : Level) (text body last order : List ℕ) (glimpse : Glimpse) → IsEnded text body last → IsOrderLine order last → IsGlimpseOfEvents v head body order glimpse
    → IsGlimpseOfLines v head text glimpse
lines_by v head text body last order Right end said are = right_lines v head text body last order end said are
lines_by v head text body last order (Judged cells) end said are = judged_lines v head text body last order end said cells are
lines_by v head text body last order Unclear end said are = tt

pub said_lines_by : (v : Version) (head : Level) (text body last order shown : List ℕ) (r : Result Glimpse Memory) → IsEnded text body last → IsOrderLine order last → shown ≡ order
    → IfOk r (IsGlimpseOfEvents v head body shown) → IfOk r (IsGlimpseOfLines v head text)
said_lines_by v head text body last order shown (Ok glimpse) end said is are =
    lines_by v head text body last order glimpse end said (subst (λ (o : List ℕ). IsGlimpseOfEvents v head body o glimpse) is are)
said_lines_by v head text body last order shown (Err memory) end said is are = tt

no_rows : (v : Version) (b : Bool) → b ≡ false → (v ≡ Three → b ≡ true) → IsInitialIn v []
no_rows One b off rows = refl
no_rows Two b off rows = refl
no_rows Three b off rows = absurd (apart b off (rows refl)) where
  apart : (b : Bool) → b ≡ false → b ≡ true → ⊥
  apart b e f = cc

module _ (v : Version) (head : Level) (bytes first rest : List ℕ) (cut : bytes ≡ first ++ 10 ∷ rest) (is : first ≡ head_line v head) (none : IsInitialIn v []) where
  said_log : (events : List Event) (order : List ℕ) → AreEventsIn v head events → AllByRecursion IsU32 order
      → rest ≡ whole_lines (map (event_line v) events) ++ (order_line order ++ codes "\nend\n") → IsLog v (record { level = head; initial = []; events = events; order = order }) bytes
  said_log events order fit numbers spelled = record {
    says = record { initial = none; events = fit; order = numbers };
    text =
        cut ∙ ap (λ (f : List ℕ). f ++ 10 ∷ rest) is
        ∙ ap (λ (r : List ℕ). head_line v head ++ 10 ∷ r) (spelled ∙ sym (whole_append (map (event_line v) events) (order_line order ∷ end_line ∷ [])));
  }

  right_log : HasFewBytes bytes → AreRightLines v head rest → IsClearlyRight bytes
  right_log few lines = record {
    few = few;
    version = v;
    trace = record { level = head; initial = []; events = lines.events; order = lines.order };
    log = said_log lines.events lines.order lines.fit lines.numbers lines.spelled;
    right = record { events = lines.right; order = lines.meets };
  }

  judged_log : (cells : CellNotes) → HasFewBytes bytes → AreJudgedLines v head rest cells → IsJudgedLog bytes cells
  judged_log cells few lines = record {
    few = few;
    version = v;
    trace = record { level = head; initial = []; events = lines.events; order = lines.order };
    log = said_log lines.events lines.order lines.fit lines.numbers lines.spelled;
    right = lines.right;
    notes = lines.notes;
    numbered = lines.numbered;
  }

log_by : (v : Version) (head : Level) (bytes first rest : List ℕ) (glimpse : Glimpse) → bytes ≡ first ++ 10 ∷ rest → first ≡ head_line v head → IsInitialIn v [] → HasFewBytes bytes
    → IsGlimpseOfLines v head rest glimpse → IsGlimpseOf bytes glimpse
log_by v head bytes first rest Right cut is none few lines = right_log v head bytes first rest cut is none few lines
log_by v head bytes first rest (Judged cells) cut is none few lines = judged_log v head bytes first rest cut is none cells few lines
log_by v head bytes first rest Unclear cut is none few lines = tt

pub said_log_by : (v : Version) (head : Level) (bytes first rest : List ℕ) (b : Bool) (r : Result Glimpse Memory) → HasFewBytes bytes → bytes ≡ first ++ 10 ∷ rest → first ≡ head_line v head
    → b ≡ false → (v ≡ Three → b ≡ true) → IfOk r (IsGlimpseOfLines v head rest) → IfOk r (IsGlimpseOf bytes)
said_log_by v head bytes first rest b (Ok glimpse) few cut is off rows lines = log_by v head bytes first rest glimpse cut is (no_rows v b off rows) few lines
said_log_by v head bytes first rest b (Err memory) few cut is off rows lines = tt
