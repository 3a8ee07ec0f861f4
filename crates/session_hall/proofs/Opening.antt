-- A hall of whose clients nothing was heard yet.
use Rattle.std.proofs.Common.{◌≡◌, ℕ, zero, suc, List, [], ◌∷◌, ◌++◌, length, take, refl, sym, ◌∙◌, ap, subst, arith, Option, Some, None, inl}
use Rattle.std.specs.Prelude.{slice_get}
use Rattle.std.proofs.lemmas.List.{append-nil}
use Rattle.std.proofs.lemmas.List.Elements.{All-nil}
use Rattle.cell_base.specs.declared.level.Level.{Level}
use Rattle.history_core.specs.Chronicle.{IsLegalChronicle}
use Rattle.block_machine.specs.Runners.{tables_of}
use Rattle.block_machine.specs.declared.end.End.{End}
use Rattle.session_core.specs.declared.phase.Phase.TheVariants as phases
use Rattle.session_core.specs.declared.session.Session.{Session}
use Rattle.session_core.specs.declared.stage.SessionStage.{SessionStage}
use Rattle.session_core.specs.declared.stage.SessionStage.TheVariants as stages
use Rattle.session_core.specs.Stands.{IsFit, Lacks, outer, served_of, wants}
use Rattle.session_core.specs.Sessions.{Stands}
use Rattle.session_core.proofs.Grows.{IsAsked, Shows-stands}
use Rattle.session_core.proofs.Serving.{sits_new}
use Rattle.valid_writes.specs.Beginnings.{empty_history, no_past}
use Rattle.session_hall.specs.declared.client.Client.{Client}
use Rattle.session_hall.specs.declared.hall.Hall.{Hall}
use Rattle.session_hall.specs.declared.seat.Seat.{Seat}
use Rattle.session_hall.specs.Accounts.{nothing}
use Rattle.session_hall.specs.Seats.{Attends, IsFrom, ShowsEnd, TellsAll}
use Rattle.session_hall.specs.Halls.{Along, AreSeated, IsSeated, StandsFor}
use Rattle.session_hall.proofs.Later.{goes_same}
use Rattle.session_hall.proofs.Serving.{serves_of}
use Rattle.session_hall.proofs.Turning.{laid_none, none_fault}

tells_new : (s : Session) → s.stage ≡ stages.Waiting phases.Startup → TellsAll s
tells_new s is taken es asked sent st =
    let not_running : s.stage ≡ stages.Running →
    IsAsked s.runner = λ e. absurd (let clash : stages.Waiting phases.Startup ≡ stages.Running = sym is ∙ e in cc clash) in
    Shows-stands s.stage s.runner s.startup.items s.frames taken es asked sent not_running st.stage

attends_new : (level : Level) (client : Client) (s : Seat) → Stands s.session [] [] [] [] → s.session.stage ≡ stages.Waiting phases.Startup →
    served_of s.session.runner ≡ level → tables_of s.session.runner ≡ [] → IsFit s.session.runner → s.words ≡ client.words.items →
    s.stream.items ≡ client.stream.items → s.at ≡ 0 → s.sent.items ≡ [] → Attends level (empty_history level) client nothing s
attends_new level client s stands stage served tables fit words stream at sent =
    let none : outer s.session.stage ≡ None = ap outer stage in
    record {
      follows = record {
        stands = stands;
        served_level = served;
        past = no_past level;
        valid = (refl, words);
        lives = record { goes_on = goes_same (no_past level); own = refl; state = tt; number_is = λ has. absurd has; was_opened = tt };
        sits = sits_new s.session (no_past level) stage tables fit refl;
        away = λ _. inl refl;
      };
      carries = record {
        stream_is = stream;
        taken = ap (λ (k : ℕ). take k client.stream.items) (sym at);
        sent = sym (append-nil s.sent.items ∙ sent);
        lacks = subst (λ (x : SessionStage). Lacks x []) (sym stage) refl;
        last = inl refl;
        laid = laid_none client.stream.items [] (outer s.session.stage) none;
        causes = All-nil (IsFrom client.stream.items [] (outer s.session.stage));
        unsent_is = λ fault. absurd (none_fault (outer s.session.stage) none fault);
      };
    }

pub seated_new : (level : Level) (client : Client) (s : Seat) → Stands s.session [] [] [] [] → s.session.stage ≡ stages.Waiting phases.Startup →
    served_of s.session.runner ≡ level → tables_of s.session.runner ≡ [] → IsFit s.session.runner → s.words ≡ client.words.items →
    s.stream.items ≡ client.stream.items → s.at ≡ 0 → s.sent.items ≡ [] → s.end ≡ None → IsSeated level (empty_history level) client nothing s
seated_new level client s stands stage served tables fit words stream at sent end =
    let attends : Attends level (empty_history level) client nothing s = attends_new level client s stands stage served tables fit words stream at sent in
    let shows : ShowsEnd s.end (wants s.session.stage s.session.runner) =
    subst (λ (o : Option End). ShowsEnd o (wants s.session.stage s.session.runner)) (sym end)
    (subst (λ (x : SessionStage). ShowsEnd None (wants x s.session.runner)) (sym stage) tt) in
    record {
      attends = attends;
      shows = shows;
      resting = λ _. none_fault (outer s.session.stage) (ap outer stage);
      served = serves_of level (empty_history level) client nothing s attends shows (λ _. none_fault (outer s.session.stage) (ap outer stage))
          (tells_new s.session stage);
    }

-- ---- the seats, one after another

pub along_push : {X Y : Type 0} (P : X → Y → Type 0) (xs : List X) (ys : List Y) (x : X) (y : Y) → Along P xs ys → P x y →
    Along P (xs ++ x ∷ []) (ys ++ y ∷ [])
along_push P [] [] x y along is = (is, tt)
along_push P (a ∷ xs) (b ∷ ys) x y along is = (along.0, along_push P xs ys x y along.1 is)
along_push P [] (b ∷ ys) x y along is = absurd along
along_push P (a ∷ xs) [] x y along is = absurd along

along_count : {X Y : Type 0} (P : X → Y → Type 0) (xs : List X) (ys : List Y) → Along P xs ys → length ys ≡ length xs
along_count P [] [] along = refl
along_count P (a ∷ xs) (b ∷ ys) along = let rest = along_count P xs ys along.1 in omega (arith, rest)
along_count P [] (b ∷ ys) along = absurd along
along_count P (a ∷ xs) [] along = absurd along

pub some_item : {X : Type 0} (x y : X) → Some x ≡ Some y → x ≡ y
some_item x y is = cc is

along_each : {X Y : Type 0} (P : X → Y → Type 0) (xs : List X) (ys : List Y) → Along P xs ys → (k : ℕ) (x : X) (y : Y) →
    slice_get xs k ≡ Some x → slice_get ys k ≡ Some y → P x y
along_each P [] [] along k x y x_is y_is = absurd (cc x_is)
along_each P (a ∷ xs) (b ∷ ys) along zero x y x_is y_is =
    subst (λ (z : _). P z y) (some_item a x x_is) (subst (λ (z : _). P a z) (some_item b y y_is) along.0)
along_each P (a ∷ xs) (b ∷ ys) along (suc k) x y x_is y_is = along_each P xs ys along.1 k x y x_is y_is
along_each P [] (b ∷ ys) along k x y x_is y_is = absurd along
along_each P (a ∷ xs) [] along k x y x_is y_is = absurd along

-- no session was opened yet
pub hall_new : (level : Level) (clients : List Client) (hall : Hall) → hall.store ≡ Some (empty_history level) → IsLegalChronicle (empty_history level) →
    AreSeated level clients hall.seats.items → StandsFor level (empty_history level) clients (λ k. nothing) hall
hall_new level clients hall store legal are = record {
  store = store;
  level_is = refl;
  initial = refl;
  legal = legal;
  count = along_count (λ (c : Client) (s : Seat). IsSeated level (empty_history level) c nothing s) clients hall.seats.items are;
  each = along_each (λ (c : Client) (s : Seat). IsSeated level (empty_history level) c nothing s) clients hall.seats.items are;
  owned = λ e has. absurd (omega (arith, has.1));
  apart = λ j k s inside_j inside_k number_j number_k. absurd (cc number_j);
}
