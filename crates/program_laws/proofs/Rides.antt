-- Scripts that agree: from the same past and the same words, two records that they take to an end leave the same.
use Rattle.std.proofs.Common.{◌≡◌, ◌≢◌, inl, inr, Bool, true, false, ℕ, List, [], ◌∷◌, ◌++◌, length, take, refl, sym, ◌∙◌, ap}
use Rattle.std.specs.Prelude.{◌==◌, ◌⊎◌}
use Rattle.std.proofs.lemmas.Bool.{cond-true, cond-false}
use Rattle.history_core.specs.Chronicle.{IsLegalChronicle}
use Rattle.history_core.specs.Events.{defined}
use Rattle.history_book.specs.Book.{Past}
use Rattle.block_machine.specs.Calls.{Call}
use Rattle.block_machine.specs.Script.{Entry, did, refused, short, unsent, stop, has_short, Next, ended, astray, Said, with_bytes, Script, lost, tell, unless_short, unless_unsent}
use Rattle.block_machine.specs.declared.end.End.{End}
use Rattle.block_machine.specs.declared.end.End.TheVariants as ends
use Rattle.session_core.specs.Record.{IsValidRecord}
use Rattle.choice_stream.specs.Choices.{DrawsFirst}
use Rattle.indexed_history.proofs.Cells.{bool_cases}
use Rattle.program_laws.specs.OneHistory.{EndsAlike}

-- the script takes the record to this end; memory didn't run out, and no write fails
pub record Goes (s : Script) (said : Said) (es : List Entry) (out : Said) (end : End) : Type 0 where
  pub is : s said es ≡ (out, ended end)
  pub at_rest : has_short es ≡ false
  pub written : end ≢ ends.WriteFault

-- it only adds calls to those that were asked
abbrev pub Grows : Script → Type 0
Grows s = (said : Said) (es : List Entry) (out : Said) (end : End) → Goes s said es out end → (more : List Call) × (out.calls ≡ said.calls ++ more)

-- the book is alone at its end
pub record IsLast (q : Past) : Type 0 where
  pub legal : IsLegalChronicle q.seen
  pub alone : length q.seen.events ≡ length q.own

-- the same with a valid record, from this past and these words on to others
pub record Rides (s : Script) (said : Said) (es : List Entry) (p : Past) (v : List ℕ) (out : Said) (end : End) (q : Past) (w : List ℕ) : Type 0 where
  pub goes : Goes s said es out end
  pub calls : List Call
  pub asked : out.calls ≡ said.calls ++ calls
  pub valid : IsValidRecord DrawsFirst p v calls es q w
  pub alone : length p.seen.events ≡ length p.own
  pub last : IsLast q

-- two pasts on the way to others have the same initial state and events, and the tables that are defined will be the same
pub record IsNear (a b q r : Past) : Type 0 where
  pub level : a.seen.level ≡ b.seen.level
  pub initial : a.seen.initial ≡ b.seen.initial
  pub events : a.seen.events ≡ b.seen.events
  pub state : a.state ≡ b.state
  pub tables : take (defined a.seen.events) q.seen.tables ≡ take (defined a.seen.events) r.seen.tables

-- what two rides leave
pub record Same (x y : Said) (m n : End) (q r : Past) (w u : List ℕ) : Type 0 where
  pub history : q.seen ≡ r.seen
  pub words : w ≡ u
  pub alike : EndsAlike x.bytes m y.bytes n

-- scripts that agree, but where the first comes to an end of these
pub record Agree (E : End → Type 0) (s t : Script) : Type 0 where
  pub left : Grows s
  pub right : Grows t
  pub same : (said : Said) (ds es : List Entry) (a b : Past) (v : List ℕ) (x y : Said) (m n : End) (q r : Past) (w u : List ℕ) →
      Rides s said ds a v x m q w → Rides t said es b v y n r u → IsNear a b q r → E m ⊎ Same x y m n q r w u

-- ---- scripts that never come to an end

pub astray_ended : (a out : Said) (end : End) → ◌≡◌ {A = Said × Next} (a, astray) (out, ended end) → ⊥
astray_ended a out end is = let both : astray ≡ ended end = ap (λ (x : Said × Next). x.1) is in cc

abbrev pub IsNever : Script → Type 0
IsNever s = (said : Said) (es : List Entry) (out : Said) (end : End) → Goes s said es out end → ⊥

pub lost_never : IsNever lost
lost_never said es out end goes = astray_ended said out end goes.is

pub never_left : (E : End → Type 0) → (s t : Script) → IsNever s → Grows t → Agree E s t
never_left E s t never grows = record {
  left = λ said es out end goes. absurd (never said es out end goes);
  right = grows;
  same = λ said ds es a b v x y m n q r w u one other near. absurd (never said ds x m one.goes);
}

pub never_right : (E : End → Type 0) → (s t : Script) → IsNever t → Grows s → Agree E s t
never_right E s t never grows = record {
  left = grows;
  right = λ said es out end goes. absurd (never said es out end goes);
  same = λ said ds es a b v x y m n q r w u one other near. absurd (never said es y n other.goes);
}

pub lost_agrees : (E : End → Type 0) → Agree E lost lost
lost_agrees E = never_left E lost lost lost_never (λ said es out end goes. absurd (lost_never said es out end goes))

-- ---- scripts that go on as others

-- this script goes on as that one, with more told
abbrev pub Passes : (Said → Said) → Script → Script → Type 0
Passes f s t = (said : Said) (es : List Entry) (out : Said) (end : End) → Goes s said es out end → Goes t (f said) es out end

abbrev pub KeepsCalls : (Said → Said) → Type 0
KeepsCalls f = (said : Said) → (f said).calls ≡ said.calls

grows_passing : (f : Said → Said) (s t : Script) → KeepsCalls f → Passes f s t → Grows t → Grows s
grows_passing f s t keeps passes grows said es out end goes =
    let on = grows (f said) es out end (passes said es out end goes) in
    (on.0, on.1 ∙ ap (λ (cs : List Call). cs ++ on.0) (keeps said))

rides_passing : (f : Said → Said) (s t : Script) → KeepsCalls f → Passes f s t →
    (said : Said) (es : List Entry) (p : Past) (v : List ℕ) (out : Said) (end : End) (q : Past) (w : List ℕ) →
    Rides s said es p v out end q w → Rides t (f said) es p v out end q w
rides_passing f s t keeps passes said es p v out end q w rides = record {
  goes = passes said es out end rides.goes;
  calls = rides.calls;
  asked = rides.asked ∙ ap (λ (cs : List Call). cs ++ rides.calls) (sym (keeps said));
  valid = rides.valid;
  alone = rides.alone;
  last = rides.last;
}

pub agree_passing : (E : End → Type 0) → (f : Said → Said) (s t s_on t_on : Script) → KeepsCalls f → Passes f s s_on → Passes f t t_on → Agree E s_on t_on → Agree E s t
agree_passing E f s t s_on t_on keeps one other agree = record {
  left = grows_passing f s s_on keeps one agree.left;
  right = grows_passing f t t_on keeps other agree.right;
  same = λ said ds es a b v x y m n q r w u left right near.
      agree.same (f said) ds es a b v x y m n q r w u (rides_passing f s s_on keeps one said ds a v x m q w left)
      (rides_passing f t t_on keeps other said es b v y n r u right) near;
}

-- ---- bytes are told

-- the script ends by a failed write alone
abbrev pub Breaks : Script → Type 0
Breaks s = (said : Said) (es : List Entry) (out : Said) (end : End) → s said es ≡ (out, ended end) → end ≡ ends.WriteFault

sends_on : (n : ℕ) (fault rest : Script) → Breaks fault → Passes (λ said. said) (unless_unsent n fault rest) rest
sends_on n fault rest breaks said [] out end goes = record { is = goes.is; at_rest = goes.at_rest; written = goes.written }
sends_on n fault rest breaks said (did a e ∷ es) out end goes = record { is = goes.is; at_rest = goes.at_rest; written = goes.written }
sends_on n fault rest breaks said (refused why ∷ es) out end goes = record { is = goes.is; at_rest = goes.at_rest; written = goes.written }
sends_on n fault rest breaks said (short final k ∷ es) out end goes = record { is = goes.is; at_rest = goes.at_rest; written = goes.written }
sends_on n fault rest breaks said (unsent k ∷ es) out end goes =
    elim (bool_cases (k == n)) [
      | inl same ↦ absurd (goes.written (breaks said es out end (sym (cond-true _ _ _ same) ∙ goes.is)))
      | inr other ↦ record { is = sym (cond-false _ _ _ other) ∙ goes.is; at_rest = goes.at_rest; written = goes.written }
    ]
sends_on n fault rest breaks said (stop cause ∷ es) out end goes = record { is = goes.is; at_rest = goes.at_rest; written = goes.written }

pub tells_on : (bytes : List ℕ) (fault rest : Script) → Breaks fault → Passes (λ said. with_bytes said bytes) (tell bytes fault rest) rest
tells_on bytes fault rest breaks said es out end goes =
    sends_on (length said.bytes) fault rest breaks (with_bytes said bytes) es out end
    (record { is = goes.is; at_rest = goes.at_rest; written = goes.written })

pub tell_agrees : (E : End → Type 0) → (bytes : List ℕ) (fault other s t : Script) → Breaks fault → Breaks other → Agree E s t →
    Agree E (tell bytes fault s) (tell bytes other t)
tell_agrees E bytes fault other s t breaks breaks_too agree =
    agree_passing E (λ said. with_bytes said bytes) (tell bytes fault s) (tell bytes other t) s t (λ said. refl)
    (tells_on bytes fault s breaks) (tells_on bytes other t breaks_too) agree

-- ---- memory didn't run out

pub at_rest_on : (final : Bool) (short_of rest : Script) → Passes (λ said. said) (unless_short final short_of rest) rest
at_rest_on final short_of rest said [] out end goes = record { is = goes.is; at_rest = goes.at_rest; written = goes.written }
at_rest_on final short_of rest said (did a e ∷ es) out end goes = record { is = goes.is; at_rest = goes.at_rest; written = goes.written }
at_rest_on final short_of rest said (refused why ∷ es) out end goes = record { is = goes.is; at_rest = goes.at_rest; written = goes.written }
at_rest_on final short_of rest said (short other k ∷ es) out end goes = absurd (let h : true ≡ false = goes.at_rest in cc)
at_rest_on final short_of rest said (unsent k ∷ es) out end goes = record { is = goes.is; at_rest = goes.at_rest; written = goes.written }
at_rest_on final short_of rest said (stop cause ∷ es) out end goes = record { is = goes.is; at_rest = goes.at_rest; written = goes.written }

pub at_rest_agrees : (E : End → Type 0) → (final : Bool) (one other s t : Script) → Agree E s t → Agree E (unless_short final one s) (unless_short final other t)
at_rest_agrees E final one other s t agree =
    agree_passing E (λ said. said) (unless_short final one s) (unless_short final other t) s t (λ said. refl)
    (at_rest_on final one s) (at_rest_on final other t) agree
