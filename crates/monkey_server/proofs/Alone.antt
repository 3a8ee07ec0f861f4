-- A session that is alone with its book.
use Rattle.std.proofs.Common.{◌≡◌, ℕ, List, ◌++◌, sym, ◌∙◌, ap, subst}
use Rattle.cell_base.specs.declared.level.Level.{Level}
use Rattle.link_traits.specs.Traffic.{Sight}
use Rattle.history_core.specs.Chronicle.{IsLegalChronicle}
use Rattle.history_book.specs.Book.{Past, no_session}
use Rattle.session_core.specs.declared.served.Served.{Served}
use Rattle.session_core.specs.Serve.{Scene, scene_of, Account, Serves}
use Rattle.session_core.proofs.ValidRecords.{keeps_start}
use Rattle.choice_stream.specs.Choices.{DrawsFirst}
use Rattle.valid_writes.specs.Owning.{OwnsAllThatComes}
use Rattle.monkey_server.specs.Program.{no_past, ServesAlone}

-- a run with its account
abbrev pub Run : Level → Scene (List ℕ) → Served → Scene (List ℕ) → Type 0
Run level before outcome after = (account : Account) × Serves DrawsFirst level before outcome after account

from_nothing : (level : Level) (words : List ℕ) (f : Sight) (outcome : Served) (q : Past) (rest : List ℕ) (g : Sight) →
    Run level (scene_of (no_past level) words f) outcome (scene_of q rest g) → q.own ≡ q.seen.events → IsLegalChronicle q.seen →
    q.state ≡ no_session → ServesAlone level words f outcome g
from_nothing level words f outcome q rest g (account, serves) own legal closed =
    let keeps = keeps_start DrawsFirst (no_past level) words account.calls account.entries q rest serves.valid in
    record {
      past = q;
      rest = rest;
      account = account;
      serves = serves;
      level_is = keeps.level;
      initial = keeps.initial;
      legal = legal;
      events = sym own ∙ serves.own;
      closed = closed;
    }

-- a book that had no event, and alone adds events, has all of them
owns_all : (level : Level) (p q : Past) → p ≡ no_past level → OwnsAllThatComes p q → q.own ≡ q.seen.events
owns_all level p q is owns =
    owns.own ∙ ap (λ (x : Past). x.own ++ owns.added) is ∙ sym (owns.seen ∙ ap (λ (x : Past). x.seen.events ++ owns.added) is)

pub serves_alone : (level : Level) (p : Past) (words v : List ℕ) (f : Sight) (outcome : Served) (q : Past) (rest : List ℕ) (g : Sight) →
    p ≡ no_past level → v ≡ words → Run level (scene_of p v f) outcome (scene_of q rest g) → OwnsAllThatComes p q →
    IsLegalChronicle q.seen → q.state ≡ no_session → ServesAlone level words f outcome g
serves_alone level p words v f outcome q rest g is words_are run owns legal closed =
    from_nothing level words f outcome q rest g
    (subst (λ (x : Past). Run level (scene_of x words f) outcome (scene_of q rest g)) is
    (subst (λ (ws : List ℕ). Run level (scene_of p ws f) outcome (scene_of q rest g)) words_are run))
    (owns_all level p q is owns) legal closed
