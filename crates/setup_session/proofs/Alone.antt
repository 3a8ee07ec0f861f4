-- The session of a setup is alone with its book.
use Rattle.std.proofs.Common.{◌≡◌, ℕ, List, [], ◌++◌, Some, refl, sym, ◌∙◌, ap, subst}
use Rattle.cell_base.specs.declared.level.Level.TheVariants as levels
use Rattle.link_traits.specs.Traffic.{Traffic, Sight}
use Rattle.history_core.specs.Chronicle.{IsLegalChronicle}
use Rattle.history_book.specs.Book.{Past, no_session}
use Rattle.session_core.specs.declared.served.Served.{Served}
use Rattle.session_core.specs.Serve.{Scene, scene_of, Account, Serves}
use Rattle.session_core.proofs.ValidRecords.{keeps_start}
use Rattle.choice_stream.specs.Choices.{DrawsFirst}
use Rattle.valid_writes.specs.Owning.{OwnsAllThatComes}
use Rattle.setup_client.specs.Client.{link_of}
use Rattle.setup_session.specs.Setups.{no_past, Ran}

-- a run with its account
abbrev pub Run : Scene (List ℕ) → Served → Scene (List ℕ) → Type 0
Run before outcome after = (account : Account) × Serves DrawsFirst levels.Cc before outcome after account

-- what the link tells after the session
abbrev pub seen_after : Traffic → ℕ → ℕ → Sight
seen_after traffic read_faults write_faults = record { traffic = Some traffic; read_faults = read_faults; write_faults = write_faults }

from_nothing : (text : List ℕ) (outcome : Served) (q : Past) (rest : List ℕ) (t : Traffic) (r w : ℕ) →
    Run (scene_of no_past [] (link_of text)) outcome (scene_of q rest (seen_after t r w)) → q.own ≡ q.seen.events → IsLegalChronicle q.seen →
    q.state ≡ no_session → Ran text outcome t.written q.seen
from_nothing text outcome q rest t r w (account, serves) own legal closed =
    let keeps = keeps_start DrawsFirst no_past [] account.calls account.entries q rest serves.valid in
    record {
      past = q;
      rest = rest;
      after = seen_after t r w;
      traffic = t;
      account = account;
      serves = serves;
      traffic_is = refl;
      told_is = refl;
      history_is = refl;
      level_is = keeps.level;
      initial = keeps.initial;
      legal = legal;
      events = sym own ∙ serves.own;
      closed = closed;
    }

-- a book that had no event, and alone adds events, has all of them
owns_all : (p q : Past) → p ≡ no_past → OwnsAllThatComes p q → q.own ≡ q.seen.events
owns_all p q is owns =
    owns.own ∙ ap (λ (x : Past). x.own ++ owns.added) is ∙ sym (owns.seen ∙ ap (λ (x : Past). x.seen.events ++ owns.added) is)

pub ran_alone : (text : List ℕ) (p : Past) (v : List ℕ) (f : Sight) (outcome : Served) (q : Past) (rest : List ℕ) (t : Traffic) (r w : ℕ) →
    p ≡ no_past → v ≡ [] → f ≡ link_of text → Run (scene_of p v f) outcome (scene_of q rest (seen_after t r w)) → OwnsAllThatComes p q →
    IsLegalChronicle q.seen → q.state ≡ no_session → Ran text outcome t.written q.seen
ran_alone text p v f outcome q rest t r w is words_are link_is run owns legal closed =
    from_nothing text outcome q rest t r w
    (subst (λ (x : Past). Run (scene_of x [] (link_of text)) outcome (scene_of q rest (seen_after t r w))) is
    (subst (λ (ws : List ℕ). Run (scene_of p ws (link_of text)) outcome (scene_of q rest (seen_after t r w))) words_are
    (subst (λ (s : Sight). Run (scene_of p v s) outcome (scene_of q rest (seen_after t r w))) link_is run)))
    (owns_all p q is owns) legal closed
