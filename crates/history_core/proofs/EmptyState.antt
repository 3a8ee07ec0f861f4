-- Without an initial state a scan lists just the keys that were written.
use Rattle.std.proofs.Common.{◌≡◌, ℕ, ◌+◌, ◌<◌, List, [], arith, inl, inr, ◌⊎◌, ◌↔◌}
use Rattle.std.specs.List.{Contains}
use Rattle.cell_base.specs.declared.key.Key.{Key}
use Rattle.history_core.specs.declared.event.Event.{Event}
use Rattle.history_core.specs.Initial.{IsThereInitially}
use Rattle.history_core.specs.Legal.{ListsKeys, ListsWrittenKeys}

none_there : (table : ℕ) (key : Key) → IsThereInitially [] table key → ⊥
none_there table key (n, within, is) = absurd (omega arith)

pub lists_written : (events : List Event) (session table : ℕ) (keys : List Key) → ListsKeys [] events session table keys → ListsWrittenKeys events session table keys
lists_written events session table keys lists = record {
  ascending = lists.ascending;
  listed = λ key. (
    λ member. elim ((lists.listed key).0 member) [ inl there ↦ absurd (none_there table key there) | inr written ↦ written ],
    λ written. (lists.listed key).1 (inr written),
  );
}

pub lists_keys : (events : List Event) (session table : ℕ) (keys : List Key) → ListsWrittenKeys events session table keys → ListsKeys [] events session table keys
lists_keys events session table keys lists = record {
  ascending = lists.ascending;
  listed = λ key. (
    λ member. inr ((lists.listed key).0 member),
    λ either. elim either [ inl there ↦ absurd (none_there table key there) | inr written ↦ (lists.listed key).1 written ],
  );
}
