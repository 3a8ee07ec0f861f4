-- Files that weren't read whole.
use Rattle.std.proofs.Common.{◌≡◌, ℕ, ◌+◌, ◌-◌, List, [], ◌∷◌, ◌++◌, inr, ap, ◌∙◌, arith}
use Rattle.std.specs.Prelude.{Some, IfSome}
use Rattle.link_traits.specs.Traffic.{Sight, untouched}
use Rattle.link_traits.specs.Host.{Hosted, bytes_at, handed_out, taken_back, open_file_called, file_returned}
use Rattle.host_calls.specs.declared.reading.FileFault.{FileFault}
use Rattle.host_calls.specs.declared.reading.FileFault.TheVariants as faults
use Rattle.host_calls.specs.Reading.{FileLent, IsReadFault, Unread}

-- what came of a file that was lent, and wasn't read whole
pub unread : (path : List ℕ) (fault : FileFault) (before after : Hosted) (given returned : Sight) → FileLent path before given returned after →
    IsReadFault fault given.read_faults returned.read_faults → Unread path fault before after
unread path faults.Open before after given returned lent is = absurd is
unread path faults.Read before after given returned lent is = record { given = given; returned = returned; lent = lent; rose = is }
unread path faults.Memory before after given returned lent is = inr record { given = given; returned = returned; lent = lent }

-- a file that was handed out and taken back was lent
pub lent_of : (path : List ℕ) (before between after : Hosted) (given returned : Sight) →
    IfSome (bytes_at before.files path) (λ bytes. given.traffic ≡ Some (untouched bytes)) →
    between ≡ handed_out (open_file_called path (Some given)) before → after ≡ taken_back (file_returned returned) between →
    FileLent path before given returned after
lent_of path before between after given returned told out back = record {
  told = told;
  after_is = back ∙ ap (taken_back (file_returned returned)) out ∙ ap (λ (n : ℕ). record before {
    calls = before.calls ++ open_file_called path (Some given) ∷ [];
    back = before.back ++ file_returned returned ∷ [];
    lent = n;
  }) (lent_back before.lent);
}
  where
    lent_back : (n : ℕ) → (n + 1) - 1 ≡ n
    lent_back n = omega arith
