-- What changes in what a session knows: the level of the server never does, and the tables by a look alone.
use Rattle.std.proofs.Common.{◌≡◌, ap, inl, inr}
use Rattle.block_machine.specs.Knowledge.{Knowledge}
use Rattle.block_machine.specs.Stages.{IsKnownAfter, IsSameButLevel}
use Rattle.block_machine.specs.declared.call.Answer.{Answer}
use Rattle.block_machine.specs.declared.call.Answer.TheVariants as answers

pub served_kept : (known after : Knowledge) → IsSameButLevel known after → after.served ≡ known.served
served_kept known after is = ap (λ (k : Knowledge). k.served) is

pub tables_kept : (known after : Knowledge) → IsSameButLevel known after → after.tables ≡ known.tables
tables_kept known after is = ap (λ (k : Knowledge). k.tables) is

-- nothing more is known after an answer
pub known_kept : (known : Knowledge) (a : Answer) (after : Knowledge) → after ≡ known → IsKnownAfter known a after
known_kept known (answers.Looked tables) after same = inl same
known_kept known _ after same = same

pub served_answered : (known : Knowledge) (a : Answer) (after : Knowledge) → IsKnownAfter known a after → after.served ≡ known.served
served_answered known (answers.Looked tables) after (inl same) = ap (λ (k : Knowledge). k.served) same
served_answered known (answers.Looked tables) after (inr more) = ap (λ (k : Knowledge). k.served) more
served_answered known _ after same = ap (λ (k : Knowledge). k.served) same
