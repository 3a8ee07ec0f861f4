-- What the loop of `has_user` keeps.
use Rattle.std.proofs.Common.{take}
use Rattle.std.specs.Prelude.{◌↔◌, IsTrue}
use Rattle.session_core.specs.Users.{HasUser}
use Rattle.session_core.proofs.user.has_user.Given as goal

abbrev pub invariant-loop-name : goal.invariant-loop-name
invariant-loop-name l = IsTrue l.has ↔ HasUser (take l.name-index l.pairs)
