use Rattle.order_test.proofs.UnkeptLaws.{kept_none, unkept_one}
use Rattle.order_test.proofs.Prefixed.{prefixes_consistent}
use Rattle.order_test.proofs.laws.order_laws.Goals as goal

pub returns : goal.returns
returns c = record { kept = kept_none; one = unkept_one; prefixes = prefixes_consistent }
