use Rattle.setup_client.proofs.Spelled.{spelled}
use Rattle.setup_client.proofs.laws.client_is_spelled.Goals as goal

pub returns : goal.returns
returns c = spelled
