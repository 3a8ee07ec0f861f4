-- What is read are the lists.
use Rattle.select_typing.proofs.select.mentioned_in.Goals as goal

pub returns : goal.returns
returns c = rw (c.as_slice.ensures, c.as_slice-2.ensures, c.as_slice-3.ensures) at c.mentioned.ensures
