use Rattle.history_check.proofs.sources.is_later_writer.Goals as goal

pub returns : goal.returns
returns c = (λ h. (c.requires.exact c.args.number).0 (c.contains.ensures.0 h), λ both. c.contains.ensures.1 ((c.requires.exact c.args.number).1 both))
