use Rattle.client_framing.proofs.Codes.{startup_tells, cancel_tells, request_tells, version_tells}
use Rattle.client_framing.proofs.opening.can_be_body.Goals as goal

pub returns-in-Startup : goal.returns-in-Startup
returns-in-Startup c = startup_tells c.args.kind c.args.size c.args.held.now _ c.in-Startup.is c.can_be_pairs.ensures

pub returns-in-Cancel : goal.returns-in-Cancel
returns-in-Cancel c = cancel_tells c.args.kind c.args.size c.args.held.now c.in-Cancel.is c.requires.fits

pub returns-in-Ssl : goal.returns-in-Ssl
returns-in-Ssl c = request_tells c.args.kind c.args.size c.args.held.now c.in-Ssl.is c.requires.fits

pub returns-in-Version : goal.returns-in-Version
returns-in-Version c = version_tells c.args.kind c.in-Version.field-0 c.args.size c.args.held.now c.in-Version.is c.requires.named c.requires.fits
