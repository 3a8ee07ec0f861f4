use Rattle.history_log.proofs.Written.{scan_line}
use Rattle.history_log.proofs.event_lines.put_event.Goals as goal

pub returns-in_ok-put_pair-in-Scan-clause-text : goal.returns-in_ok-put_pair-in-Scan-clause-text
returns-in_ok-put_pair-in-Scan-clause-text c = scan_line _ c.args.event.now c.in-Scan.session c.in-Scan.table c.in-Scan.keys c.as_slice.result.now c.args.out.now.items c.put_pair-in-Scan.new.out.items _
    c.in-Scan.is c.as_slice.ensures c.in_ok-put_pair-in-Scan.ensures.text c.put_keys.ensures.text
