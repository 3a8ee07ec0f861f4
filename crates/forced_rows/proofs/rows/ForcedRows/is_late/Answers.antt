use Rattle.forced_rows.proofs.rows.ForcedRows.is_late.Goals as goal

pub returns-then-is_in_sight : goal.returns-then-is_in_sight
returns-then-is_in_sight c = λ at. (
  λ on. record {
    later = c.requires.some;
    rival = (c.breaks_scan.ensures at).0 on;
    new = c.is_in_sight.ensures.0 c.if-is_in_sight.true;
  },
  λ late. (c.breaks_scan.ensures at).1 late.rival,
)
