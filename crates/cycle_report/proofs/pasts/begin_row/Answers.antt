use Rattle.std.proofs.Common.{length, refl, ◌∙◌, ap, set, List, ℕ}
use Rattle.std.proofs.lemmas.Option.{slice_get_read}
use Rattle.cycle_report.proofs.pasts.begin_row.Goals as goal

pub returns : goal.returns
returns c =
    record {
      before = c.index-before.result.now;
      is = slice_get_read c.args.rows.now.items (length c.args.rows.now.items) c.args.last c.index-before.result.now refl c.requires.last c.index-before.ensures;
      past = _;
      adds = c.in_ok-push.ensures.items;
      session_is = refl;
      tops = ap (λ (xs : List ℕ). set xs c.args.session c.args.last) (c.in_ok-tops.ensures ∙ c.deref.ensures.value);
    }
