use Rattle.std.proofs.Common.{◌≡◌, Some, length, refl, sym, ◌∙◌, subst}
use Rattle.std.proofs.lemmas.Option.{slice_get_read}
use Rattle.order_test.specs.declared.firsts.TableFirsts.{TableFirsts}
use Rattle.order_test.specs.Firsts.{firsts_at, ListsUpTo}
use Rattle.order_test.proofs.firsts.session_is_listed.Goals as goal

pub table_is_listed-requires : goal.table_is_listed-requires
table_is_listed-requires c =
    c.requires.rising c.args.session c.index-all-session.result
    (slice_get_read c.args.all.now (length c.args.all.now) c.args.session c.index-all-session.result refl c.requires.within c.index-all-session.is)

pub returns : goal.returns
returns c = λ h firsts is.
    let here = slice_get_read c.args.all.now (length c.args.all.now) c.args.session c.index-all-session.result refl c.requires.within c.index-all-session.is in
    let both : Some c.index-all-session.result ≡ Some firsts = sym here ∙ is in
    let one : c.index-all-session.result ≡ firsts = cc in
    subst (λ (f : TableFirsts). ListsUpTo (firsts_at f c.args.table) c.args.keys.now c.args.top) one (c.table_is_listed.ensures h)
