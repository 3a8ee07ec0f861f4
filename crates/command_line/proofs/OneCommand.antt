-- The same words are one command.
use Rattle.std.proofs.Common.{◌≡◌, ◌∙◌, inl, inr, ℕ, List, ap, sym, subst, refl}
use Rattle.std.specs.Prelude.{Bool, Some, codes, unwrap_or}
use Rattle.clap.specs.Words.{Row, first_of}
use Rattle.command_line.specs.Commands.{GivesPipe, GivesServe, GivesCheck, GivesSim, default_address, OneCommand}
use Rattle.command_line.specs.declared.arguments.Name.TheVariants as names
use Rattle.command_line.specs.declared.reading.CommandLine.TheVariants as lines
use Rattle.command_line.proofs.Asking.{no_help, no_version, help_same, not_both_asked}
use Rattle.command_line.proofs.Names.{other, said_same}
use Rattle.command_line.proofs.One.{pipe_same, serve_same, sim_same, flag_same}

check_same : (said : List Row) (a b : List ℕ) (v w : Bool) → GivesCheck said a v → GivesCheck said b w → lines.Check a v ≡ lines.Check b w
check_same said a b v w p q =
    let both : Some a ≡ Some b = sym p.path_is ∙ q.path_is in
    let path : a ≡ b = cc in
    let wide : v ≡ w = flag_same (first_of (codes "wide") said) v w p.wide_is q.wide_is in
    ap (λ (x : List ℕ). lines.Check x v) path ∙ ap (lines.Check b) wide

pub one_command : OneCommand
one_command args (lines.Pipe a) (lines.Pipe b) h k =
    ap lines.Pipe (pipe_same h.0 a b h.2 (subst (λ (r : List Row). GivesPipe r b.level b.words) (said_same names.Pipe args k.0 h.0 k.1 h.1) k.2))
one_command args (lines.Pipe a) (lines.Serve b) h k = absurd (other names.Pipe names.Serve args h.0 k.0 (λ e. absurd (cc)) h.1 k.1)
one_command args (lines.Pipe a) (lines.Check b w) h k = absurd (other names.Pipe names.Check args h.0 k.0 (λ e. absurd (cc)) h.1 k.1)
one_command args (lines.Pipe a) (lines.Judge b) h k = absurd (other names.Pipe names.Judge args h.0 k.0 (λ e. absurd (cc)) h.1 k.1)
one_command args (lines.Pipe a) (lines.Sim b) h k = absurd (other names.Pipe names.Sim args h.0 k.0 (λ e. absurd (cc)) h.1 k.1)
one_command args (lines.Pipe a) (lines.Stop b) h k = absurd (other names.Pipe names.Stop args h.0 k.0 (λ e. absurd (cc)) h.1 k.1)
one_command args (lines.Pipe a) (lines.Help b) h k = absurd (no_help names.Pipe args h.0 b h.1 k)
one_command args (lines.Pipe a) lines.Version h k = absurd (no_version names.Pipe args h.0 h.1 k)
one_command args (lines.Pipe a) lines.Unknown h k = absurd (k.no_pipe a.level a.words h)
one_command args (lines.Serve a) (lines.Pipe b) h k = absurd (other names.Serve names.Pipe args h.0 k.0 (λ e. absurd (cc)) h.1 k.1)
one_command args (lines.Serve a) (lines.Serve b) h k =
    ap lines.Serve (serve_same h.0 a b h.2 (subst (λ (r : List Row). GivesServe r b) (said_same names.Serve args k.0 h.0 k.1 h.1) k.2))
one_command args (lines.Serve a) (lines.Check b w) h k = absurd (other names.Serve names.Check args h.0 k.0 (λ e. absurd (cc)) h.1 k.1)
one_command args (lines.Serve a) (lines.Judge b) h k = absurd (other names.Serve names.Judge args h.0 k.0 (λ e. absurd (cc)) h.1 k.1)
one_command args (lines.Serve a) (lines.Sim b) h k = absurd (other names.Serve names.Sim args h.0 k.0 (λ e. absurd (cc)) h.1 k.1)
one_command args (lines.Serve a) (lines.Stop b) h k = absurd (other names.Serve names.Stop args h.0 k.0 (λ e. absurd (cc)) h.1 k.1)
one_command args (lines.Serve a) (lines.Help b) h k = absurd (no_help names.Serve args h.0 b h.1 k)
one_command args (lines.Serve a) lines.Version h k = absurd (no_version names.Serve args h.0 h.1 k)
one_command args (lines.Serve a) lines.Unknown h k = absurd (k.no_serve a h)
one_command args (lines.Check a v) (lines.Pipe b) h k = absurd (other names.Check names.Pipe args h.0 k.0 (λ e. absurd (cc)) h.1 k.1)
one_command args (lines.Check a v) (lines.Serve b) h k = absurd (other names.Check names.Serve args h.0 k.0 (λ e. absurd (cc)) h.1 k.1)
one_command args (lines.Check a v) (lines.Check b w) h k =
    check_same h.0 a b v w h.2 (subst (λ (r : List Row). GivesCheck r b w) (said_same names.Check args k.0 h.0 k.1 h.1) k.2)
one_command args (lines.Check a v) (lines.Judge b) h k = absurd (other names.Check names.Judge args h.0 k.0 (λ e. absurd (cc)) h.1 k.1)
one_command args (lines.Check a v) (lines.Sim b) h k = absurd (other names.Check names.Sim args h.0 k.0 (λ e. absurd (cc)) h.1 k.1)
one_command args (lines.Check a v) (lines.Stop b) h k = absurd (other names.Check names.Stop args h.0 k.0 (λ e. absurd (cc)) h.1 k.1)
one_command args (lines.Check a v) (lines.Help b) h k = absurd (no_help names.Check args h.0 b h.1 k)
one_command args (lines.Check a v) lines.Version h k = absurd (no_version names.Check args h.0 h.1 k)
one_command args (lines.Check a v) lines.Unknown h k = absurd (k.no_check a v h)
one_command args (lines.Judge a) (lines.Pipe b) h k = absurd (other names.Judge names.Pipe args h.0 k.0 (λ e. absurd (cc)) h.1 k.1)
one_command args (lines.Judge a) (lines.Serve b) h k = absurd (other names.Judge names.Serve args h.0 k.0 (λ e. absurd (cc)) h.1 k.1)
one_command args (lines.Judge a) (lines.Check b w) h k = absurd (other names.Judge names.Check args h.0 k.0 (λ e. absurd (cc)) h.1 k.1)
one_command args (lines.Judge a) (lines.Judge b) h k =
    let both : Some a ≡ Some b = sym h.2 ∙ ap (first_of (codes "path")) (said_same names.Judge args h.0 k.0 h.1 k.1) ∙ k.2 in
    let same : a ≡ b = cc in
    ap lines.Judge same
one_command args (lines.Judge a) (lines.Sim b) h k = absurd (other names.Judge names.Sim args h.0 k.0 (λ e. absurd (cc)) h.1 k.1)
one_command args (lines.Judge a) (lines.Stop b) h k = absurd (other names.Judge names.Stop args h.0 k.0 (λ e. absurd (cc)) h.1 k.1)
one_command args (lines.Judge a) (lines.Help b) h k = absurd (no_help names.Judge args h.0 b h.1 k)
one_command args (lines.Judge a) lines.Version h k = absurd (no_version names.Judge args h.0 h.1 k)
one_command args (lines.Judge a) lines.Unknown h k = absurd (k.no_judge a h)
one_command args (lines.Sim a) (lines.Pipe b) h k = absurd (other names.Sim names.Pipe args h.0 k.0 (λ e. absurd (cc)) h.1 k.1)
one_command args (lines.Sim a) (lines.Serve b) h k = absurd (other names.Sim names.Serve args h.0 k.0 (λ e. absurd (cc)) h.1 k.1)
one_command args (lines.Sim a) (lines.Check b w) h k = absurd (other names.Sim names.Check args h.0 k.0 (λ e. absurd (cc)) h.1 k.1)
one_command args (lines.Sim a) (lines.Judge b) h k = absurd (other names.Sim names.Judge args h.0 k.0 (λ e. absurd (cc)) h.1 k.1)
one_command args (lines.Sim a) (lines.Sim b) h k =
    ap lines.Sim (sim_same h.0 a b h.2
    (subst (λ (r : List Row). GivesSim r b.level b.seed b.sessions b.queries b.log) (said_same names.Sim args k.0 h.0 k.1 h.1) k.2))
one_command args (lines.Sim a) (lines.Stop b) h k = absurd (other names.Sim names.Stop args h.0 k.0 (λ e. absurd (cc)) h.1 k.1)
one_command args (lines.Sim a) (lines.Help b) h k = absurd (no_help names.Sim args h.0 b h.1 k)
one_command args (lines.Sim a) lines.Version h k = absurd (no_version names.Sim args h.0 h.1 k)
one_command args (lines.Sim a) lines.Unknown h k = absurd (k.no_sim a.level a.seed a.sessions a.queries a.log h)
one_command args (lines.Stop a) (lines.Pipe b) h k = absurd (other names.Stop names.Pipe args h.0 k.0 (λ e. absurd (cc)) h.1 k.1)
one_command args (lines.Stop a) (lines.Serve b) h k = absurd (other names.Stop names.Serve args h.0 k.0 (λ e. absurd (cc)) h.1 k.1)
one_command args (lines.Stop a) (lines.Check b w) h k = absurd (other names.Stop names.Check args h.0 k.0 (λ e. absurd (cc)) h.1 k.1)
one_command args (lines.Stop a) (lines.Judge b) h k = absurd (other names.Stop names.Judge args h.0 k.0 (λ e. absurd (cc)) h.1 k.1)
one_command args (lines.Stop a) (lines.Sim b) h k = absurd (other names.Stop names.Sim args h.0 k.0 (λ e. absurd (cc)) h.1 k.1)
one_command args (lines.Stop a) (lines.Stop b) h k =
    let given = ap (λ (r : List Row). unwrap_or (first_of (codes "address") r) default_address) (said_same names.Stop args h.0 k.0 h.1 k.1) in
    ap lines.Stop (h.2 ∙ given ∙ sym k.2)
one_command args (lines.Stop a) (lines.Help b) h k = absurd (no_help names.Stop args h.0 b h.1 k)
one_command args (lines.Stop a) lines.Version h k = absurd (no_version names.Stop args h.0 h.1 k)
one_command args (lines.Stop a) lines.Unknown h k = absurd (k.no_stop a h)
one_command args (lines.Help a) (lines.Pipe b) h k = absurd (no_help names.Pipe args k.0 a k.1 h)
one_command args (lines.Help a) (lines.Serve b) h k = absurd (no_help names.Serve args k.0 a k.1 h)
one_command args (lines.Help a) (lines.Check b w) h k = absurd (no_help names.Check args k.0 a k.1 h)
one_command args (lines.Help a) (lines.Judge b) h k = absurd (no_help names.Judge args k.0 a k.1 h)
one_command args (lines.Help a) (lines.Sim b) h k = absurd (no_help names.Sim args k.0 a k.1 h)
one_command args (lines.Help a) (lines.Stop b) h k = absurd (no_help names.Stop args k.0 a k.1 h)
one_command args (lines.Help a) (lines.Help b) h k = ap lines.Help (help_same args a b h k)
one_command args (lines.Help a) lines.Version h k = absurd (not_both_asked args a h k)
one_command args (lines.Help a) lines.Unknown h k = absurd (k.asks_nothing (inl (a, h)))
one_command args lines.Version (lines.Pipe b) h k = absurd (no_version names.Pipe args k.0 k.1 h)
one_command args lines.Version (lines.Serve b) h k = absurd (no_version names.Serve args k.0 k.1 h)
one_command args lines.Version (lines.Check b w) h k = absurd (no_version names.Check args k.0 k.1 h)
one_command args lines.Version (lines.Judge b) h k = absurd (no_version names.Judge args k.0 k.1 h)
one_command args lines.Version (lines.Sim b) h k = absurd (no_version names.Sim args k.0 k.1 h)
one_command args lines.Version (lines.Stop b) h k = absurd (no_version names.Stop args k.0 k.1 h)
one_command args lines.Version (lines.Help b) h k = absurd (not_both_asked args b k h)
one_command args lines.Version lines.Version h k = refl
one_command args lines.Version lines.Unknown h k = absurd (k.asks_nothing (inr h))
one_command args lines.Unknown (lines.Pipe b) h k = absurd (h.no_pipe b.level b.words k)
one_command args lines.Unknown (lines.Serve b) h k = absurd (h.no_serve b k)
one_command args lines.Unknown (lines.Check b w) h k = absurd (h.no_check b w k)
one_command args lines.Unknown (lines.Judge b) h k = absurd (h.no_judge b k)
one_command args lines.Unknown (lines.Sim b) h k = absurd (h.no_sim b.level b.seed b.sessions b.queries b.log k)
one_command args lines.Unknown (lines.Stop b) h k = absurd (h.no_stop b k)
one_command args lines.Unknown (lines.Help b) h k = absurd (h.asks_nothing (inl (b, k)))
one_command args lines.Unknown lines.Version h k = absurd (h.asks_nothing (inr k))
one_command args lines.Unknown lines.Unknown h k = refl
