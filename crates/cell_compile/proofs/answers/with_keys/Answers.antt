-- The keys that a scan gives are those that the reading asked for.
use Rattle.std.proofs.Common.{◌∙◌}
use Rattle.std.proofs.lemmas.Result.{IfOk-weaker}
use Rattle.cell_compile.proofs.Courses.{keys_course}
use Rattle.cell_compile.proofs.answers.with_keys.Goals as goal

pub returns-clause-course : goal.returns-clause-course
returns-clause-course c =
    let a = c.in-Scan-Reads in
    let n = c.in_ok-purpose-in-Scan-Reads in
    let course = keys_course c.args.demand c.args.next a.field-0-0 a.reading a.purpose n.purpose c.args.keys n.step c.with_keys.result
    a.is-0 a.is-1 n.ensures.same n.ensures.taken c.with_keys.ensures.course in
    IfOk-weaker c.after_step.result _ _ (λ plan h. h ∙ course) c.after_step.ensures.course
