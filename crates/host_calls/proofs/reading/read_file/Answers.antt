use Rattle.std.proofs.Common.{rules, ap, ◌∙◌, inl, Err}
use Rattle.link_traits.specs.Traffic.{sight_of}
use Rattle.link_traits.specs.Host.{objects_out}
use Rattle.host_calls.proofs.Faults.{lent_of, unread}
use Rattle.host_calls.proofs.reading.read_file.Goals as goal

pub returns-in-Err-Failed-clause-err : goal.returns-in-Err-Failed-clause-err
returns-in-Err-Failed-clause-err g c = c.in-Err-Failed.ensures.failed (ap Err c.in-Err-Failed.field-0-is)

pub returns-in-Err-Failed-clause-none_out : goal.returns-in-Err-Failed-clause-none_out
returns-in-Err-Failed-clause-none_out g c = ap objects_out (c.in-Err-Failed.ensures.failed (ap Err c.in-Err-Failed.field-0-is)) ∙ c.requires.none_out

pub returns-in-Err-Memory-clause-err : goal.returns-in-Err-Memory-clause-err
returns-in-Err-Memory-clause-err g c = inl (c.in-Err-Memory.ensures.memory (ap Err c.in-Err-Memory.field-0-is))

pub returns-in-Err-Memory-clause-none_out : goal.returns-in-Err-Memory-clause-none_out
returns-in-Err-Memory-clause-none_out g c = ap objects_out (c.in-Err-Memory.ensures.memory (ap Err c.in-Err-Memory.field-0-is)) ∙ c.requires.none_out

pub returns-in_err-read-clause-err : goal.returns-in_err-read-clause-err
returns-in_err-read-clause-err g c =
    let sight = sight_of g.H.File.Sides.traffic g.H.File.Sides.read_faults g.H.File.Sides.write_faults in
    let why = unread c.args.path.now c.in_err-read.field-0.0 (g.H.Host.hosted c.args.host.now) (g.H.Host.hosted c.file_back.new.self)
    (sight c.in-Ok.file) (sight c.read_on-read.new.source)
    (lent_of c.args.path.now (g.H.Host.hosted c.args.host.now) (g.H.Host.hosted c.open_file.new.self) (g.H.Host.hosted c.file_back.new.self)
    (sight c.in-Ok.file) (sight c.read_on-read.new.source) c.in-Ok.ensures.told c.in-Ok.ensures.ok c.file_back.ensures.back)
    c.in_err-read.ensures.fault in
    search (rules, why)
