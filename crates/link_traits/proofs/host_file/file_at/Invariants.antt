use Rattle.std.proofs.Common.{◌≡◌, drop}
use Rattle.link_traits.specs.Host.{bytes_at}
use Rattle.link_traits.proofs.host_file.file_at.Given as goal

abbrev pub invariant-loop-file : goal.invariant-loop-file
invariant-loop-file l = bytes_at l.files l.path ≡ bytes_at (drop l.file-index l.files) l.path
