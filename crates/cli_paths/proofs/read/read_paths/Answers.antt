use Rattle.std.proofs.Common.{map, string_bytes}
use Rattle.cli_paths.proofs.LineLemmas.{found, only, refused, exact}
use Rattle.cli_paths.proofs.read.read_paths.Goals as goal

pub returns-clause-found : goal.returns-clause-found
returns-clause-found c = found (map string_bytes c.args.words.now) c.read_line.result c.read_line.ensures

pub returns-clause-only : goal.returns-clause-only
returns-clause-only c = only (map string_bytes c.args.words.now) c.read_line.result c.read_line.ensures

pub returns-clause-refused : goal.returns-clause-refused
returns-clause-refused c = refused (map string_bytes c.args.words.now) c.read_line.result c.read_line.ensures

pub returns-clause-exact : goal.returns-clause-exact
returns-clause-exact c = exact (map string_bytes c.args.words.now) c.read_line.result c.read_line.ensures
