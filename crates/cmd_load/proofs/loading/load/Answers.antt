use Rattle.drm_links.specs.declared.shelf.Loaded.TheVariants as loads
use Rattle.cmd_load.proofs.LoadingLemmas.{ReadBy-load}
use Rattle.cmd_load.proofs.loading.load.Goals as goal

pub returns-in-Bytes-clause-reads : goal.returns-in-Bytes-clause-reads
returns-in-Bytes-clause-reads g c =
    ReadBy-load (loads.Bytes c.in-Bytes.bytes) c.args.line c.args.name.now c.args.limit (g.S.Shelf.known c.args.shelf.now) (g.S.Shelf.known c.load.new.self) c.in-Bytes.ensures.file c.in-Bytes.ensures.kept c.in-Bytes.ensures.counts_call

pub returns-in-TooLong-clause-reads : goal.returns-in-TooLong-clause-reads
returns-in-TooLong-clause-reads g c =
    ReadBy-load loads.TooLong c.args.line c.args.name.now c.args.limit (g.S.Shelf.known c.args.shelf.now) (g.S.Shelf.known c.load.new.self) c.in-TooLong.ensures.file c.in-TooLong.ensures.kept c.in-TooLong.ensures.counts_call

pub returns-in-Failed-clause-reads : goal.returns-in-Failed-clause-reads
returns-in-Failed-clause-reads g c =
    ReadBy-load loads.Failed c.args.line c.args.name.now c.args.limit (g.S.Shelf.known c.args.shelf.now) (g.S.Shelf.known c.load.new.self) c.in-Failed.ensures.file c.in-Failed.ensures.kept c.in-Failed.ensures.counts_call

pub returns-in-NoMemory-clause-reads : goal.returns-in-NoMemory-clause-reads
returns-in-NoMemory-clause-reads g c =
    ReadBy-load loads.NoMemory c.args.line c.args.name.now c.args.limit (g.S.Shelf.known c.args.shelf.now) (g.S.Shelf.known c.load.new.self) c.in-NoMemory.ensures.file c.in-NoMemory.ensures.kept c.in-NoMemory.ensures.counts_call
