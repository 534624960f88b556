use Rattle.std.proofs.Common.{◌++◌, ◌∷◌, [], subst}
use Rattle.drm_links.specs.Link.{Failed}
use Rattle.recv_reading.specs.Source.{StopsReading}
use Rattle.recv_reading.proofs.reading.Reading.read_packet.Goals as goal

pub returns-in-Err-Capture-clause-reads : goal.returns-in-Err-Capture-clause-reads
returns-in-Err-Capture-clause-reads g c = λ start options answers taken during more so_far z.
    let reads = c.in-Err-Capture.ensures.reads start options answers taken during more so_far z in (
      subst (λ fault. StopsReading fault (g.I.Source.known start) (g.I.Source.known c.read_on.new.from) (answers ++ Failed ∷ [])) c.in-Err-Capture.field-0-is reads.0,
      reads.1,
      reads.2,
    )
