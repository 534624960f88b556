use Rattle.cmd_paths.proofs.fault.PathsFault.write.Goals as goal

pub returns-in-NoMemory : goal.returns-in-NoMemory
returns-in-NoMemory g c = rw c.in-NoMemory.is c.write_words.ensures

pub returns-in-Words : goal.returns-in-Words
returns-in-Words g c = rw c.in-Words.is c.write_words-in-Words.ensures

pub returns-in-Write : goal.returns-in-Write
returns-in-Write g c = rw c.in-Write.is c.write_words-in-Write.ensures

pub returns-in-Link : goal.returns-in-Link
returns-in-Link g c = rw c.in-Link.is c.write_words-in-Link.ensures

pub returns-in-Differs : goal.returns-in-Differs
returns-in-Differs g c = rw (c.in-Differs.is, ← c.from.ensures) c.write_pieces.ensures
