use Rattle.cmd_faults.proofs.fault.Fault.write.Goals as goal

pub returns-in-NoMemory : goal.returns-in-NoMemory
returns-in-NoMemory g c = rw c.in-NoMemory.is c.write_words.ensures

pub returns-in-Words : goal.returns-in-Words
returns-in-Words g c = rw c.in-Words.is c.write_words-in-Words.ensures

pub returns-in-FacLength : goal.returns-in-FacLength
returns-in-FacLength g c = rw c.in-FacLength.is c.write_pieces.ensures

pub returns-in-FacOver : goal.returns-in-FacOver
returns-in-FacOver g c = rw c.in-FacOver.is c.write_words-in-FacOver.ensures

pub returns-in-Schedule : goal.returns-in-Schedule
returns-in-Schedule g c = rw (c.in-Schedule.is, ← c.schedule_pieces.ensures) c.write_pieces-in-Schedule.ensures

pub returns-in-Read : goal.returns-in-Read
returns-in-Read g c = rw c.in-Read.is c.write_words-in-Read.ensures

pub returns-in-Write : goal.returns-in-Write
returns-in-Write g c = rw c.in-Write.is c.write_words-in-Write.ensures

pub returns-in-Link : goal.returns-in-Link
returns-in-Link g c = rw c.in-Link.is c.write_words-in-Link.ensures

pub returns-in-Script : goal.returns-in-Script
returns-in-Script g c = rw (c.in-Script.is, ← c.script_pieces.ensures) c.write_pieces-in-Script.ensures

pub returns-in-Capture : goal.returns-in-Capture
returns-in-Capture g c = rw (c.in-Capture.is, ← c.capture_pieces.ensures) c.write_pieces-in-Capture.ensures

pub returns-in-CaptureTooLong : goal.returns-in-CaptureTooLong
returns-in-CaptureTooLong g c = rw c.in-CaptureTooLong.is c.write_words-in-CaptureTooLong.ensures

pub returns-in-PacketSize : goal.returns-in-PacketSize
returns-in-PacketSize g c = rw c.in-PacketSize.is c.write_pieces-in-PacketSize.ensures

pub returns-in-Units : goal.returns-in-Units
returns-in-Units g c = rw (c.in-Units.is, ← c.units_pieces.ensures) c.write_pieces-in-Units.ensures
