-- How a run ends, by how its conversion ends.
use Rattle.std.proofs.Common.{◌≡◌, Bool, Result, Ok, Err, refl}
use Rattle.capture_reader.specs.declared.packets.CaptureStop.TheVariants as stops
use Rattle.cmd_faults.specs.declared.fault.Fault.TheVariants as faults
use Rattle.cmd_convert.specs.declared.item.ItemError.TheVariants as halt
use Rattle.cmd_convert.specs.declared.reading.ConvertError.{ConvertError}
use Rattle.cmd_convert.specs.declared.reading.ConvertError.TheVariants as unconverted
use Rattle.cmd_convert.specs.Reading.{ending_of}

pub not_memory : (result : Result (Unit {0}) ConvertError) (clean : Bool) → ending_of result clean ≡ Err faults.NoMemory → ⊥
not_memory (Ok done) clean is = cc
not_memory (Err (unconverted.Stopped stops.Read)) clean is = cc
not_memory (Err (unconverted.Stopped (stops.Capture fault))) clean is = cc
not_memory (Err (unconverted.Stopped stops.TooLong)) clean is = cc
not_memory (Err (unconverted.Halted halt.Write)) clean is = cc
not_memory (Err (unconverted.Halted (halt.PacketSize number))) clean is = cc

pub by_read : (result : Result (Unit {0}) ConvertError) (clean : Bool) → ending_of result clean ≡ Err faults.Read → result ≡ Err (unconverted.Stopped stops.Read)
by_read (Ok done) clean is = absurd (cc)
by_read (Err (unconverted.Stopped stops.Read)) clean is = refl
by_read (Err (unconverted.Stopped (stops.Capture fault))) clean is = absurd (cc)
by_read (Err (unconverted.Stopped stops.TooLong)) clean is = absurd (cc)
by_read (Err (unconverted.Halted halt.Write)) clean is = absurd (cc)
by_read (Err (unconverted.Halted (halt.PacketSize number))) clean is = absurd (cc)

pub by_write : (result : Result (Unit {0}) ConvertError) (clean : Bool) → ending_of result clean ≡ Err faults.Write → result ≡ Err (unconverted.Halted halt.Write)
by_write (Ok done) clean is = absurd (cc)
by_write (Err (unconverted.Stopped stops.Read)) clean is = absurd (cc)
by_write (Err (unconverted.Stopped (stops.Capture fault))) clean is = absurd (cc)
by_write (Err (unconverted.Stopped stops.TooLong)) clean is = absurd (cc)
by_write (Err (unconverted.Halted halt.Write)) clean is = refl
by_write (Err (unconverted.Halted (halt.PacketSize number))) clean is = absurd (cc)
