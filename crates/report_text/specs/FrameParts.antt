-- The parts of a frame's line, as they are written.
use Rattle.std.specs.Prelude.{ℕ, List}
use Rattle.mdi_items.specs.Frame.{Frame}
use Rattle.report_text.specs.declared.frame_line.LinePart.{LinePart}
use Rattle.report_text.specs.declared.frame_line.LinePart.TheVariants.{Text, Block, Description, Streams}
use Rattle.text_output.specs.Text.{piece_text}
use Rattle.report_text.specs.FrameLine.{block_text, description_text, frame_bytes, bytes_text}

-- the text of a part, in the line of this frame
abbrev pub part_text : Frame → List ℕ → LinePart → List ℕ
part_text frame payload (Text piece) = piece_text piece
part_text frame payload Block = block_text payload frame.sdc
part_text frame payload Description = description_text frame.mux
part_text frame payload Streams = bytes_text (frame_bytes frame payload)
