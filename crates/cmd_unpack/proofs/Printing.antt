-- What is printed of items that were taken.
use Rattle.std.proofs.Common.{ℕ, List}
use Rattle.mod_feed.specs.Items.{FrameItem}
use Rattle.cmd_unpack.specs.declared.taker.Taker.{Taker}
use Rattle.cmd_unpack.specs.declared.taker.Taker.TheVariants.{Units, Messages}
use Rattle.cmd_unpack.specs.Streams.{PayloadKind, UnitsOf, TextsOf}
use Rattle.cmd_unpack.specs.Printed.{IsPrinted}
use Rattle.cmd_unpack.specs.Taken.{TakerTook}

pub printed : (what : PayloadKind) (items : List FrameItem) (text : List ℕ) (taker : Taker) → TakerTook what items text taker → IsPrinted what items text
printed (UnitsOf k id d) items text (Units t) took = (took.events, took.are, took.line_is)
printed (UnitsOf k id d) items text (Messages t) took = absurd took
printed (TextsOf k) items text (Units t) took = absurd took
printed (TextsOf k) items text (Messages t) took = (took.texts, t.joiner, took.runs, took.text_is)
