-- The names that most proofs of a reading cite, passed on from one place. Declares nothing.
pub use Rattle.drm_links.specs.Known.{Known}
pub use Rattle.drm_links.specs.Link.{Answer, Datagram, Idle, Failed, End, datagram_of}
pub use Rattle.drm_links.specs.Source.{Input, InputsBytes}
pub use Rattle.drm_links.specs.Sink.{Output, OutputsText, IsPrefix, IsPrefixBehind}
pub use Rattle.dcp_collect.specs.declared.taken.Taken.{Taken}
pub use Rattle.dcp_collect.specs.CollectorState.{CollectorState, made, ready, after_item, after_finish}
pub use Rattle.dcp_collect.specs.Runs.{CollectorItem, Packet, Lost, Damaged, IsItem, CollectorTakes, CollectorGives, CollectorSteps, CollectorRun, up_to}
pub use Rattle.law_collect.specs.Laws.{GivesSoFar, CollectorInvariant}
pub use Rattle.recv_reading.specs.declared.options.ReceiveOptions.{ReceiveOptions}
pub use Rattle.recv_reading.specs.declared.reason.EndWord.{EndWord}
pub use Rattle.recv_reading.specs.Options.{options_of, capture_options, IsWithinLimits, bounds_of, AreUsable}
pub use Rattle.recv_reading.specs.Ending.{datagrams, CollectorGave, HasGiven, ReadingGoesOn, ReadingEndsBy, IsFinished, IsReadingBroken, HaveEnded}
pub use Rattle.recv_reading.specs.State.{ReadingState, is_full, has_enough, has_ended, ahead, new_reading, word_of}
pub use Rattle.recv_reading.specs.ReadingReached.{ReadingReached, ReadingWaits, ReadsOn}
pub use Rattle.recv_reading.specs.First.{MayBeFirst, KnowsFirst, KeepsFirst, first_of}
