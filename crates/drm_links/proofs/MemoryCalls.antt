-- What a source, a sink and a shelf in memory tell before and after a call, by what the call does.
use Rattle.std.proofs.Common.{◌≡◌, ℕ, ◌^◌, Bool, true, false, List, drop, nat_le, None, Some, if◌then◌else◌, refl, arith}
use Rattle.std.proofs.lemmas.Bool.Decides.{nat_tests}
use Rattle.drm_links.specs.Known.{HasCause, CountsCall, CountsOneCall, IfBothKnown, contents_for, one_more}
use Rattle.drm_links.specs.Source.{Input, SourceTakes}
use Rattle.drm_links.specs.Sink.{Output, SinkAppends}
use Rattle.drm_links.specs.Shelf.{Files, ShelfLoads, KeepsFiles, IsFileWithin}
use Rattle.drm_links.specs.MemorySource.{SourceState, source_known, MemSourceReads}
use Rattle.drm_links.specs.MemorySink.{SinkState, sink_known, MemSinkWrites}
use Rattle.drm_links.specs.MemoryShelf.{ShelfState, contents_of, shelf_known, shelf_after}
use Rattle.drm_links.specs.declared.source.ReadOut.{ReadOut}
use Rattle.drm_links.specs.declared.source.ReadOut.TheVariants as read
use Rattle.drm_links.specs.declared.sink.WriteOut.{WriteOut}
use Rattle.drm_links.specs.declared.sink.WriteOut.TheVariants as write
use Rattle.drm_links.specs.declared.shelf.Loaded.{Loaded}
use Rattle.drm_links.specs.declared.shelf.Loaded.TheVariants.{Bytes, TooLong, Failed, NoMemory}
use Rattle.drm_links.proofs.KnownLemmas.{counts_one, counts_none}
use Rattle.drm_links.proofs.MemoryLemmas.{both_known_for, Takes-from_front}

-- ---- one call more

counts_if : {T : Type 0} (calls : T → ℕ) (told : ℕ) (x y : T) (before after : Bool) → nat_le told (2 ^ 62) ≡ before → nat_le (one_more told) (2 ^ 62) ≡ after
    → calls x ≡ told → calls y ≡ one_more told → CountsOneCall calls (if before then Some x else None) (if after then Some y else None)
counts_if calls told x y true true some more is_x is_y = (grind (arith, nat_tests), grind (arith, nat_tests))
counts_if calls told x y true false some more is_x is_y = grind (arith, nat_tests)
counts_if calls told x y false true some more is_x is_y = absurd (grind (arith, nat_tests))
counts_if calls told x y false false some more is_x is_y = refl

counts_for : {T : Type 0} (calls : T → ℕ) (told : ℕ) (x y : T) → calls x ≡ told → calls y ≡ one_more told → CountsOneCall calls (contents_for told x) (contents_for (one_more told) y)
counts_for calls told x y = counts_if calls told x y _ _ refl refl

-- ---- a source

module _ (old new : List ℕ) (s t : SourceState) where
  pub read_bytes : (result : ReadOut) → MemSourceReads result old new s t → IfBothKnown (source_known s) (source_known t) (SourceTakes result new)
  read_bytes (read.Got n) (listed, some, is, bytes, after) =
      rw after (Takes-from_front s.left (drop n s.left) (drop n old) new s.calls (one_more s.calls) n (omega (arith, is)) bytes refl)
  read_bytes read.End (listed, none, same, after) =
      rw after (both_known_for s.calls (one_more s.calls) _ _ (SourceTakes read.End new) (λ _. (none, none)))
  read_bytes read.Failed (listed, same, after) =
      rw after (both_known_for s.calls (one_more s.calls) _ _ (SourceTakes read.Failed new) (λ _. refl))

  pub read_counts : (result : ReadOut) → MemSourceReads result old new s t → CountsCall (λ (input : Input). input.calls) (source_known s) (source_known t)
  read_counts (read.Got n) (listed, some, is, bytes, after) = rw after (counts_for (λ (input : Input). input.calls) s.calls _ _ refl refl)
  read_counts read.End (listed, none, same, after) = rw after (counts_for (λ (input : Input). input.calls) s.calls _ _ refl refl)
  read_counts read.Failed (listed, same, after) = rw after (counts_for (λ (input : Input). input.calls) s.calls _ _ refl refl)

  pub read_cause : (result : ReadOut) → MemSourceReads result old new s t → HasCause (source_known s) (source_known t) (result ≡ read.Failed)
  read_cause (read.Got n) (listed, some, is, bytes, after) = rw after (counts_none (λ failed. cc) refl)
  read_cause read.End (listed, none, same, after) = rw after (counts_none (λ failed. cc) refl)
  read_cause read.Failed (listed, same, after) = rw after (counts_one refl refl)

-- ---- a sink

module _ (bytes : List ℕ) (s t : SinkState) where
  pub write_appends : (result : WriteOut) → MemSinkWrites result bytes s t → IfBothKnown (sink_known s) (sink_known t) (SinkAppends result bytes)
  write_appends (write.Wrote n) (listed, room, is, after) = rw after (both_known_for s.calls (one_more s.calls) _ _ (SinkAppends (write.Wrote n) bytes) (λ _. refl))
  write_appends write.Failed (why, after) = rw after (both_known_for s.calls (one_more s.calls) _ _ (SinkAppends write.Failed bytes) (λ _. refl))

  pub write_counts : (result : WriteOut) → MemSinkWrites result bytes s t → CountsCall (λ (output : Output). output.calls) (sink_known s) (sink_known t)
  write_counts (write.Wrote n) (listed, room, is, after) = rw after (counts_for (λ (output : Output). output.calls) s.calls _ _ refl refl)
  write_counts write.Failed (why, after) = rw after (counts_for (λ (output : Output). output.calls) s.calls _ _ refl refl)

  pub write_cause : (result : WriteOut) → MemSinkWrites result bytes s t → HasCause (sink_known s) (sink_known t) (result ≡ write.Failed)
  write_cause (write.Wrote n) (listed, room, is, after) = rw after (counts_none (λ failed. cc) refl)
  write_cause write.Failed (why, after) = rw after (counts_one refl refl)

-- ---- a shelf

pub load_within : (loaded : Loaded) (name : List ℕ) (limit : ℕ) (contents : Files) → ShelfLoads loaded name limit contents → IsFileWithin loaded limit
load_within (Bytes octets) name limit contents loads = loads.1.1
load_within TooLong name limit contents loads = tt
load_within Failed name limit contents loads = tt
load_within NoMemory name limit contents loads = tt

module _ (loaded : Loaded) (name : List ℕ) (s t : ShelfState) (after : t ≡ shelf_after loaded name s) where
  pub load_file : (limit : ℕ) → ShelfLoads loaded name limit (contents_of s) → IfBothKnown (shelf_known s) (shelf_known t) (λ before _. ShelfLoads loaded name limit before)
  load_file limit loads = rw after (both_known_for s.loads (one_more s.loads) _ _ (λ before _. ShelfLoads loaded name limit before) (λ _. loads))

  pub load_keeps : IfBothKnown (shelf_known s) (shelf_known t) (KeepsFiles loaded name)
  load_keeps = rw after (both_known_for s.loads (one_more s.loads) _ _ (KeepsFiles loaded name) (λ _. record { files = refl; failing = refl; names = refl }))

  pub load_counts : CountsCall (λ (files : Files). files.loads) (shelf_known s) (shelf_known t)
  load_counts = rw after (counts_for (λ (files : Files). files.loads) s.loads _ _ refl refl)

pub load_cause : (loaded : Loaded) (name : List ℕ) (s t : ShelfState) → t ≡ shelf_after loaded name s → HasCause (shelf_known s) (shelf_known t) (loaded ≡ Failed)
load_cause (Bytes octets) name s t after = rw after (counts_none (λ failed. cc) refl)
load_cause TooLong name s t after = rw after (counts_none (λ failed. cc) refl)
load_cause Failed name s t after = rw after (counts_one refl refl)
load_cause NoMemory name s t after = rw after (counts_none (λ failed. cc) refl)
