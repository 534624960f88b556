-- A plan that a text can give is still one with the bytes of a file.
use Rattle.std.proofs.Common.{◌≡◌, ℕ, zero, suc, List, [], ◌∷◌, length, refl, ap}
use Rattle.std.specs.Prelude.{All}
use Rattle.std.proofs.lemmas.List.Elements.{All-nil, All-cons, All-head, All-tail}
use Rattle.drm_schedule.specs.declared.config.Config.{Config}
use Rattle.drm_schedule.specs.declared.stream.Content.{Content}
use Rattle.drm_schedule.specs.declared.stream.Content.TheVariants.{Fill, File}
use Rattle.drm_schedule.specs.declared.stream.Stream.{Stream}
use Rattle.drm_schedule.specs.declared.plan.Plan.{Plan}
use Rattle.drm_schedule.specs.Ranges.{ContentInLines, StreamInLines, ConfigInLines, InLines}
use Rattle.drm_plan.specs.declared.files.FileRef.{FileRef}
use Rattle.drm_plan.specs.Files.{filled, filled_stream, filled_config, with_file}
use Rattle.drm_plan.specs.Lookup.{changed}

pub changed_length : {X : Type 0} (f : X → X) (k : ℕ) (xs : List X) → length (changed f k xs) ≡ length xs
changed_length f k [] = refl
changed_length f zero (x ∷ xs) = refl
changed_length f (suc k) (x ∷ xs) = ap suc (changed_length f k xs)

pub changed_all : {X : Type 0} (P : X → Type 0) (f : X → X) → ((x : X) → P x → P (f x)) → (k : ℕ) (xs : List X) → All P xs → All P (changed f k xs)
changed_all P f keeps k [] all = All-nil P
changed_all P f keeps zero (x ∷ xs) all = All-cons P (f x) xs (keeps x (All-head P x xs all)) (All-tail P x xs all)
changed_all P f keeps (suc k) (x ∷ xs) all = All-cons P x (changed f k xs) (All-head P x xs all) (changed_all P f keeps k xs (All-tail P x xs all))

filled_fits : (bytes : List ℕ) → (content : Content) → ContentInLines content → ContentInLines (filled bytes content)
filled_fits bytes (Fill byte) fits = fits
filled_fits bytes (File name old) fits = fits

stream_fits : (bytes : List ℕ) → (s : Stream) → StreamInLines s → StreamInLines (filled_stream bytes s)
stream_fits bytes s fits = record { a_fits = fits.a_fits; b_fits = fits.b_fits; not_empty = fits.not_empty; contents = filled_fits bytes s.content fits.contents }

-- as many other streams
pub with_streams : (c : Config) (streams : List Stream) → length streams ≡ length c.streams → All StreamInLines streams → ConfigInLines c → ConfigInLines (record c { streams = streams })
with_streams c streams same each fits =
    record {
      start_fits = fits.start_fits;
      countdown_fits = fits.countdown_fits;
      occupancy_fits = fits.occupancy_fits;
      msc_fits = fits.msc_fits;
      prot_a_fits = fits.prot_a_fits;
      prot_b_fits = fits.prot_b_fits;
      room_fits = fits.room_fits;
      some_service = fits.some_service;
      each_service = fits.each_service;
      some_stream = rw same fits.some_stream;
      few_streams = rw same fits.few_streams;
      each_stream = each;
      clock_fits = fits.clock_fits;
      some_block = fits.some_block;
      few_blocks = fits.few_blocks;
      each_block = fits.each_block;
    }

config_fits : (j : ℕ) (bytes : List ℕ) → (c : Config) → ConfigInLines c → ConfigInLines (filled_config j bytes c)
config_fits j bytes c fits =
    with_streams c (filled_config j bytes c).streams (changed_length (filled_stream bytes) j c.streams)
    (changed_all StreamInLines (filled_stream bytes) (stream_fits bytes) j c.streams fits.each_stream) fits

pub with_file_fits : (file : FileRef) (bytes : List ℕ) (plan : Plan) → InLines plan → InLines (with_file file bytes plan)
with_file_fits file bytes plan fits =
    let same = changed_length (filled_config file.stream bytes) file.config plan.configs in
    record {
      carry_fits = fits.carry_fits;
      seq_fits = fits.seq_fits;
      dlfc_fits = fits.dlfc_fits;
      some_frames = fits.some_frames;
      few_frames = fits.few_frames;
      some_config = rw same fits.some_config;
      few_configs = rw same fits.few_configs;
      each_config = changed_all ConfigInLines (filled_config file.stream bytes) (config_fits file.stream bytes) file.config plan.configs fits.each_config;
    }
