-- The texts that the code holds.
use Rattle.std.specs.Prelude.{option_map}
use Rattle.cli_paths.specs.declared.texts.Texts.{Texts}
use Rattle.cli_paths.specs.CommandTexts.{CommandTexts}

abbrev pub texts_said : Texts → CommandTexts
texts_said t = record {
  addresses = t.addresses.now;
  window = option_map (λ s. s.now) t.window;
  reach = option_map (λ s. s.now) t.reach;
  first = option_map (λ s. s.now) t.first;
  frames = option_map (λ s. s.now) t.frames;
  idle = option_map (λ s. s.now) t.idle;
  limit = option_map (λ s. s.now) t.limit;
}
