use Rattle.std.proofs.Common.{◌∙◌, sym, ap, map, string_bytes, option_map}
use Rattle.clap.specs.Simple.{app_of}
use Rattle.clap.specs.Matches.{found_of}
use Rattle.clap.specs.Values.{kind_of}
use Rattle.cli_paths.proofs.ReadLemmas.{not_none, all_given, failed}
use Rattle.cli_paths.proofs.texts.read_texts.Goals as goal

pub returns-in_default : goal.returns-in_default
returns-in_default c =
    not_none (app_of c.in_ok-command.command) (map string_bytes c.args.words.now) (found_of c.in-Ok.matches) c.in_ok-command.ensures c.in-Ok.ensures.kinds (λ simple. (c.in-Ok.ensures.matches simple).0)
    (ap (option_map (λ s. s.now)) (sym c.in_default.is) ∙ c.get_str.ensures)

pub returns-in-Err : goal.returns-in-Err
returns-in-Err c = failed (app_of c.in_ok-command.command) (map string_bytes c.args.words.now) c.in_ok-command.ensures (kind_of c.in-Err.error) c.refusal.result c.in-Err.ensures.kinds c.refusal.ensures

pub returns-in-Some : goal.returns-in-Some
returns-in-Some c =
    all_given (app_of c.in_ok-command.command) (map string_bytes c.args.words.now) (found_of c.in-Ok.matches) c.in_ok-command.ensures c.in-Ok.ensures.kinds (λ simple. (c.in-Ok.ensures.matches simple).0)
    (record {
      addresses = c.in-Some.addresses.now;
      window = option_map (λ s. s.now) c.get_str-window.result;
      reach = option_map (λ s. s.now) c.get_str-reach.result;
      first = option_map (λ s. s.now) c.get_str-first.result;
      frames = option_map (λ s. s.now) c.get_str-frames.result;
      idle = option_map (λ s. s.now) c.get_str-idle.result;
      limit = option_map (λ s. s.now) c.get_str-limit.result;
    }) (ap (option_map (λ s. s.now)) (sym c.in-Some.is) ∙ c.get_str.ensures) c.get_str-window.ensures c.get_str-reach.ensures c.get_str-first.ensures c.get_str-frames.ensures c.get_str-idle.ensures c.get_str-limit.ensures
