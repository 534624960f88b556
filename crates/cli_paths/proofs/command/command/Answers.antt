use Rattle.std.proofs.Common.{◌≡◌, ap, subst}
use Rattle.std.specs.Prelude.{IfOk}
use Rattle.clap.specs.Simple.{App, app_of, with_rule}
use Rattle.cli_paths.specs.Command.{addresses_rule}
use Rattle.cli_paths.proofs.command.command.Goals as goal

pub returns : goal.returns
returns c =
    let first = subst (λ (app : App). IfOk c.with_addresses-command.result (λ made. app_of made ≡ with_rule app addresses_rule)) c.bare.ensures c.with_addresses-command.ensures in
    c.with_option.ensures _ (c.with_option-command-5.ensures _ (c.with_option-command-4.ensures _ (c.with_option-command-3.ensures _ (c.with_option-command-2.ensures _ (c.with_option-command.ensures _ first)))))
