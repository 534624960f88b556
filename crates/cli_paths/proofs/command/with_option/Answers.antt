use Rattle.std.proofs.Common.{rules, ap, ◌≡◌, ◌∙◌, Result, Ok, Err}
use Rattle.std.specs.Prelude.{IfOk}
use Rattle.clap.specs.Walk.{rule_of}
use Rattle.clap.specs.Simple.{app_of, with_rule}
use Rattle.cli_paths.specs.Command.{option_rule}
use Rattle.cli_paths.proofs.command.with_option.Goals as goal

if_ok_more : {T E : Type 0} (r : Result T E) (P Q : T → Type 0) → ((x : T) → P x → Q x) → IfOk r P → IfOk r Q
if_ok_more (Ok x) P Q more is = more x is
if_ok_more (Err e) P Q more is = tt

pub returns : goal.returns
returns c = λ app is.
    let a : rule_of c.action-arg.result ≡ option_rule c.args.name.now = search rules in
    let same : app_of c.in_ok-command.command ≡ app = rw c.in_ok-command.was at is in
    if_ok_more c.arg.result _ _ (λ r adds. adds.shape (search rules) ∙ ap (with_rule (app_of c.in_ok-command.command)) a ∙ ap (λ before. with_rule before (option_rule c.args.name.now)) same) c.arg.ensures
