use Rattle.std.proofs.Common.{string_bytes}
use Rattle.cli_syntax.proofs.WordLemmas.{read-none, first-dashes, first-plain, first-joined, first-apart, first-stray}
use Rattle.cli_syntax.proofs.arguments.first_of.Goals as goal

pub returns-in_default : goal.returns-in_default
returns-in_default c = read-none string_bytes c.args.words.now c.in_default.ensures.cases

pub returns-in-Dashes : goal.returns-in-Dashes
returns-in-Dashes c = first-dashes string_bytes c.args.words.now c.in-Some.rest.now c.in-Some.word.now c.as_str-word.result.now c.in-Some.ensures.cases c.as_str-word.ensures.value c.in-Dashes.ensures

pub returns-in-Plain : goal.returns-in-Plain
returns-in-Plain c = first-plain string_bytes c.args.words.now c.in-Some.rest.now c.in-Some.word.now c.as_str-word.result.now c.in-Some.ensures.cases c.as_str-word.ensures.value c.in-Plain.ensures

pub returns-in-Joined : goal.returns-in-Joined
returns-in-Joined c = first-joined string_bytes c.args.words.now c.in-Some.rest.now c.in-Some.word.now c.as_str-word.result.now c.in-Some.ensures.cases c.as_str-word.ensures.value c.in-Joined.option.name.now c.in-Joined.option.value.now c.in-Joined.ensures

pub returns-in-Apart : goal.returns-in-Apart
returns-in-Apart c = first-apart string_bytes c.args.words.now c.in-Some.rest.now c.in-Some.word.now c.as_str-word.result.now c.in-Some.ensures.cases c.as_str-word.ensures.value c.in-Apart.name.now c.valued.result c.in-Apart.ensures c.valued.ensures

pub returns-in-Stray : goal.returns-in-Stray
returns-in-Stray c = first-stray string_bytes c.args.words.now c.in-Some.rest.now c.in-Some.word.now c.as_str-word.result.now c.in-Some.ensures.cases c.as_str-word.ensures.value c.in-Stray.ensures
