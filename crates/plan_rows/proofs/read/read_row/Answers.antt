use Rattle.std.proofs.Common.{List, ℕ, sym, subst}
use Rattle.plan_rows.specs.Gives.{GivesValues}
use Rattle.plan_rows.specs.Rows.{spells}
use Rattle.plan_rows.proofs.Reading.{suits_count, words_are, text_is}
use Rattle.plan_rows.proofs.read.read_row.Goals as goal

pub read_fields-requires : goal.read_fields-requires
read_fields-requires c = suits_count c.args.fields.now c.args.words.now (rw (sym (words_are c.args.fields.now c.args.line.now c.args.words.now (sym c.if-not-ends_in_text.ensures))) at c.requires)

pub returns : goal.returns
returns c = subst (λ (ws : List (List ℕ)). GivesValues c.read_fields-2.result (spells c.args.fields.now ws)) (text_is c.args.fields.now c.args.line.now c.args.words.now _ _ (sym c.if-not-ends_in_text.ensures) c.in-len2-up.len_at_least c.behind_two_words.ensures) c.read_fields-2.ensures
