use Rattle.std.proofs.Common.{◌≡◌, ℕ, sym, ◌∙◌, ap, subst}
use Rattle.std.specs.Prelude.{IfOk}
use Rattle.drm_sdc.specs.Reading.{body_from}
use Rattle.drm_sdc.proofs.read_body.read_body.Goals as goal

pub returns-in-0 : goal.returns-in-0
returns-in-0 c = c.read_description.ensures ∙ sym (ap (λ (kind : ℕ). body_from kind c.args.bits.now c.args.bytes.now) c.in-0.is)

pub returns-in-1 : goal.returns-in-1
returns-in-1 c = subst (λ (kind : ℕ). IfOk c.read_label.result (λ b. b ≡ body_from kind c.args.bits.now c.args.bytes.now)) (sym c.in-1.is) c.read_label.ensures

pub returns-in-3 : goal.returns-in-3
returns-in-3 c = subst (λ (kind : ℕ). IfOk c.read_frequencies.result (λ b. b ≡ body_from kind c.args.bits.now c.args.bytes.now)) (sym c.in-3.is) c.read_frequencies.ensures

pub returns-in-4 : goal.returns-in-4
returns-in-4 c = c.read_when.ensures ∙ sym (ap (λ (kind : ℕ). body_from kind c.args.bits.now c.args.bytes.now) c.in-4.is)

pub returns-in-5 : goal.returns-in-5
returns-in-5 c = subst (λ (kind : ℕ). IfOk c.read_application.result (λ b. b ≡ body_from kind c.args.bits.now c.args.bytes.now)) (sym c.in-5.is) c.read_application.ensures

pub returns-in-8 : goal.returns-in-8
returns-in-8 c = c.read_time.ensures ∙ sym (ap (λ (kind : ℕ). body_from kind c.args.bits.now c.args.bytes.now) c.in-8.is)

pub returns-in-9 : goal.returns-in-9
returns-in-9 c = subst (λ (kind : ℕ). IfOk c.read_audio.result (λ b. b ≡ body_from kind c.args.bits.now c.args.bytes.now)) (sym c.in-9.is) c.read_audio.ensures

pub returns-in-10 : goal.returns-in-10
returns-in-10 c = c.read_next.ensures ∙ sym (ap (λ (kind : ℕ). body_from kind c.args.bits.now c.args.bytes.now) c.in-10.is)

pub returns-in-12 : goal.returns-in-12
returns-in-12 c = c.read_language.ensures ∙ sym (ap (λ (kind : ℕ). body_from kind c.args.bits.now c.args.bytes.now) c.in-12.is)
