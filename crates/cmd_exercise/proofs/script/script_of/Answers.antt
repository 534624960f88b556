use Rattle.std.proofs.Common.{◌≡◌, ◌*◌, ◌++◌, ◌∷◌, [], IfOk, ◌∙◌, ap, subst, arith}
use Rattle.plan_script.specs.Script.{fragment_count}
use Rattle.drm_timeline.specs.Numbers.{frame_count}
use Rattle.cmd_exercise.specs.Exercise.{of_packet, deliveries, plan}
use Rattle.cmd_exercise.proofs.Delivering.{up_to, packet_more, all_delivered}
use Rattle.cmd_exercise.proofs.script.script_of.Goals as goal

pub loop-packet-preserved : goal.loop-packet-preserved
loop-packet-preserved c =
    let count : c.fragments.result ≡ fragment_count (plan c.args.n) c.loop-packet.packet = c.fragments.ensures ∙ ap (λ p. fragment_count p c.loop-packet.packet) c.requires.plan in
    packet_more c.args.n c.loop-packet.packet c.loop-packet.feed c.deliver.new.feed c.loop-packet.invariant
    (c.in_ok-deliver.ensures ∙ ap (λ k. c.loop-packet.feed ++ of_packet c.args.n c.loop-packet.packet k) count)

pub returns : goal.returns
returns c =
    let end : c.frame_count-packet-end.result ≡ 3 * c.args.n = c.frame_count-packet-end.ensures.count ∙ ap frame_count c.requires.plan in
    let last = c.loop-packet-test.false in
    let within = c.loop-packet.auto.packet-end in
    let all : c.loop-packet.packet ≡ 3 * c.args.n = omega (arith, end, last, within) in
    let feed : c.loop-packet.feed ≡ deliveries c.args.n = c.loop-packet.invariant ∙ ap (up_to c.args.n) all ∙ all_delivered c.args.n in
    subst (λ l. IfOk c.of_feed.result (λ script. script ≡ l ∷ [])) feed c.of_feed.ensures
