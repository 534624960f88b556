use Rattle.std.proofs.Common.{◌++◌, ◌∷◌, [], ◌∙◌, ap}
use Rattle.drm_links.specs.MemoryLink.{LinkState}
use Rattle.plan_script.specs.declared.delivery.Delivery.{Delivery}
use Rattle.cmd_air.proofs.FeedLemmas.{sent_more}
use Rattle.cmd_air.proofs.air_command.link_for.Goals as goal

pub loop-delivery-preserved : goal.loop-delivery-preserved
loop-delivery-preserved c =
    let i = c.loop-delivery.invariant in
    let brought = c.in_ok-deliver.ensures.brought in
    let none : Delivery = record { packet = 0; fragment = 0 } in (
      i.0 ++ brought.0 ∷ [],
      sent_more c.args.server.now.base c.args.deliveries.now c.loop-delivery.delivery-index none i.0 brought.0 c.loop-delivery-test.true i.1
          (rw (← i.3) brought.1),
      brought.2 ∙ ap (λ (l : LinkState). record l { coming = l.coming ++ brought.0 ∷ [] }) i.2,
      c.in_ok-deliver.ensures.schedule ∙ i.3,
      c.in_ok-deliver.ensures.own,
    )
