-- Modulators behind gateways.
use Rattle.law_delivery.specs.OtherCarry.{under}
use Rattle.law_gate.specs.Laws.{ComesAgain}
use Rattle.law_agreement.specs.Laws.{TwoModulators}
use Rattle.law_agreement_links.specs.Gateways.{ReachesBehindGateway, TwoBehindGateways, reception}

pub reaches_behind_gateway : ComesAgain → ReachesBehindGateway
reaches_behind_gateway law plan carry m by =
    let (again, arrive) = law (under by.before plan) carry by.rules by.first_frame by.arrivals by.datagrams by.fates by.passed m.received by.among in
    record {
      arrivals = again;
      arrive = arrive;
      receives = λ first_frame (is_first, within, far). record {
        valid = by.passed.other;
        delivery = record { arrive = arrive; is_first = is_first; within_span = within; far = far };
      };
    }

pub two_behind_gateways : ReachesBehindGateway → TwoModulators → TwoBehindGateways
two_behind_gateways reaches modulators plan carry carry' one other headline headline' by by' =
    let this = reaches plan carry one by in
    let that = reaches plan carry' other by' in (
      this,
      that,
      λ first_frame first_frame' can can'.
          modulators one other headline headline' plan (reception carry first_frame this.arrivals) (reception carry' first_frame' that.arrivals)
          (this.receives first_frame can) (that.receives first_frame' can'),
    )
