-- Every run over a delivery gives its items.
use Rattle.law_collect.specs.Delivery.{sequence_at}
use Rattle.law_collect.specs.Laws.{Collecting}
use Rattle.law_collect.proofs.Unique.{OneDecoding}
use Rattle.law_collect.proofs.Whole.{collecting_by}
use Rattle.law_collect.proofs.OneReading.{one_reading}
use Rattle.law_collect.proofs.SentCuts.{sent_cut}
use Rattle.law_collect.proofs.Brought.{all_brought}

pub collecting : (one_decoding : OneDecoding) → Collecting
collecting one_decoding carry sequence0 window reach packets first frame_limit first_packet pairs datagrams answers given some heard run =
    let sent = heard.sent in
    collecting_by one_reading carry sequence0 window reach packets first frame_limit first_packet pairs datagrams answers given some sent.few
    (λ p packet at. sent_cut one_decoding carry (sequence_at sequence0 p) packet sent.carried (sent.each p packet at))
    (all_brought carry sequence0 packets sent pairs datagrams heard.delivered) heard.is_first heard.within_span run
