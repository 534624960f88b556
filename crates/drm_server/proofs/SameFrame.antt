-- What is sent or written of a frame that a server has loaded is that of the frame of each schedule that has it.
use Rattle.std.proofs.Common.{◌≡◌, ◌+◌, ◌%◌, ◌^◌, ◌<◌, ℕ, Bool, zero, suc, List, length, Some, None, ap, sym, ◌∙◌, subst}
use Rattle.drm_links.specs.Known.{Known}
use Rattle.drm_links.specs.Sink.{Output, OutputsText}
use Rattle.drm_links.proofs.KnownLemmas.{OutputsText-weaker}
use Rattle.drm_schedule.specs.declared.live.Live.{Live}
use Rattle.drm_schedule.specs.declared.plan.Plan.{Plan}
use Rattle.drm_schedule.specs.Valid.{IsSchedule}
use Rattle.dcp_pft.specs.declared.carry.Carry.{Carry}
use Rattle.dcp_pft.specs.Carrying.{datagram_count, CarriesPacket}
use Rattle.drm_timeline.specs.Numbers.{frame_count, sequence_number}
use Rattle.live_streams.specs.Live.{LivePieces, AreWhole, piece_at, live_schedule}
use Rattle.live_streams.proofs.FrameLemmas.{same_carry, same_seq}
use Rattle.drm_server.specs.Datagrams.{HasDatagrams, IsDatagramAt, AreFirst, AreOfFrame}
use Rattle.drm_links.specs.History.{History}
use Rattle.drm_server.specs.Serving.{ServesFrame}
use Rattle.drm_server.specs.Gathering.{WroteFrame, IsPrefixOfFrame}
use Rattle.drm_server.specs.ServerState.{ServerState, HasFrame, only_at}
use Rattle.drm_server.proofs.LiveLemmas.{only_here, only_whole, same_frame, plain_frame, empty_frame}

-- the frame of a schedule whose live streams have what came for each frame, where this piece came for the one that is loaded
module _ (live : Live) (given : LivePieces) (base : Plan) (t : ℕ) (valid : IsSchedule base) (whole : AreWhole live given base) (within : t < frame_count base) where
  pub live_has : (piece : List ℕ) → given t ≡ Some piece → HasFrame (record { base = base; plan = live_schedule live (only_at t piece) base; frame = t }) (live_schedule live given base)
  live_has piece input = record {
    carry = same_carry live given base ∙ sym (same_carry live (only_at t piece) base);
    seq = same_seq live given base ∙ sym (same_seq live (only_at t piece) base);
    packet = same_frame live (only_at t piece) given base t valid (only_whole live base t piece (whole t piece input)) whole within (only_here t piece ∙ sym input);
  }

  -- where none came for it
  pub plain_has : given t ≡ None → HasFrame (record { base = base; plan = base; frame = t }) (live_schedule live given base)
  plain_has nothing = record { carry = same_carry live given base; seq = same_seq live given base; packet = plain_frame live given base t valid whole within nothing }

  -- and where it has no bytes to be given, whatever came
  pub empty_has : piece_at live base t ≡ 0 → HasFrame (record { base = base; plan = base; frame = t }) (live_schedule live given base)
  empty_has empty = record { carry = same_carry live given base; seq = same_seq live given base; packet = empty_frame live given base t valid whole within empty }

module _ (server : ServerState) (plan : Plan) (has : HasFrame server plan) where
  abbrev t : ℕ
  t = server.frame

  pub same_count : (count : ℕ) → HasDatagrams server.plan t count → HasDatagrams plan t count
  same_count count h = record {
    packet = h.packet;
    is_packet = has.packet h.packet h.is_packet;
    is = h.is ∙ ap (λ (c : Carry). datagram_count c (length h.packet)) (sym has.carry);
  }

  pub same_datagram : (i : ℕ) (datagram : List ℕ) → IsDatagramAt server.plan t i datagram → IsDatagramAt plan t i datagram
  same_datagram i datagram d =
      let number : sequence_number server.plan t ≡ sequence_number plan t = ap (λ (n : ℕ). (n + t) % 2 ^ 16) (sym has.seq) in
      record {
        packet = d.packet;
        is_packet = has.packet d.packet d.is_packet;
        within = subst (λ (c : Carry). i < datagram_count c (length d.packet)) (sym has.carry) d.within;
        is = subst (λ (n : ℕ). CarriesPacket plan.carry n d.packet i datagram) number
            (subst (λ (c : Carry). CarriesPacket c (sequence_number server.plan t) d.packet i datagram) (sym has.carry) d.is);
      }

  pub same_first : (i : ℕ) (datagrams : List (List ℕ)) → AreFirst server.plan t i datagrams → AreFirst plan t i datagrams
  same_first zero datagrams none = none
  same_first (suc i) datagrams (before, datagram, are, is, all) = (before, datagram, same_first i before are, same_datagram i datagram is, all)

  pub same_of_frame : (datagrams : List (List ℕ)) → AreOfFrame server.plan t datagrams → AreOfFrame plan t datagrams
  same_of_frame datagrams (count, counted, are) = (count, same_count count counted, same_first count datagrams are)

  -- sent
  pub same_served : (pace n : ℕ) (up up' : List Bool) (before after : Known History) → ServesFrame server.plan t pace n up up' before after → ServesFrame plan t pace n up up' before after
  same_served pace n up up' before after (datagrams, are, made) = (datagrams, same_of_frame datagrams are, made)

  -- and written
  pub same_written : (n : ℕ) (before after : Known Output) → WroteFrame server.plan t n before after → WroteFrame plan t n before after
  same_written n before after (datagrams, are, size, written) = (datagrams, same_of_frame datagrams are, size, written)

  pub same_front : (before after : Known Output) → OutputsText before after (IsPrefixOfFrame server.plan t) → OutputsText before after (IsPrefixOfFrame plan t)
  same_front before after written =
      OutputsText-weaker (IsPrefixOfFrame server.plan t) (IsPrefixOfFrame plan t) before after written
      (λ text (i, datagrams, are, front). (i, datagrams, same_first (suc i) datagrams are, front))
