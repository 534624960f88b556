use Rattle.std.proofs.Common.{◌≡◌, ℕ, suc, ◌+◌, ◌-◌, ◌<◌, ◌∷◌, [], ◌++◌, List, Bool, drop, arith, sym, ◌∙◌, ap, append_assoc}
use Rattle.drm_sdc.specs.declared.channels.Channel15.{Channel15}
use Rattle.drm_bits.specs.Bits.{front, bit}
use Rattle.drm_sdc.specs.Reading.{channels_from}
use Rattle.drm_sdc.proofs.frequencies.read_channels.Goals as goal

step : (list more : List Channel15) (bits next : List Bool) (c : Channel15) (k n : ℕ) → k < n → more ≡ list ++ c ∷ [] → c ≡ record { first = bit bits; number = front 15 (drop 1 bits) } → next ≡ drop 15 (drop 1 bits)
    → more ++ channels_from (n - (k + 1)) next ≡ list ++ channels_from (n - k) bits
step list more bits next c k n below is_more is_c is_next =
    let one : n - k ≡ suc (n - (k + 1)) = omega arith in
    ap (λ l. l ++ channels_from (n - (k + 1)) next) is_more
    ∙ (append_assoc list (c ∷ []) (channels_from (n - (k + 1)) next)
    ∙ (ap (λ q. list ++ (q ∷ channels_from (n - (k + 1)) next)) is_c
    ∙ (ap (λ l. list ++ (record { first = bit bits; number = front 15 (drop 1 bits) } ∷ channels_from (n - (k + 1)) l)) is_next
    ∙ ap (λ m. list ++ channels_from m bits) (sym one))))

pub loop-preserved : goal.loop-preserved
loop-preserved c =
    record {
      list = step c.loop.list c.push.new.self c.loop.bits c.read_channel.new.bits c.read_channel.result c.loop.counter c.args.count c.loop-test.true c.in_ok-push.ensures.pushed c.read_channel.ensures.channel c.read_channel.ensures.rest ∙ c.loop.invariant.list;
      left = omega (arith, c.loop.invariant.left, c.read_channel.ensures.remaining);
    }
