-- A frame has one packet.
use Rattle.std.proofs.Common.{◌≡◌, ◌-◌, ◌*◌, ◌/◌, ◌%◌, ◌==◌, ◌≤◌, ℕ, Bool, true, false, List, ◌++◌, map, length, arith, Option, Some, refl, sym, ap, subst, ◌∙◌}
use Rattle.std.specs.Int.{w16, to_be_bytes}
use Rattle.drm_bits.specs.Bits.{IsBytes}
use Rattle.drm_bits.specs.declared.description.MuxDesc.{MuxDesc}
use Rattle.drm_fac.specs.declared.fac.Fac.{Fac}
use Rattle.drm_schedule.specs.declared.config.Config.{Config}
use Rattle.drm_fac.specs.declared.mode.Mode.{Mode}
use Rattle.drm_schedule.specs.declared.plan.Plan.{Plan}
use Rattle.drm_timeline.specs.Description.{description_of}
use Rattle.dcp_af.specs.Packet.{AfPacket, IsAf, head}
use Rattle.drm_bits.proofs.Checks.{one_check}
use Rattle.mdi_items.specs.RoundTrip.{Parts, BlockBytes, IsWrittenOf}
use Rattle.mdi_items.proofs.SpellingLemmas as spellings
use Rattle.drm_timeline.specs.Numbers.{sequence_number}
use Rattle.drm_schedule.specs.Contents.{stream_bytes}
use Rattle.drm_server.specs.Frames.{HasBlockWhere, IsFrameAt, IsPacketAt}
use Rattle.drm_server.proofs.ByteLemmas.{bytes_before, bytes_behind}
use Rattle.drm_server.proofs.OneBlock.{one_block}

one_where : (first : Bool) (plan : Plan) (sf room : ℕ) (a b : Option BlockBytes) → HasBlockWhere first plan sf room a → HasBlockWhere first plan sf room b → a ≡ b
one_where true plan sf room a b (x, is_x, at_x) (y, is_y, at_y) =
    let same : x ≡ y = one_block plan sf room x y at_x at_y in
    is_x ∙ (ap (λ (z : BlockBytes). Some z) same ∙ sym is_y)
one_where false plan sf room a b x y = x ∙ sym y

some_is : (a b : Config) → Some a ≡ Some b → a ≡ b
some_is a b same = cc

some_fac : (a b : Fac) → Some a ≡ Some b → a ≡ b
some_fac a b same = cc

same_parts : (p q : Parts) → p.count ≡ q.count → p.fac ≡ q.fac → p.mux ≡ q.mux → p.mode ≡ q.mode → p.block ≡ q.block → p.streams ≡ q.streams → p ≡ q
same_parts p q count fac mux mode block streams =
    ap (λ (n : ℕ). record p { count = n }) count
    ∙ (ap (λ (f : Fac). record p { count = q.count; fac = f }) fac
    ∙ (ap (λ (m : MuxDesc). record p { count = q.count; fac = q.fac; mux = m }) mux
    ∙ (ap (λ (m : Mode). record p { count = q.count; fac = q.fac; mux = q.mux; mode = m }) mode
    ∙ (ap (λ (o : Option BlockBytes). record p { count = q.count; fac = q.fac; mux = q.mux; mode = q.mode; block = o }) block
    ∙ ap (λ (l : List (List ℕ)). record q { streams = l }) streams))))

pub one_frame : (plan : Plan) (t : ℕ) (p q : Parts) → IsFrameAt plan t p → IsFrameAt plan t q → p ≡ q
one_frame plan t p q x y =
    let same : x.config ≡ y.config = some_is x.config y.config (sym x.holds ∙ y.holds) in
    let first : Bool = t % 3 == 0 in
    same_parts p q (x.count ∙ sym y.count) (some_fac p.fac q.fac (sym x.fac ∙ y.fac)) (x.mux ∙ (ap description_of same ∙ sym y.mux)) (x.mode ∙ (ap (λ (c : Config). c.mode) same ∙ sym y.mode))
    (one_where first plan (t / 3) y.config.room p.block q.block (subst (λ (c : Config). HasBlockWhere first plan (t / 3) c.room p.block) same x.block) y.block)
    (x.streams ∙ (ap (λ (c : Config). map (stream_bytes (t - 3 * c.start)) c.streams) same ∙ sym y.streams))

-- the payload of a packet
payload_bytes : (p : AfPacket) (packet : List ℕ) → IsAf p packet → IsBytes packet → IsBytes p.payload
payload_bytes p packet (check, ends, checks) small =
    bytes_behind (head p) p.payload (bytes_before (head p ++ p.payload) (to_be_bytes w16 check) (subst IsBytes ends.spelled small))

one_af : (p : AfPacket) (packet other : List ℕ) → p.checked ≡ true → IsAf p packet → IsAf p other → packet ≡ other
one_af p packet other checked (m, ends_m, checks_m) (n, ends_n, checks_n) =
    let same : m ≡ n = one_check (head p ++ p.payload) m n (checks_m checked) (checks_n checked) in
    ends_m.spelled ∙ (ap (λ (k : ℕ). head p ++ p.payload ++ to_be_bytes w16 k) same ∙ sym ends_n.spelled)

pub one_packet : (plan : Plan) (t : ℕ) (packet other : List ℕ) → IsPacketAt plan t packet → IsPacketAt plan t other → packet ≡ other
one_packet plan t packet other x y =
    let af : List ℕ → AfPacket = λ payload. record { seq = sequence_number plan t; checked = true; minor = 0; payload = payload } in
    let small_x : IsBytes x.payload = payload_bytes (af x.payload) packet x.is x.octets in
    let small_y : IsBytes y.payload = payload_bytes (af y.payload) other y.is y.octets in
    let parts : x.parts ≡ y.parts = one_frame plan t x.parts y.parts x.frame y.frame in
    let payload : x.payload ≡ y.payload = spellings.one_spelling y.parts x.payload y.payload (subst (λ (p : Parts). IsWrittenOf p x.payload) parts x.written) y.written small_x small_y in
    one_af (af y.payload) packet other refl (subst (λ (l : List ℕ). IsAf (af l) packet) payload x.is) y.is

-- it has a head
pub some_bytes : (plan : Plan) (t : ℕ) (packet : List ℕ) → IsPacketAt plan t packet → 1 ≤ length packet
some_bytes plan t packet x =
    let af : AfPacket = record { seq = sequence_number plan t; checked = true; minor = 0; payload = x.payload } in
    some_of af packet x.is
  where
    some_of : (p : AfPacket) (packet : List ℕ) → IsAf p packet → 1 ≤ length packet
    some_of p packet (check, ends, checks) =
        let long : length packet ≡ length (head p ++ p.payload ++ to_be_bytes w16 check) = ap length ends.spelled in
        omega (arith, long)
