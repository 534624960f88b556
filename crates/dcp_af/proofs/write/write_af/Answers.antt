use Rattle.std.proofs.Common.{◌≡◌, ℕ, ◌+◌, List, [], ◌∷◌, ◌++◌, true, length, take, drop, sym, subst, ap, ◌∙◌, arith}
use Rattle.std.specs.Int.{w16, w32, to_be_bytes}
use Rattle.std.proofs.lemmas.List.{take_at, drop_at}
use Rattle.drm_bits.specs.Bits.{digits, bits_of}
use Rattle.drm_bits.specs.Crc.{IsCheck, crc16_polynomial}
use Rattle.dcp_af.specs.Packet.{AfPacket, sync, revision, tag_kind, head}
use Rattle.dcp_af.proofs.Made.{inner, length-inner, head_written, packet_written, packet_size, payload_kept}
use Rattle.dcp_af.proofs.write.write_af.Goals as goal

ten : (c : goal.After-slice_known-3-1) → length c.head.result ≡ 10
ten c = ap length c.head.ensures

two : (c : goal.After-slice_known-3-1) → length c.to_be_bytes.result ≡ 2
two c = ap length c.to_be_bytes.ensures

-- all bytes afterwards
whole : (c : goal.After-slice_known-3-1) → c.put_at-2.new.into ≡ c.head.result ++ inner c.args.payload c.args.into.now ++ c.to_be_bytes.result ++ drop (10 + c.args.payload + 2) c.args.into.now
whole c = packet_written c.args.into.now c.put_at.new.into c.put_at-2.new.into c.head.result c.to_be_bytes.result c.args.payload (ten c) (two c) c.requires.room c.put_at.ensures.put c.put_at-2.ensures.put

-- the packet
abbrev made : (c : goal.After-slice_known-3-1) → AfPacket
made c = record { seq = c.args.seq; checked = true; minor = 0; payload = inner c.args.payload c.args.into.now }

head_is : (c : goal.After-slice_known-3-1) → c.head.result ≡ head (made c)
head_is c =
    c.head.ensures
    ∙ ap (λ (n : ℕ). sync ++ to_be_bytes w32 n ++ to_be_bytes w16 c.args.seq ++ revision true 1 0 ∷ tag_kind ∷ []) (sym (length-inner c.args.payload c.args.into.now c.requires.room))

size : (c : goal.After-slice_known-3-1) → length (c.head.result ++ inner c.args.payload c.args.into.now ++ c.to_be_bytes.result) ≡ 10 + c.args.payload + 2
size c = packet_size c.args.into.now c.head.result c.to_be_bytes.result c.args.payload (ten c) (two c) c.requires.room

pub returns-clause-packet : goal.returns-clause-packet
returns-clause-packet c =
    let last : List ℕ = c.to_be_bytes.result in
    let payload : List ℕ = inner c.args.payload c.args.into.now in
    let packet = ap (take (10 + c.args.payload + 2)) (whole c) ∙ take_at (c.head.result ++ payload ++ last) (drop (10 + c.args.payload + 2) c.args.into.now) (10 + c.args.payload + 2) (size c) in
    let front : take (10 + c.args.payload) c.put_at.new.into ≡ head (made c) ++ payload =
    head_written c.args.into.now c.put_at.new.into c.head.result c.args.payload (ten c) c.requires.room c.put_at.ensures.put ∙ ap (λ (l : List ℕ). l ++ payload) (head_is c) in (
      c.crc16-check.result,
      record {
        fits = record { seq = c.ranges.seq.fits; minor = omega arith; payload = omega (arith, length-inner c.args.payload c.args.into.now c.requires.room, c.requires.fits) };
        narrow = c.crc16-check.type_inv;
        spelled = packet ∙ (ap (λ (l : List ℕ). l ++ payload ++ last) (head_is c) ∙ ap (λ (l : List ℕ). head (made c) ++ payload ++ l) c.to_be_bytes.ensures);
      },
      λ _.
          record { narrow = c.crc16-check.type_inv; is = subst (λ (l : List ℕ). IsCheck crc16_polynomial (bits_of l) (digits 16 c.crc16-check.result)) front c.crc16-check.ensures.check },
    )

pub returns-clause-payload : goal.returns-clause-payload
returns-clause-payload c =
    payload_kept c.args.into.now c.put_at-2.new.into c.head.result c.to_be_bytes.result (drop (10 + c.args.payload + 2) c.args.into.now) c.args.payload (ten c) c.requires.room (whole c)

pub returns-clause-behind : goal.returns-clause-behind
returns-clause-behind c =
    ap (drop (10 + c.args.payload + 2)) (whole c)
    ∙ drop_at (c.head.result ++ inner c.args.payload c.args.into.now ++ c.to_be_bytes.result) (drop (10 + c.args.payload + 2) c.args.into.now) (10 + c.args.payload + 2) (size c)
