use Rattle.std.proofs.Common.{◌≡◌, ◌+◌, ◌*◌, ◌≤◌, ℕ, List, take, ap, length, arith}
use Rattle.std.proofs.lemmas.List.{length-take-le}
use Rattle.mdi_items.specs.Written.{behind}
use Rattle.mdi_items.proofs.WriterLemmas.{dropped}
use Rattle.mdi_items.proofs.writer.MdiWriter.head.Goals as goal

pub returns-clause-behind : goal.returns-clause-behind
returns-clause-behind c =
    let start : List ℕ = behind c.args.self.now in
    let n : ℕ = 3 * c.args.mux.now.count in
    let count : List ℕ = c.to_be_bytes.result in
    let fac : List ℕ = c.encode.result in
    let description : List ℕ = take c.write_sdci-len.result c.write_sdci-len.new.into in
    let four : length count ≡ 4 = ap length c.to_be_bytes.ensures in
    let nine : length fac ≡ 9 = c.encode.ensures.bytes.nine in
    let within : c.write_sdci-len.result ≤ length c.write_sdci-len.new.into = omega (arith, c.write_sdci-len.ensures.length, c.write_sdci-len.array_long, c.requires.description.count) in
    let size : length description ≡ 1 + n = omega (arith, length-take-le c.write_sdci-len.result c.write_sdci-len.new.into within, c.write_sdci-len.ensures.length) in
    let two = dropped start (behind c.bytes.new.self) (behind c.bytes-2.new.self) 16 (8 + length count) 28 c.bytes.ensures.behind c.bytes-2.ensures.behind (omega (arith, four)) in
    let three = dropped start (behind c.bytes-2.new.self) (behind c.bytes-3.new.self) 28 (8 + length fac) 45 two c.bytes-3.ensures.behind (omega (arith, nine)) in
    let all_but_one = dropped start (behind c.bytes-3.new.self) (behind c.bytes-4.new.self) 45 (8 + length description) (54 + n) three c.bytes-4.ensures.behind (omega (arith, size)) in
    dropped start (behind c.bytes-4.new.self) (behind c.bytes-5.new.self) (54 + n) 9 (63 + n) all_but_one c.bytes-5.ensures.behind (omega arith)
