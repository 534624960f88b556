use Rattle.std.proofs.Common.{rules, ℕ, sym, slice_index_or}
use Rattle.dcp_af.proofs.Spellings.{major_by_bits, minor_by_bits, checked_by_bits}
use Rattle.dcp_af.proofs.head.head_of.Goals as goal

pub returns : goal.returns
returns c =
    let byte : ℕ = slice_index_or c.args.packet.now 8 0 in
    record {
      length = search rules;
      seq = search rules;
      checked = sym (checked_by_bits byte (c.type_inv.packet 8).fits);
      major = sym (major_by_bits byte);
      minor = sym (minor_by_bits byte);
      kind = search rules;
    }
