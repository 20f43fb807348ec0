-- The padding is a part of eight zeros.
use Rattle.std.proofs.Common.{length}
use Rattle.kmip_ttlv.specs.Spelling.{head}
use Rattle.kmip_ttlv.proofs.Written.{leaf_written}
use Rattle.kmip_ttlv.proofs.writing.append_leaf.Goals as goal

pub returns-clause-ok : goal.returns-clause-ok
returns-clause-ok c =
    let value = c.args.value.now in
    leaf_written c.args.out.now.items (head c.args.tag c.args.item_type (length value)) value
    c.append_head.new.out.items c.extend_from_slice.new.self.items c.extend_from_slice-2.new.self.items c.padding_of.result (length value)
    c.in_ok-append_head.ensures.ok c.in_ok-extend_from_slice.ensures.items c.in_ok-extend_from_slice-2.ensures.items c.padding_of.ensures
