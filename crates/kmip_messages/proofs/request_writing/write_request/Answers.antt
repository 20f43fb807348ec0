-- Requests that fit can be written, and their bytes ask them.
use Rattle.kmip_ttlv.specs.View.{view}
use Rattle.kmip_messages.proofs.ByteLemmas.{written_asks, written_parts, written_stops}
use Rattle.kmip_messages.proofs.SizeLemmas.{requests_fit_writable}
use Rattle.kmip_messages.proofs.request_writing.write_request.Goals as goal

pub write-requires : goal.write-requires
write-requires c = requests_fit_writable c.args.requests.now _ c.requires c.in_ok-item.ensures

pub returns-clause-asks : goal.returns-clause-asks
returns-clause-asks c =
    written_asks c.args.requests.now (view c.in_ok-item.item) c.new-out.result.items c.write.new.out.items c.requires c.in_ok-item.ensures
    c.in_ok-write.ensures.in_range c.new-out.ensures.items c.in_ok-write.ensures.ok

pub returns-clause-parts : goal.returns-clause-parts
returns-clause-parts c =
    written_parts c.args.requests.now (view c.in_ok-item.item) c.new-out.result.items c.write.new.out.items c.requires c.in_ok-item.ensures
    c.in_ok-write.ensures.in_range c.new-out.ensures.items c.in_ok-write.ensures.ok

pub returns-clause-stops : goal.returns-clause-stops
returns-clause-stops c =
    written_stops c.args.requests.now (view c.in_ok-item.item) c.new-out.result.items c.write.new.out.items c.requires c.in_ok-item.ensures
    c.in_ok-write.ensures.in_range c.new-out.ensures.items c.in_ok-write.ensures.ok
