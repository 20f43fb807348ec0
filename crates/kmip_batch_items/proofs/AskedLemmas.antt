-- What is asked is in its ranges.
use Rattle.std.proofs.Common.{◌≡◌, Bool, true, false, List, ◌&&◌, IsTrue, refl, subst}
use Rattle.std.specs.Option.{option_map_or}
use Rattle.kmip_ttlv.specs.Node.{Node}
use Rattle.kmip_batch_items.specs.declared.ask.Ask.{Ask}
use Rattle.kmip_batch_items.specs.declared.ask.Ask.TheVariants.{Create, Locate, GetAttributes, Activate, Revoke, Destroy}
use Rattle.kmip_objects.specs.Ranges.{is_name}
use Rattle.kmip_batch_items.specs.RequestFits.{ask_fits}
use Rattle.kmip_batch_items.specs.Requests.{IsPayload}

both : (a b : Bool) → a ≡ true → b ≡ true → IsTrue (a && b)
both a b p q = rw (p, q) refl

pub payload_fits : (a : Ask) (payload : List Node) → IsPayload payload a → IsTrue (ask_fits a)
payload_fits (Create key) payload says =
    let k = says.are in
    both _ _ (both _ _ (both _ _ k.called.in_range k.algorithm_in_range) k.bits_in_range) k.mask_in_range
payload_fits (Locate storage filter) payload says =
    subst (λ o. IsTrue (option_map_or is_name o false)) says.are.has_name says.are.called.in_range
payload_fits (Revoke uid code) payload says = both _ _ says.identifier.in_range says.in_range
payload_fits a payload says = says.in_range
