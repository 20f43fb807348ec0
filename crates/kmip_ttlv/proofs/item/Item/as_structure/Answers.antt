-- The items of the vector are those that the view has.
use Rattle.kmip_ttlv.proofs.Views.{items_of-Structure}
use Rattle.kmip_ttlv.proofs.item.Item.as_structure.Goals as goal

pub returns-in-Structure : goal.returns-in-Structure
returns-in-Structure c =
    items_of-Structure c.args.self.now c.in-Structure.items c.as_slice.result.now c.in-Structure.is c.as_slice.ensures.value
