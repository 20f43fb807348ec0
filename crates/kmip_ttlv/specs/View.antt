-- What an `Item` of the code is as a pure value: where its parts lie in memory is left out.
-- Source: own (view): how a contract sees the code.
use Rattle.std.specs.Prelude.{List, map}
use Rattle.kmip_ttlv.specs.Node.{
  Node,
  node,
  Content,
  structure,
  integer,
  long_integer,
  big_integer,
  enumeration,
  boolean,
  text_string,
  byte_string,
  date_time,
  interval,
  date_time_extended,
  nodes_of,
}
use Rattle.kmip_ttlv.specs.declared.item.Item.{Item}
use Rattle.kmip_ttlv.specs.declared.value.Value.{Value, fold-Value}
use Rattle.kmip_ttlv.specs.declared.value.Value.TheOpen.{Value-F, Item-F}

-- one level of a value, with each item inside already seen as its node
abbrev pub value_step : Value-F Content Node → Content
value_step (Value-F.Structure v) = structure (nodes_of v.items)
value_step (Value-F.Integer z) = integer z
value_step (Value-F.LongInteger z) = long_integer z
value_step (Value-F.BigInteger b) = big_integer b
value_step (Value-F.Enumeration n) = enumeration n
value_step (Value-F.Boolean b) = boolean b
value_step (Value-F.TextString t) = text_string t
value_step (Value-F.ByteString b) = byte_string b
value_step (Value-F.DateTime z) = date_time z
value_step (Value-F.Interval n) = interval n
value_step (Value-F.DateTimeExtended z) = date_time_extended z

-- one level of an item, with what it contains already seen
abbrev pub item_step : Item-F Content Node → Node
item_step i = node i.tag i.value

-- what a value contains
abbrev pub content : Value → Content
content = fold-Value Content Node value_step item_step

-- the pure value of an item
abbrev pub view : Item → Node
view i = node i.tag (content i.value)

-- the pure values of some items, in their order
abbrev pub views : List Item → List Node
views = map view
