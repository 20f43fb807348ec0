-- The text of a value whose numbers are counts is read back.
use Rattle.std.proofs.Common.{◌≡◌, suc, ◌≤◌, [], ◌++◌, max, Some, option_map, option_and_then, refl, sym, ap, ap₂, ◌∙◌, arith, append-nil}
use Rattle.json.specs.Lex.{tokens}
use Rattle.json.specs.Json as json
use Rattle.json.specs.Tree as tree
use Rattle.json.proofs.Printed.Decimals.{IsNumber-decimal}
use Rattle.json.proofs.Printed.Tokens.{tokens-print}
use Rattle.json.proofs.Printed.Trees.{value-json_tokens, ArePrintable-json_tokens}
use Rattle.serde_json.specs.Data.{unsigned, negative, float, Data, null, boolean, number, string, array, object, Items, no_items, item, Members, no_members, member, put, depth, items_depth, members_depth}
use Rattle.serde_json.specs.Read.{max_depth, read, of_json, of_items, of_members}
use Rattle.serde_json.specs.Written.{compact_text, outline, items_outline, members_outline}
use Rattle.serde_json.proofs.Numbers.{number_of-decimal}
use Rattle.serde_json.proofs.Texts.{print-outline}
use Rattle.kmip_report.specs.Laws.{HasCounts, ItemsHaveCounts, MembersHaveCounts, kept, kept_items, put_all}

-- what a value is as JSON converts to the value that a reader keeps
mutual
  value_of : (d : Data) → HasCounts d → of_json (outline d) ≡ Some (kept d)
  value_of null h = refl
  value_of (boolean b) h = refl
  value_of (number (unsigned n)) h = ap (option_map number) (number_of-decimal n h)
  value_of (number (negative z)) h = absurd h
  value_of (number (float x)) h = absurd h
  value_of (string s) h = refl
  value_of (array ds) h = ap (option_map array) (items_of ds h)
  value_of (object ms) h = ap (option_map object) (members_of ms no_members h)

  items_of : (ds : Items) → ItemsHaveCounts ds → of_items (items_outline ds) ≡ Some (kept_items ds)
  items_of no_items h = refl
  items_of (item d ds) h =
      ap (option_and_then (λ e. option_map (item e) (of_items (items_outline ds)))) (value_of d h.0)
      ∙ ap (option_map (item (kept d))) (items_of ds h.1)

  members_of : (ms found : Members) → MembersHaveCounts ms → of_members (members_outline ms) found ≡ Some (put_all ms found)
  members_of no_members found h = refl
  members_of (member k d ms) found h =
      ap (option_and_then (λ e. of_members (members_outline ms) (put k e found))) (value_of d h.0)
      ∙ members_of ms (put k (kept d) found) h.1

-- each number's text is one of JSON's
mutual
  numbers : (d : Data) → HasCounts d → tree.HasNumbers (outline d)
  numbers null h = tt
  numbers (boolean b) h = tt
  numbers (number (unsigned n)) h = IsNumber-decimal n h
  numbers (number (negative z)) h = absurd h
  numbers (number (float x)) h = absurd h
  numbers (string s) h = tt
  numbers (array ds) h = item_numbers ds h
  numbers (object ms) h = member_numbers ms h

  item_numbers : (ds : Items) → ItemsHaveCounts ds → tree.ItemsHaveNumbers (items_outline ds)
  item_numbers no_items h = tt
  item_numbers (item d ds) h = (numbers d h.0, item_numbers ds h.1)

  member_numbers : (ms : Members) → MembersHaveCounts ms → tree.MembersHaveNumbers (members_outline ms)
  member_numbers no_members h = tt
  member_numbers (member k d ms) h = (numbers d h.0, member_numbers ms h.1)

-- JSON nests as deep as the value
mutual
  as_deep : (d : Data) → tree.depth (outline d) ≡ depth d
  as_deep null = refl
  as_deep (boolean b) = refl
  as_deep (number n) = refl
  as_deep (string s) = refl
  as_deep (array ds) = ap suc (items_as_deep ds)
  as_deep (object ms) = ap suc (members_as_deep ms)

  items_as_deep : (ds : Items) → tree.items_depth (items_outline ds) ≡ items_depth ds
  items_as_deep no_items = refl
  items_as_deep (item d ds) = ap₂ max (as_deep d) (items_as_deep ds)

  members_as_deep : (ms : Members) → tree.members_depth (members_outline ms) ≡ members_depth ms
  members_as_deep no_members = refl
  members_as_deep (member k d ms) = ap₂ max (as_deep d) (members_as_deep ms)

pub read_back : (d : Data) → HasCounts d → depth d ≤ max_depth → read (compact_text d) ≡ Some (kept d)
read_back d h shallow =
    let j = outline d in
    let ts = tree.json_tokens j in
    let same : tokens (compact_text d) ≡ ts ++ [] =
    ap tokens (sym (print-outline d)) ∙ tokens-print ts (ArePrintable-json_tokens j (numbers d h)) ∙ sym (append-nil ts) in
    let found : json.value max_depth (tokens (compact_text d)) ≡ Some (j, []) =
    ap (json.value max_depth) same ∙ value-json_tokens j max_depth [] (omega (arith, as_deep d)) in
    ap (λ o. option_and_then of_json (option_and_then (λ p. json.if_last p.0 p.1) o)) found ∙ value_of d h
