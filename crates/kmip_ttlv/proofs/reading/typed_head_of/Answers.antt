-- The head is read where the whole item is there.
use Rattle.std.proofs.Common.{◌≡◌, ◌+◌, ◌≤◌, ◌&&◌, ◌∙◌, false, true, length, drop, nat_lt, Ok, Some, arith, rules, ap, subst}
use Rattle.std.proofs.lemmas.List.{take_rest}
use Rattle.byteorder.specs.Endian.{big_number}
use Rattle.kmip_ttlv.specs.Heads.{typed_head_at}
use Rattle.kmip_ttlv.specs.Types.{is_allowed}
use Rattle.kmip_ttlv.specs.Limits.{head_size, most_bytes}
use Rattle.kmip_ttlv.specs.Sizes.{padded}
use Rattle.kmip_ttlv.proofs.reading.typed_head_of.Goals as goal

pub returns-clause-exact : goal.returns-clause-exact
unfolding typed_head_at
returns-clause-exact c =
    let len = c.read_u32-len.result in
    let bytes = c.args.bytes.now in
    let there : head_size + padded len ≤ length bytes = omega (arith, c.padding_of.ensures) in
    let ends : nat_lt (length bytes) (head_size + padded len) ≡ false = search (rules, there) in
    let number : len ≡ big_number 4 (drop 4 bytes) = c.read_u32-len.ensures ∙ ap (big_number 4) (take_rest bytes 4) in
    let allowed : is_allowed c.args.item_type len ≡ true = search rules in
    let short : (c.args.outermost && nat_lt most_bytes (head_size + padded len)) ≡ false = search rules in
    subst (λ n. Ok (c.read_u24.result, c.args.item_type, len) ≡ typed_head_at c.args.outermost c.args.at bytes (Some c.args.item_type) n) number
    (rw (allowed, short, ends) (ap (λ n. Ok (n, c.args.item_type, len)) c.read_u24.ensures))

pub returns-clause-within : goal.returns-clause-within
returns-clause-within c = omega (arith, c.padding_of.ensures)
