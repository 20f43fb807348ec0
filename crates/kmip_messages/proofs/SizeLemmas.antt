-- Written messages: how deep, how long, and of whole groups.
use Rattle.std.proofs.Common.{◌≡◌, ℕ, ◌+◌, ◌*◌, ◌≤◌, ◌<◌, ℤ, pos, Bool, true, false, ◌&&◌, nat_le, if◌then◌else◌, List, [], ◌∷◌, ◌++◌, length, map, drop, get_or, Some, None, IsTrue, refl, sym, ap, subst, ◌∙◌, inl, inr, arith}
use Rattle.std.specs.List.{list_all}
use Rattle.std.proofs.lemmas.Bool.{and_parts, leb-true, cases_lt}
use Rattle.std.proofs.lemmas.Bool.Decides.{leb_tells}
use Rattle.std.proofs.lemmas.List.{drop_all, drop_more}
use Rattle.kmip_ttlv.specs.Node.{Node, nodes_of}
use Rattle.kmip_ttlv.specs.Fitting.{HaveWholeGroups, depths}
use Rattle.kmip_ttlv.specs.Sizes.{size, sizes, IsWritable}
use Rattle.kmip_ttlv.proofs.ForCallers.{writable_of}
use Rattle.kmip_batch_items.specs.declared.reply.Reply.{Reply}
use Rattle.kmip_batch_items.specs.declared.request.Request.{Request}
use Rattle.kmip_batch_items.specs.declared.standard.TheConstants.{CONTINUE}
use Rattle.kmip_batch_items.specs.BatchItems.{question_item, answer_item, answer_fits}
use Rattle.kmip_batch_items.specs.MessageSizes.{IsCapped}
use Rattle.kmip_batch_items.specs.ReplyFormats.{any_version_parts_format}
use Rattle.kmip_batch_items.specs.RequestFits.{request_fits}
use Rattle.kmip_batch_items.specs.RequestFormats.{version_parts_format}
use Rattle.kmip_batch_items.proofs.BatchItemSizes.{question_depth, question_groups, question_size, answer_depth, answer_groups}
use Rattle.kmip_messages.specs.Headers.{option_format, header_parts_format, header_format, reply_header_parts_format, reply_header_format}
use Rattle.kmip_messages.specs.Members.{may_have}
use Rattle.kmip_messages.proofs.HeaderLaws.{header-part, reply_header-part}
use Rattle.kmip_messages.specs.Written.{option_for, requests_item, requests_fit, replies_item, replies_fit}
use Rattle.kmip_messages.specs.Private.{answers_size}

-- the items have at most so many levels, whole groups, and at most this size together
record AreWithin (levels bytes : ℕ) (ns : List Node) : Type 0 where
  pub deep : depths (nodes_of ns) ≤ levels
  pub groups : HaveWholeGroups (nodes_of ns)
  pub long : sizes (nodes_of ns) ≤ bytes

sizes-append : (ms ns : List Node) → sizes (nodes_of (ms ++ ns)) ≡ sizes (nodes_of ms) + sizes (nodes_of ns)
sizes-append [] ns = omega arith
sizes-append (m ∷ ms) ns = omega (arith, sizes-append ms ns)

both_within : (levels a b : ℕ) (ms ns : List Node) → AreWithin levels a ms → AreWithin levels b ns → AreWithin levels (a + b) (ms ++ ns)
both_within levels a b [] ns h k = record { deep = k.deep; groups = k.groups; long = omega (arith, k.long) }
both_within levels a b (m ∷ ms) ns h k =
    let first : AreWithin levels a ms = record { deep = omega (arith, h.deep); groups = h.groups.1; long = omega (arith, h.long) } in
    let rest = both_within levels a b ms ns first k in
    record {
      deep = omega (arith, h.deep, rest.deep);
      groups = (h.groups.0, rest.groups);
      long = omega (arith, h.long, k.long, sizes-append ms ns);
    }

-- ---- requests

questions_within : (rs : List Request) → list_all request_fits rs ≡ true → AreWithin 6 (575 * length rs) (map question_item rs)
questions_within [] fit = record { deep = omega arith; groups = tt; long = omega arith }
questions_within (r ∷ rest) fit =
    let parts = and_parts (request_fits r) (list_all request_fits rest) fit in
    let others = questions_within rest parts.1 in
    record {
      deep = omega (arith, question_depth r parts.0, others.deep);
      groups = (question_groups r, others.groups);
      long = omega (arith, question_size r parts.0, others.long);
    }

header_extent_by : (b : Bool) (count : ℤ) → ((header_format.extent (if b then Some CONTINUE else None, count)).size ≤ 80)
    × ((header_format.extent (if b then Some CONTINUE else None, count)).depth ≤ 6)
unfolding header_format header_parts_format option_format version_parts_format
header_extent_by true count = omega arith
header_extent_by false count = omega arith

header_within : (there : ℕ) (count : ℤ) → AreWithin 6 80 (header_format.write (option_for there, count))
header_within there count =
    let spans = header-part.good.spans (option_for there, count) in
    let within = header_extent_by (nat_le 2 there) count in
    record { deep = omega (arith, spans.deep, within.1); groups = spans.groups; long = omega (arith, spans.long, within.0) }

pub requests_writable : (rs : List Request) → IsTrue (requests_fit rs) → IsWritable (requests_item rs)
requests_writable rs fit =
    let parts = and_parts (may_have (length rs)) (list_all request_fits rs) fit in
    let few = leb-true (length rs) 8 (and_parts (nat_le 1 (length rs)) (nat_le (length rs) 8) parts.0).1 in
    let all = both_within 6 80 (575 * length rs) (header_format.write (option_for (length rs), pos (length rs))) (map question_item rs)
    (header_within (length rs) (pos (length rs))) (questions_within rs parts.1) in
    writable_of (requests_item rs) all.groups (omega (arith, all.deep)) (omega (arith, all.long, few))

pub requests_fit_writable : (rs : List Request) (item : Node) → IsTrue (requests_fit rs) → item ≡ requests_item rs → IsWritable item
requests_fit_writable rs item fit is = subst IsWritable (sym is) (requests_writable rs fit)

-- ---- replies

answers_long : (rs : List Reply) → sizes (nodes_of (map answer_item rs)) ≡ answers_size rs
answers_long [] = refl
answers_long (r ∷ rest) = omega (arith, answers_long rest)

answers_within : (rs : List Reply) → AreWithin 6 (answers_size rs) (map answer_item rs)
answers_within [] = record { deep = omega arith; groups = tt; long = omega arith }
answers_within (r ∷ rest) =
    let others = answers_within rest in
    record {
      deep = omega (arith, answer_depth r, others.deep);
      groups = (answer_groups r, others.groups);
      long = omega (arith, others.long);
    }

reply_header_extent : (now count : ℤ) → ((reply_header_format now).extent count).size ≡ 80
unfolding reply_header_format reply_header_parts_format any_version_parts_format
reply_header_extent now count = omega arith

reply_header_levels : (now count : ℤ) → ((reply_header_format now).extent count).depth ≤ 6
unfolding reply_header_format reply_header_parts_format any_version_parts_format
reply_header_levels now count = omega arith

reply_header_long : (now count : ℤ) → sizes (nodes_of ((reply_header_format now).write count)) ≡ 80
reply_header_long now count = ((reply_header-part now).good.spans count).long ∙ reply_header_extent now count

reply_header_within : (now count : ℤ) → AreWithin 6 80 ((reply_header_format now).write count)
reply_header_within now count =
    let spans = (reply_header-part now).good.spans count in
    record { deep = omega (arith, spans.deep, reply_header_levels now count); groups = spans.groups; long = omega (arith, reply_header_long now count) }

-- the size of a message of replies, which is the same at all times
pub size-replies : (rs : List Reply) (now : ℤ) → size (replies_item rs now) ≡ 88 + answers_size rs
size-replies rs now =
    omega (arith, sizes-append ((reply_header_format now).write (pos (length rs))) (map answer_item rs), reply_header_long now (pos (length rs)), answers_long rs)

pub replies_writable : (rs : List Reply) (now : ℤ) → size (replies_item rs (pos 0)) ≤ 8192 → IsWritable (replies_item rs now)
replies_writable rs now short =
    let all = both_within 6 80 (answers_size rs) ((reply_header_format now).write (pos (length rs))) (map answer_item rs)
    (reply_header_within now (pos (length rs))) (answers_within rs) in
    writable_of (replies_item rs now) all.groups (omega (arith, all.deep)) (omega (arith, size-replies rs now, size-replies rs (pos 0), short))

-- the parts of the test
pub replies_fit_parts : (rs : List Reply) → IsTrue (replies_fit rs) → IsTrue (may_have (length rs)) × (list_all answer_fits rs ≡ true) × (size (replies_item rs (pos 0)) ≤ 8192)
replies_fit_parts rs fit =
    let parts = and_parts (may_have (length rs) && list_all answer_fits rs) (nat_le (size (replies_item rs (pos 0))) 8192) fit in
    let first = and_parts (may_have (length rs)) (list_all answer_fits rs) parts.0 in
    (first.0, first.1, leb-true (size (replies_item rs (pos 0))) 8192 parts.1)

pub replies_fit_writable : (rs : List Reply) (now : ℤ) (item : Node) → IsTrue (replies_fit rs) → item ≡ replies_item rs now → IsWritable item
replies_fit_writable rs now item fit is = subst IsWritable (sym is) (replies_writable rs now (replies_fit_parts rs fit).2)

-- a reply at a place, and those behind it
answers_drop : (rs : List Reply) (i : ℕ) (r : Reply) → i < length rs → r ≡ get_or rs i r
    → answers_size (drop i rs) ≡ size (answer_item r) + answers_size (drop (i + 1) rs)
answers_drop rs i r lt is = ap answers_size (drop_more rs i r lt) ∙ ap (λ x. size (answer_item x) + answers_size (drop (i + 1) rs)) (sym is)

-- a number beyond the limit, or not
beyond : (n : ℕ) → 8192 < n → false ≡ nat_le n 8192
beyond n long = elim (leb_tells n 8192) [
  | inl short ↦ absurd (omega (arith, short.1, long))
  | inr other ↦ sym other.0
]

within_limit : (n : ℕ) → n ≤ 8192 → true ≡ nat_le n 8192
within_limit n short = elim (leb_tells n 8192) [
  | inl fits ↦ sym fits.0
  | inr long ↦ absurd (omega (arith, long.1, short))
]

-- what is more than the rest of the room with what came before is too long
over : (so_far own m rest total : ℕ) → IsCapped own m → so_far + (m + rest) ≡ total → 8192 < so_far + own → 8192 < total
over so_far own m rest total capped sum more = elim (cases_lt 8192 m) [
  | inl big ↦ omega (arith, big, sum)
  | inr small ↦ omega (arith, capped.0 small, sum, more)
]

-- the test of the sizes in turn is that of the whole, where it ends early and where it comes to the end
pub told_long : (rs : List Reply) (i so_far own : ℕ) (r : Reply) → i < length rs → r ≡ get_or rs i r → IsCapped own (size (answer_item r))
    → so_far + answers_size (drop i rs) ≡ 88 + answers_size rs → 8192 < so_far + own → false ≡ nat_le (size (replies_item rs (pos 0))) 8192
told_long rs i so_far own r lt is capped before more =
    let sum : so_far + (size (answer_item r) + answers_size (drop (i + 1) rs)) ≡ 88 + answers_size rs =
    ap (λ k. so_far + k) (sym (answers_drop rs i r lt is)) ∙ before in
    beyond (size (replies_item rs (pos 0)))
    (omega (arith, size-replies rs (pos 0), over so_far own (size (answer_item r)) (answers_size (drop (i + 1) rs)) (88 + answers_size rs) capped sum more))

pub told_short : (rs : List Reply) (i so_far : ℕ) → length rs ≤ i → so_far ≤ 8192 → so_far + answers_size (drop i rs) ≡ 88 + answers_size rs
    → true ≡ nat_le (size (replies_item rs (pos 0))) 8192
told_short rs i so_far end fits before =
    let none : answers_size (drop i rs) ≡ 0 = ap answers_size (drop_all i rs end) in
    within_limit (size (replies_item rs (pos 0))) (omega (arith, size-replies rs (pos 0), none, before, fits))
