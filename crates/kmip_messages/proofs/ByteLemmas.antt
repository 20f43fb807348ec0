-- What bytes ask and say, by what is read of them.
use Rattle.std.proofs.Common.{◌≡◌, ℕ, ℤ, Bool, true, false, nat_le, not, if◌then◌else◌, List, [], ◌∷◌, ◌++◌, length, map, Some, None, Result, Ok, Err, IsTrue, refl, ap, subst, ◌∙◌}
use Rattle.std.specs.Prelude.{IfOk, IfErr}
use Rattle.std.specs.List.{All, filter_map}
use Rattle.std.specs.Result.{result_ok}
use Rattle.std.proofs.lemmas.List.Elements.{All-nil, All-cons}
use Rattle.kmip_ttlv.specs.Binding.{◌>>=◌}
use Rattle.kmip_ttlv.specs.Fitting.{IsBytes, IsInRange}
use Rattle.kmip_ttlv.specs.Node.{Node, Content}
use Rattle.kmip_ttlv.specs.Spelling.{canon, Spells}
use Rattle.kmip_ttlv.proofs.ForCallers.{canon_spells}
use Rattle.kmip_ttlv.proofs.ReadSteps.{Reads, reads-bind, ok}
use Rattle.kmip_batch_items.specs.declared.message_fault.MessageFault.{MessageFault}
use Rattle.kmip_batch_items.specs.declared.message_fault.MessageFault.TheVariants.{NoMemory}
use Rattle.kmip_batch_items.specs.Faults.{is_no_memory}
use Rattle.kmip_batch_items.specs.Reading.{Fails, Gives}
use Rattle.kmip_batch_items.specs.Siblings.{contents}
use Rattle.kmip_batch_items.specs.declared.refusal.Refusal.{Refusal}
use Rattle.kmip_batch_items.specs.declared.reply.Reply.{Reply}
use Rattle.kmip_batch_items.specs.declared.request.Request.{Request}
use Rattle.kmip_batch_items.specs.declared.standard.TheConstants.{TAG_BATCH_ITEM, CONTINUE}
use Rattle.kmip_batch_items.specs.BatchItems.{Question, IsQuestion, IsAnswer, answer_fits}
use Rattle.kmip_batch_items.specs.Whole.{item_in}
use Rattle.kmip_batch_items.proofs.BatchItemLaws.{whole-law, whole-complete, question_in_range, refusal_in_range, answer_in_range}
use Rattle.kmip_messages.specs.declared.batch.Batch.{Batch}
use Rattle.kmip_messages.specs.Batches.{IsBatch, AreReplies, batch_at, batch_read, replies_at, replies_read}
use Rattle.kmip_messages.specs.Items.{refusal_of, parts_of, parts_in, stops_with, stops_of, stops_in, requests_in, replies_of, replies_in, ReadAreSaid, SaidAreRead}
use Rattle.kmip_messages.specs.Members.{may_have, SayEach}
use Rattle.kmip_messages.specs.Ranges.{QuestionFits}
use Rattle.kmip_messages.specs.Written.{requests_item, batch_of, requests_fit, replies_item, replies_fit}
use Rattle.kmip_messages.proofs.BatchLaws.{batch-law, requests_written}
use Rattle.kmip_messages.proofs.ReplyLaws.{replies-law, replies_written}
use Rattle.kmip_messages.proofs.SizeLemmas.{requests_writable, replies_writable, replies_fit_parts}

-- ---- what a call answers, where a relation is read

pub answer_found : {X A : Type 0} (view : X → A) (answer : Result X MessageFault) (read : Result A MessageFault) (P : A → Type 0)
    → Reads read P → Gives view answer read → IfOk answer (λ x. P (view x))
answer_found view (Ok x) read P law gives = law.sound (view x) gives
answer_found view (Err e) read P law gives = tt

pub answer_only : {X A : Type 0} (view : X → A) (answer : Result X MessageFault) (read : Result A MessageFault) (a : A)
    → read ≡ Ok a → Gives view answer read → Gives view answer (Ok a)
answer_only view answer read a is gives = subst (Gives view answer) is gives

failed_as : {A : Type 0} (fault : MessageFault) (read : Result A MessageFault) → Fails fault read → is_no_memory fault ≡ false → read ≡ Err fault
failed_as NoMemory read is other = absurd cc
failed_as fault read is other = is

-- ---- requests

-- Bytes are read as questions just where they spell an item that asks them.
pub batch_read-law : (bytes : List ℕ) → IsBytes bytes → Reads (batch_read bytes) (λ b. (n : Node) × Spells n bytes × IsBatch b n)
unfolding batch_read
batch_read-law bytes octets = reads-bind _ _ _ _ (whole-law bytes octets) (λ n. batch-law n)

pub batch_read-complete : (bytes : List ℕ) (b : Batch) (n : Node) → Spells n bytes → IsBatch b n → batch_read bytes ≡ Ok b
unfolding batch_read
batch_read-complete bytes b n spells is = ap (λ m. m >>= batch_at) (whole-complete bytes n spells) ∙ (batch-law n).complete b is

-- The written form of some requests is read as them.
pub requests_read : (rs : List Request) → IsTrue (requests_fit rs) → IsInRange (requests_item rs) → batch_read (canon (requests_item rs)) ≡ Ok (batch_of rs)
requests_read rs fit in_range =
    let writable = requests_writable rs fit in
    batch_read-complete (canon (requests_item rs)) (batch_of rs) (requests_item rs)
    (canon_spells (requests_item rs) (in_range, writable.1, writable.2)) (requests_written rs fit)

-- the questions of each item are in their ranges
questions_fit : (cs : List Content) (qs : List Question) → SayEach IsQuestion cs qs → All QuestionFits qs
questions_fit [] [] says = All-nil QuestionFits
questions_fit [] (q ∷ rest) says = absurd says
questions_fit (c ∷ cs) [] says = absurd says
questions_fit (c ∷ cs) (q ∷ rest) says =
    All-cons QuestionFits q rest (question_in_range says.0.0 q says.0.2, refusal_in_range says.0.0 q says.0.2) (questions_fit cs rest says.1)

item_read : {A : Type 0} (m : Result Node MessageFault) (at : Node → Result A MessageFault) (a : A) → (m >>= at) ≡ Ok a → (n : Node) × (at n ≡ Ok a)
item_read (Ok n) at a e = (n, e)
item_read (Err fault) at a e = absurd cc

pub batch_fits : (bytes : List ℕ) (b : Batch) → batch_read bytes ≡ Ok b → All QuestionFits b.items
unfolding batch_read
batch_fits bytes b e =
    let found = item_read (item_in bytes) batch_at b e in
    let is = (batch-law found.0).sound b found.1 in
    questions_fit (contents TAG_BATCH_ITEM is.message) b.items is.questions

batch_few : (bytes : List ℕ) (b : Batch) → batch_read bytes ≡ Ok b → IsTrue (may_have (length b.items))
unfolding batch_read
batch_few bytes b e =
    let found = item_read (item_in bytes) batch_at b e in
    ((batch-law found.0).sound b found.1).within

few_of : (read : Result Batch MessageFault) → ((b : Batch) → read ≡ Ok b → IsTrue (may_have (length b.items))) → IsTrue (may_have (length (parts_of read)))
few_of (Ok b) h = h b refl
few_of (Err fault) h = refl

fit_of : (read : Result Batch MessageFault) → ((b : Batch) → read ≡ Ok b → All QuestionFits b.items) → All QuestionFits (parts_of read)
fit_of (Ok b) h = h b refl
fit_of (Err fault) h = All-cons QuestionFits (Err (refusal_of fault)) [] (tt, refl) (All-nil QuestionFits)

-- any bytes have one to eight questions, each in its ranges
pub parts_are_few : (bytes : List ℕ) → IsTrue (may_have (length (parts_in bytes)))
unfolding parts_in
parts_are_few bytes = few_of (batch_read bytes) (batch_few bytes)

pub parts_fit : (bytes : List ℕ) → All QuestionFits (parts_in bytes)
unfolding parts_in
parts_fit bytes = fit_of (batch_read bytes) (batch_fits bytes)

pub requests_of_parts : (bytes : List ℕ) → requests_in bytes ≡ filter_map result_ok (parts_in bytes)
unfolding requests_in
requests_of_parts bytes = refl

-- what a reader of requests gave
pub given_fits : (bytes : List ℕ) (answer : Result Batch MessageFault) → Gives (λ b. b) answer (batch_read bytes) → IfOk answer (λ b. All QuestionFits b.items)
given_fits bytes (Ok b) gives = batch_fits bytes b gives
given_fits bytes (Err fault) gives = tt

pub given_asks : (bytes : List ℕ) (answer : Result Batch MessageFault) → Gives (λ b. b) answer (batch_read bytes)
    → IfOk answer (λ b. (parts_in bytes ≡ b.items) × (stops_in bytes ≡ stops_with b.option))
unfolding parts_in stops_in
given_asks bytes (Ok b) gives = (ap parts_of gives, ap stops_of gives)
given_asks bytes (Err fault) gives = tt

pub given_refused : (bytes : List ℕ) (answer : Result Batch MessageFault) → Gives (λ b. b) answer (batch_read bytes)
    → IfErr answer (λ fault. is_no_memory fault ≡ false → (parts_in bytes ≡ Err (refusal_of fault) ∷ []) × (stops_in bytes ≡ true))
unfolding parts_in stops_in
given_refused bytes (Ok b) gives = tt
given_refused bytes (Err fault) gives = λ other.
    let is = failed_as fault (batch_read bytes) gives other in
    (ap parts_of is, ap stops_of is)

-- ---- what requests ask

none_refused : (rs : List Request) → filter_map result_ok (map (ok Refusal Request) rs) ≡ rs
none_refused [] = refl
none_refused (r ∷ rest) = ap (λ all. r ∷ all) (none_refused rest)

-- the bytes of an item that is the requests', behind none
written_read : (rs : List Request) (item : Node) (front bytes : List ℕ) → IsTrue (requests_fit rs) → item ≡ requests_item rs → IsInRange item → front ≡ []
    → bytes ≡ front ++ canon item → batch_read bytes ≡ Ok (batch_of rs)
written_read rs item front bytes fit is in_range none out =
    ap batch_read (out ∙ ap (λ x. x ++ canon item) none ∙ ap canon is) ∙ requests_read rs fit (subst IsInRange is in_range)

pub written_parts : (rs : List Request) (item : Node) (front bytes : List ℕ) → IsTrue (requests_fit rs) → item ≡ requests_item rs → IsInRange item → front ≡ []
    → bytes ≡ front ++ canon item → parts_in bytes ≡ map Ok rs
unfolding parts_in
written_parts rs item front bytes fit is in_range none out = ap parts_of (written_read rs item front bytes fit is in_range none out)

stops_by : (b : Bool) → stops_with (if b then Some CONTINUE else None) ≡ not b
stops_by true = refl
stops_by false = refl

pub written_stops : (rs : List Request) (item : Node) (front bytes : List ℕ) → IsTrue (requests_fit rs) → item ≡ requests_item rs → IsInRange item → front ≡ []
    → bytes ≡ front ++ canon item → stops_in bytes ≡ not (nat_le 2 (length rs))
unfolding stops_in
written_stops rs item front bytes fit is in_range none out =
    ap stops_of (written_read rs item front bytes fit is in_range none out) ∙ stops_by (nat_le 2 (length rs))

pub written_asks : (rs : List Request) (item : Node) (front bytes : List ℕ) → IsTrue (requests_fit rs) → item ≡ requests_item rs → IsInRange item → front ≡ []
    → bytes ≡ front ++ canon item → requests_in bytes ≡ rs
unfolding requests_in
written_asks rs item front bytes fit is in_range none out =
    ap (filter_map result_ok) (written_parts rs item front bytes fit is in_range none out) ∙ none_refused rs

-- ---- replies

-- Bytes are read as replies just where they spell an item that gives them.
pub replies_read-law : (bytes : List ℕ) → IsBytes bytes → Reads (replies_read bytes) (λ rs. (n : Node) × Spells n bytes × AreReplies rs n)
unfolding replies_read
replies_read-law bytes octets = reads-bind _ _ _ _ (whole-law bytes octets) (λ n. replies-law n)

pub replies_read-complete : (bytes : List ℕ) (rs : List Reply) (n : Node) → Spells n bytes → AreReplies rs n → replies_read bytes ≡ Ok rs
unfolding replies_read
replies_read-complete bytes rs n spells is = ap (λ m. m >>= replies_at) (whole-complete bytes n spells) ∙ (replies-law n).complete rs is

-- The written form of some replies, at any time, is read as them.
pub replies_again : (rs : List Reply) (now : ℤ) → IsTrue (replies_fit rs) → IsInRange (replies_item rs now) → replies_read (canon (replies_item rs now)) ≡ Ok rs
replies_again rs now fit in_range =
    let parts = replies_fit_parts rs fit in
    let writable = replies_writable rs now parts.2 in
    replies_read-complete (canon (replies_item rs now)) rs (replies_item rs now)
    (canon_spells (replies_item rs now) (in_range, writable.1, writable.2)) (replies_written rs now parts.0 parts.1)

answers_fit : (cs : List Content) (rs : List Reply) → SayEach IsAnswer cs rs → All (λ r. IsTrue (answer_fits r)) rs
answers_fit [] [] says = All-nil (λ r. IsTrue (answer_fits r))
answers_fit [] (r ∷ rest) says = absurd says
answers_fit (c ∷ cs) [] says = absurd says
answers_fit (c ∷ cs) (r ∷ rest) says =
    All-cons (λ r. IsTrue (answer_fits r)) r rest (answer_in_range says.0.0 r says.0.2) (answers_fit cs rest says.1)

pub replies_in_range : (bytes : List ℕ) (rs : List Reply) → replies_read bytes ≡ Ok rs → All (λ r. IsTrue (answer_fits r)) rs
unfolding replies_read
replies_in_range bytes rs e =
    let found = item_read (item_in bytes) replies_at rs e in
    let is = (replies-law found.0).sound rs found.1 in
    answers_fit (contents TAG_BATCH_ITEM is.message) rs is.answers

-- what a reader of replies gave, seen as a list
pub replies_fit_given : {X : Type 0} (view : X → List Reply) (bytes : List ℕ) (answer : Result X MessageFault) → Gives view answer (replies_read bytes)
    → IfOk answer (λ x. All (λ r. IsTrue (answer_fits r)) (view x))
replies_fit_given view bytes (Ok x) gives = replies_in_range bytes (view x) gives
replies_fit_given view bytes (Err fault) gives = tt

pub given_says : {X : Type 0} (view : X → List Reply) (bytes : List ℕ) (answer : Result X MessageFault) → Gives view answer (replies_read bytes)
    → IfOk answer (λ x. replies_in bytes ≡ view x)
unfolding replies_in
given_says view bytes (Ok x) gives = ap replies_of gives
given_says view bytes (Err fault) gives = tt

pub given_nothing : {X : Type 0} (view : X → List Reply) (bytes : List ℕ) (answer : Result X MessageFault) → Gives view answer (replies_read bytes)
    → IfErr answer (λ fault. is_no_memory fault ≡ false → replies_in bytes ≡ [])
unfolding replies_in
given_nothing view bytes (Ok x) gives = tt
given_nothing view bytes (Err fault) gives = λ other. ap replies_of (failed_as fault (replies_read bytes) gives other)

read_so : (read : Result (List Reply) MessageFault) (reply : Reply) (replies : List Reply) → replies_of read ≡ reply ∷ replies → read ≡ Ok (reply ∷ replies)
read_so (Ok rs) reply replies is = ap (λ all. Ok all) is
read_so (Err fault) reply replies is = absurd cc

pub read_is_said : ReadAreSaid
unfolding replies_in
read_is_said bytes replies is = ap replies_of is

pub said_is_read : SaidAreRead
unfolding replies_in
said_is_read bytes reply replies is = read_so (replies_read bytes) reply replies is

-- the bytes of an item that is the replies', behind none
pub written_says : (rs : List Reply) (now : ℤ) (item : Node) (front bytes : List ℕ) → IsTrue (replies_fit rs) → item ≡ replies_item rs now → IsInRange item
    → front ≡ [] → bytes ≡ front ++ canon item → replies_in bytes ≡ rs
unfolding replies_in
written_says rs now item front bytes fit is in_range none out =
    ap replies_of (ap replies_read (out ∙ ap (λ x. x ++ canon item) none ∙ ap canon is) ∙ replies_again rs now fit (subst IsInRange is in_range))
