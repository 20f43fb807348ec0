-- Events at different places.
use Rattle.std.proofs.Common.{◌≡◌, ◌≢◌, ◌<◌, ◌+◌, ◌++◌, ◌∷◌, ◌∙◌, [], ap, arith, drop, List, None, Option, refl, slice_get, slice_set, Some, subst, suc, sym, take, zero, ℕ}
use Rattle.std.specs.List.{All, Contains}
use Rattle.std.specs.Option.{option_map_or}
use Rattle.std.proofs.lemmas.List.Elements.{All-head, All-tail, All-weaker, Contains-append_left}
use Rattle.kmip_client.specs.Asking.{after_ask}
use Rattle.kmip_client.specs.Clients.{ClientState, fresh, lost_at}
use Rattle.kmip_client.specs.Known.{heard}
use Rattle.kmip_client.specs.Saving.{progress, resume}
use Rattle.kmip_client.specs.Verdicts.{counts_of}
use Rattle.kmip_messages.specs.Items.{replies_in}
use Rattle.kmip_plan.specs.declared.key.Key.{Key}
use Rattle.kmip_protocol.specs.Exchanges.{AreGiven, with_asked}
use Rattle.kmip_protocol.specs.Moves.{Changes, Comes, Move, Refuse, Serve, Unanswered, after_move}
use Rattle.kmip_protocol.specs.Past.{Past}
use Rattle.kmip_runs.specs.Headline.{reported_by}
use Rattle.kmip_company.specs.Apart.{IsApartFrom, IsLessonAt, SparesClientAt}
use Rattle.kmip_company.specs.Companies.{AllMayOccur, Asks, Company, Event, Happens, Hears, Leaves, Loses, MayAskNext, MayOccur, Reports, Resumes, Saves, SetsBatch, Starts, after_event, after_events, if_there, with_client}
use Rattle.kmip_company.proofs.EventLemmas.{there}

-- ---- lists

-- the element at a place, changed
abbrev changed : {X : Type 0} → ℕ → (X → X) → List X → List X
changed place f [] = []
changed zero f (x ∷ xs) = f x ∷ xs
changed (suc place) f (x ∷ xs) = x ∷ changed place f xs

-- what another place has
found_changed : {X : Type 0} (place other : ℕ) (f : X → X) (xs : List X) → other ≢ place → slice_get (changed place f xs) other ≡ slice_get xs other
found_changed place other f [] apart = refl
found_changed zero zero f (x ∷ xs) apart = absurd (apart refl)
found_changed zero (suc other) f (x ∷ xs) apart = refl
found_changed (suc place) zero f (x ∷ xs) apart = refl
found_changed (suc place) (suc other) f (x ∷ xs) apart = found_changed place other f xs (λ same. apart (ap (λ n. suc n) same))

found_set_elsewhere : {X : Type 0} (xs : List X) (other place : ℕ) (y : X) → other ≢ place → slice_get (slice_set xs other y) place ≡ slice_get xs place
found_set_elsewhere [] other place y apart = refl
found_set_elsewhere (x ∷ xs) zero zero y apart = absurd (apart refl)
found_set_elsewhere (x ∷ xs) zero (suc place) y apart = refl
found_set_elsewhere (x ∷ xs) (suc other) zero y apart = refl
found_set_elsewhere (x ∷ xs) (suc other) (suc place) y apart = found_set_elsewhere xs other place y (λ same. apart (ap (λ n. suc n) same))

changed_set : {X : Type 0} (place other : ℕ) (f : X → X) (xs : List X) (y : X) → other ≢ place
    → changed place f (slice_set xs other y) ≡ slice_set (changed place f xs) other y
changed_set place other f [] y apart = refl
changed_set zero zero f (x ∷ xs) y apart = absurd (apart refl)
changed_set zero (suc other) f (x ∷ xs) y apart = refl
changed_set (suc place) zero f (x ∷ xs) y apart = refl
changed_set (suc place) (suc other) f (x ∷ xs) y apart = ap (λ rest. x ∷ rest) (changed_set place other f xs y (λ same. apart (ap (λ n. suc n) same)))

found_before : {X : Type 0} (xs ys : List X) (place other : ℕ) (x : X) → place < other → slice_get xs place ≡ Some x → slice_get (take other xs ++ ys) place ≡ Some x
found_before [] ys place other x before is = absurd cc
found_before (z ∷ xs) ys zero zero x before is = absurd (omega arith)
found_before (z ∷ xs) ys zero (suc other) x before is = is
found_before (z ∷ xs) ys (suc place) zero x before is = absurd (omega arith)
found_before (z ∷ xs) ys (suc place) (suc other) x before is = found_before xs ys place other x (omega arith) is

found_joined : {X : Type 0} (xs ys : List X) (place : ℕ) (x : X) → slice_get xs place ≡ Some x → slice_get (xs ++ ys) place ≡ Some x
found_joined [] ys place x is = absurd cc
found_joined (z ∷ xs) ys zero x is = is
found_joined (z ∷ xs) ys (suc place) x is = found_joined xs ys place x is

-- ---- who is spared

spared_once : (keys : List Key) (w : Company) (event : Event) (place : ℕ) (c : ClientState) → slice_get w.clients place ≡ Some c → SparesClientAt place event
    → slice_get (after_event keys event w).clients place ≡ Some c
spared_once keys w Starts place c is spares = found_joined w.clients (fresh keys ∷ []) place c is
spared_once keys w (Resumes number) place c is spares =
    there (λ v. slice_get v.clients place ≡ Some c) (slice_get w.saved number) _ w is (λ saved at. found_joined w.clients (resume keys saved ∷ []) place c is)
spared_once keys w (SetsBatch other most) place c is spares =
    there (λ v. slice_get v.clients place ≡ Some c) (slice_get w.clients other) _ w is (λ d at. found_set_elsewhere w.clients other place _ spares ∙ is)
spared_once keys w (Asks other question) place c is spares =
    there (λ v. slice_get v.clients place ≡ Some c) (slice_get w.clients other) _ w is (λ d at. found_set_elsewhere w.clients other place _ spares ∙ is)
spared_once keys w (Happens move) place c is spares = is
spared_once keys w (Hears other bytes) place c is spares =
    there (λ v. slice_get v.clients place ≡ Some c) (slice_get w.clients other) _ w is (λ d at. found_set_elsewhere w.clients other place _ spares ∙ is)
spared_once keys w (Loses other key) place c is spares =
    there (λ v. slice_get v.clients place ≡ Some c) (slice_get w.clients other) _ w is (λ d at. found_set_elsewhere w.clients other place _ spares ∙ is)
spared_once keys w (Saves other) place c is spares =
    there (λ v. slice_get v.clients place ≡ Some c) (slice_get w.clients other) _ w is (λ d at. is)
spared_once keys w (Reports other) place c is spares =
    there (λ v. slice_get v.clients place ≡ Some c) (slice_get w.clients other) _ w is (λ d at. is)
spared_once keys w (Leaves other) place c is spares = found_before w.clients (drop (other + 1) w.clients) place other c spares is

pub spared : (keys : List Key) (w : Company) (events : List Event) (place : ℕ) (c : ClientState) → slice_get w.clients place ≡ Some c
    → All (SparesClientAt place) events → slice_get (after_events keys events w).clients place ≡ Some c
spared keys w [] place c is all = is
spared keys w (event ∷ events) place c is all =
    spared keys (after_event keys event w) events place c
    (spared_once keys w event place c is (All-head (SparesClientAt place) event events all)) (All-tail (SparesClientAt place) event events all)

-- ---- what a client learns

-- the company with another state of the client at a place, if there is one
abbrev learnt : ℕ → (ClientState → ClientState) → Company → Company
learnt place f w = record w { clients = changed place f w.clients }

-- what a lesson makes of its client
abbrev taken : Event → ClientState → ClientState
taken (SetsBatch place most) c = record c { batch = most }
taken (Hears place bytes) c = record c { knowns = heard c.keys c.knowns (Some bytes) }
taken (Loses place key) c = lost_at c key
taken event c = c

or_kept : {X Y : Type 0} (x : X) (xs : List X) (g : Y → List X) (found : Option Y) → option_map_or (λ y. x ∷ g y) found (x ∷ xs) ≡ x ∷ option_map_or g found xs
or_kept x xs g None = refl
or_kept x xs g (Some y) = refl

set_or_kept : {X : Type 0} (f : X → X) (xs : List X) (place : ℕ) → option_map_or (λ x. slice_set xs place (f x)) (slice_get xs place) xs ≡ changed place f xs
set_or_kept f [] place = refl
set_or_kept f (x ∷ xs) zero = refl
set_or_kept f (x ∷ xs) (suc place) =
    or_kept x xs (λ y. slice_set xs place (f y)) (slice_get xs place) ∙ ap (λ rest. x ∷ rest) (set_or_kept f xs place)

there_or_kept : (place : ℕ) (f : ClientState → ClientState) (w : Company) (found : Option ClientState)
    → if_there found (λ c. with_client place (f c) w) w ≡ record w { clients = option_map_or (λ c. slice_set w.clients place (f c)) found w.clients }
there_or_kept place f w None = refl
there_or_kept place f w (Some c) = refl

there_learnt : (place other : ℕ) (f : ClientState → ClientState) (w : Company) → other ≡ place
    → if_there (slice_get w.clients other) (λ c. with_client other (f c) w) w ≡ learnt place f w
there_learnt place other f w same =
    there_or_kept other f w (slice_get w.clients other) ∙ ap (λ clients. record w { clients = clients }) (set_or_kept f w.clients other)
    ∙ ap (λ n. learnt n f w) same

lesson_learnt : (keys : List Key) (w : Company) (place : ℕ) (lesson : Event) → IsLessonAt place lesson → after_event keys lesson w ≡ learnt place (taken lesson) w
lesson_learnt keys w place (SetsBatch other most) is = there_learnt place other (taken (SetsBatch other most)) w is
lesson_learnt keys w place (Hears other bytes) is = there_learnt place other (taken (Hears other bytes)) w is
lesson_learnt keys w place (Loses other key) is = there_learnt place other (taken (Loses other key)) w is
lesson_learnt keys w place Starts is = absurd is
lesson_learnt keys w place (Resumes number) is = absurd is
lesson_learnt keys w place (Asks other question) is = absurd is
lesson_learnt keys w place (Happens move) is = absurd is
lesson_learnt keys w place (Saves other) is = absurd is
lesson_learnt keys w place (Reports other) is = absurd is
lesson_learnt keys w place (Leaves other) is = absurd is

-- ---- in the other order

swapped_if : (place : ℕ) (f : ClientState → ClientState) (act : ClientState → Company → Company) (w : Company) (found : Option ClientState)
    → ((c : ClientState) (v : Company) → act c (learnt place f v) ≡ learnt place f (act c v))
    → if_there found (λ c. act c (learnt place f w)) (learnt place f w) ≡ learnt place f (if_there found (λ c. act c w) w)
swapped_if place f act w None each = refl
swapped_if place f act w (Some c) each = each c w

swapped_there : (place other : ℕ) (f : ClientState → ClientState) (act : ClientState → Company → Company) (w : Company) → other ≢ place
    → ((c : ClientState) (v : Company) → act c (learnt place f v) ≡ learnt place f (act c v))
    → if_there (slice_get (changed place f w.clients) other) (λ c. act c (learnt place f w)) (learnt place f w)
    ≡ learnt place f (if_there (slice_get w.clients other) (λ c. act c w) w)
swapped_there place other f act w apart each =
    ap (λ found. if_there found (λ c. act c (learnt place f w)) (learnt place f w)) (found_changed place other f w.clients apart)
    ∙ swapped_if place f act w (slice_get w.clients other) each

swapped : (keys : List Key) (w : Company) (place : ℕ) (f : ClientState → ClientState) (event : Event) → IsApartFrom place event
    → after_event keys event (learnt place f w) ≡ learnt place f (after_event keys event w)
swapped keys w place f (SetsBatch other most) apart =
    swapped_there place other f (λ c v. with_client other (record c { batch = most }) v) w apart
    (λ c v. ap (λ clients. record v { clients = clients }) (sym (changed_set place other f v.clients _ apart)))
swapped keys w place f (Asks other question) apart =
    swapped_there place other f (λ c v. with_client other (after_ask c) (record v { past = with_asked question.bytes v.past })) w apart
    (λ c v. ap (λ clients. record v { past = with_asked question.bytes v.past; clients = clients }) (sym (changed_set place other f v.clients _ apart)))
swapped keys w place f (Hears other bytes) apart =
    swapped_there place other f (λ c v. with_client other (record c { knowns = heard c.keys c.knowns (Some bytes) }) v) w apart
    (λ c v. ap (λ clients. record v { clients = clients }) (sym (changed_set place other f v.clients _ apart)))
swapped keys w place f (Loses other key) apart =
    swapped_there place other f (λ c v. with_client other (lost_at c key) v) w apart
    (λ c v. ap (λ clients. record v { clients = clients }) (sym (changed_set place other f v.clients _ apart)))
swapped keys w place f (Saves other) apart =
    swapped_there place other f (λ c v. record v { saved = v.saved ++ progress c ∷ [] }) w apart (λ c v. refl)
swapped keys w place f (Reports other) apart =
    swapped_there place other f (λ c v. record v { reported = v.reported ++ reported_by keys (counts_of c.knowns) }) w apart (λ c v. refl)
swapped keys w place f (Happens move) apart = refl
swapped keys w place f Starts apart = absurd apart
swapped keys w place f (Resumes number) apart = absurd apart
swapped keys w place f (Leaves other) apart = absurd apart

pub commute : (keys : List Key) (w : Company) (place : ℕ) (lesson event : Event) → IsLessonAt place lesson → IsApartFrom place event
    → after_events keys (lesson ∷ event ∷ []) w ≡ after_events keys (event ∷ lesson ∷ []) w
commute keys w place lesson event is apart =
    ap (after_event keys event) (lesson_learnt keys w place lesson is) ∙ swapped keys w place (taken lesson) event apart
    ∙ sym (lesson_learnt keys (after_event keys event w) place lesson is)

-- ---- what may occur

may_before : (keys : List Key) (w : Company) (place : ℕ) (f : ClientState → ClientState) (event : Event) → IsApartFrom place event
    → MayOccur keys event (learnt place f w) → MayOccur keys event w
may_before keys w place f (Asks other question) apart may = subst (λ found. MayAskNext found question) (found_changed place other f w.clients apart) may
may_before keys w place f (SetsBatch other most) apart may = tt
may_before keys w place f (Hears other bytes) apart may = may
may_before keys w place f (Loses other key) apart may = tt
may_before keys w place f (Saves other) apart may = tt
may_before keys w place f (Reports other) apart may = tt
may_before keys w place f (Happens move) apart may = may
may_before keys w place f Starts apart may = tt
may_before keys w place f (Resumes number) apart may = tt
may_before keys w place f (Leaves other) apart may = tt

-- what was given stays given
given_moved : (move : Move) (p : Past) (bytes : List ℕ) → AreGiven p bytes → AreGiven (after_move move p) bytes
given_moved (Serve request reply objects joined) p bytes given =
    All-weaker (Contains p.replies) (Contains (p.replies ++ reply ∷ [])) (λ other. Contains-append_left p.replies (reply ∷ []) other) (replies_in bytes) given
given_moved (Unanswered request reply objects joined) p bytes given = given
given_moved (Refuse reply) p bytes given =
    All-weaker (Contains p.replies) (Contains (p.replies ++ reply ∷ [])) (λ other. Contains-append_left p.replies (reply ∷ []) other) (replies_in bytes) given
given_moved (Comes o) p bytes given = given
given_moved (Changes front old new back) p bytes given = given

given_still : (keys : List Key) (w : Company) (event : Event) (bytes : List ℕ) → AreGiven w.past bytes → AreGiven (after_event keys event w).past bytes
given_still keys w Starts bytes given = given
given_still keys w (Resumes number) bytes given = there (λ v. AreGiven v.past bytes) (slice_get w.saved number) _ w given (λ saved is. given)
given_still keys w (SetsBatch other most) bytes given = there (λ v. AreGiven v.past bytes) (slice_get w.clients other) _ w given (λ c is. given)
given_still keys w (Asks other question) bytes given = there (λ v. AreGiven v.past bytes) (slice_get w.clients other) _ w given (λ c is. given)
given_still keys w (Happens move) bytes given = given_moved move w.past bytes given
given_still keys w (Hears other sent) bytes given = there (λ v. AreGiven v.past bytes) (slice_get w.clients other) _ w given (λ c is. given)
given_still keys w (Loses other key) bytes given = there (λ v. AreGiven v.past bytes) (slice_get w.clients other) _ w given (λ c is. given)
given_still keys w (Saves other) bytes given = there (λ v. AreGiven v.past bytes) (slice_get w.clients other) _ w given (λ c is. given)
given_still keys w (Reports other) bytes given = there (λ v. AreGiven v.past bytes) (slice_get w.clients other) _ w given (λ c is. given)
given_still keys w (Leaves other) bytes given = given

may_after : (keys : List Key) (w : Company) (place : ℕ) (lesson event : Event) → IsLessonAt place lesson → MayOccur keys lesson w
    → MayOccur keys lesson (after_event keys event w)
may_after keys w place (SetsBatch other most) event is may = tt
may_after keys w place (Hears other bytes) event is may = given_still keys w event bytes may
may_after keys w place (Loses other key) event is may = tt
may_after keys w place Starts event is may = absurd is
may_after keys w place (Resumes number) event is may = absurd is
may_after keys w place (Asks other question) event is may = absurd is
may_after keys w place (Happens move) event is may = absurd is
may_after keys w place (Saves other) event is may = absurd is
may_after keys w place (Reports other) event is may = absurd is
may_after keys w place (Leaves other) event is may = absurd is

pub may_come_later : (keys : List Key) (w : Company) (place : ℕ) (lesson event : Event) → IsLessonAt place lesson → IsApartFrom place event
    → AllMayOccur keys (lesson ∷ event ∷ []) w → AllMayOccur keys (event ∷ lesson ∷ []) w
may_come_later keys w place lesson event is apart may = (
  may_before keys w place (taken lesson) event apart (subst (MayOccur keys event) (lesson_learnt keys w place lesson is) may.1.0),
  (may_after keys w place lesson event is may.0, tt),
)
