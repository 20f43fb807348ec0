-- Runs in turn, client by client, and one run more.
use Rattle.std.proofs.Common.{◌≡◌, ◌≢◌, ◌∙◌, ℕ, List, [], ◌∷◌, ◌++◌, length, suc, slice_get, flat_map, Some, ap, append-nil, refl, subst, sym}
use Rattle.kmip_plan.specs.declared.key.Key.{Key}
use Rattle.kmip_progress.specs.declared.known.Known.{Known}
use Rattle.kmip_client.specs.Clients.{ClientState, fresh}
use Rattle.kmip_protocol.specs.Moves.{Delivered}
use Rattle.kmip_protocol.specs.Past.{Names, Past, is_planned}
use Rattle.kmip_protocol.specs.Seen.{Seen}
use Rattle.kmip_runs.specs.PrivateCampaignParts.{HasEnded}
use Rattle.kmip_runs.specs.Driving.{Keeps}
use Rattle.kmip_runs.specs.Remembering.{Talk, saved_after}
use Rattle.kmip_runs.specs.Turning.{IsLeft, IsTurned, Turns}
use Rattle.kmip_runs.specs.TurnedRuns.{AreTurned, AreTurnedFrom, RunTurned, begin_client}
use Rattle.kmip_runs.specs.Private.{RanTurned}
use Rattle.kmip_runs.specs.declared.campaign_end.CampaignEnd.{CampaignEnd}
use Rattle.kmip_runs.specs.declared.run.Run.{Run}
use Rattle.kmip_runs.specs.declared.run_end.RunEnd.{RunEnd}
use Rattle.kmip_runs.specs.declared.stop.Stop.{Stop}
use Rattle.kmip_runs.specs.declared.stop.Stop.TheVariants as stops
use Rattle.kmip_runs.proofs.KnownLemmas.{delivered_stays, joined}
use Rattle.kmip_runs.proofs.RememberLemmas.{flat_push, saved_behind}

-- the client of the last of some runs, and what was saved after them
abbrev pub last_client : ClientState → List ClientState → ClientState
last_client last [] = last
last_client last (client ∷ clients) = last_client client clients

abbrev pub saved_by : List (List Known) → List Run → List ClientState → List (List Known)
saved_by saved runs [] = saved
saved_by saved [] (client ∷ clients) = saved
saved_by saved (run ∷ runs) (client ∷ clients) = saved_by (saved_after run client.knowns saved) runs clients

last_more : (last : ClientState) (clients : List ClientState) (client : ClientState) → last_client last (clients ++ client ∷ []) ≡ client
last_more last [] client = refl
last_more last (first ∷ clients) client = last_more first clients client

-- as many clients as ends
turned_long : (keys : List Key) (last : ClientState) (saved : List (List Known)) (runs : List Run) (ends : List RunEnd) (talks : List Talk) (clients : List ClientState)
    → AreTurned keys last saved runs ends talks clients → length clients ≡ length ends
turned_long keys last saved runs [] [] [] turned = refl
turned_long keys last saved (run ∷ runs) (end ∷ ends) (talk ∷ talks) (client ∷ clients) turned =
    ap (λ n. suc n) (turned_long keys client (saved_after run client.knowns saved) runs ends talks clients turned.1)
turned_long keys last saved runs ends talks clients turned = absurd turned

saves_more : (saved : List (List Known)) (runs : List Run) (clients : List ClientState) (run : Run) (client : ClientState) → slice_get runs (length clients) ≡ Some run
    → saved_by saved runs (clients ++ client ∷ []) ≡ saved_after run client.knowns (saved_by saved runs clients)
saves_more saved [] clients run client is = absurd cc
saves_more saved (first ∷ runs) [] run client is = let same : first ≡ run = cc in ap (λ (r : Run). saved_after r client.knowns saved) same
saves_more saved (first ∷ runs) (other ∷ clients) run client is = saves_more (saved_after first other.knowns saved) runs clients run client is

-- one more run
turned_push : (keys : List Key) (last : ClientState) (saved : List (List Known)) (runs : List Run) (ends : List RunEnd) (talks : List Talk) (clients : List ClientState)
    (run : Run) (end : RunEnd) (talk : Talk) (client : ClientState) → AreTurned keys last saved runs ends talks clients → slice_get runs (length ends) ≡ Some run
    → RunTurned keys (begin_client keys run (last_client last clients) (saved_by saved runs clients)) client end talk
    → AreTurned keys last saved runs (ends ++ end ∷ []) (talks ++ talk ∷ []) (clients ++ client ∷ [])
turned_push keys last saved [] [] [] [] run end talk client turned is one = absurd cc
turned_push keys last saved (first ∷ runs) [] [] [] run end talk client turned is one =
    let same : run ≡ first = cc in
    (subst (λ (r : Run). RunTurned keys (begin_client keys r last saved) client end talk) same one, tt)
turned_push keys last saved (first ∷ runs) (e ∷ ends) (t ∷ talks) (c ∷ clients) run end talk client turned is one =
    (turned.0, turned_push keys c (saved_after first c.knowns saved) runs ends talks clients run end talk client turned.1 is one)
turned_push keys last saved runs ends talks clients run end talk client turned is one = absurd turned

-- ---- one run

pub left_same : (stop : Stop) (last next : ClientState) → stop ≢ stops.NoMemory → IsLeft stop last next → next ≡ last
left_same stops.AllFinished last next memory left = left
left_same stops.Limit last next memory left = left
left_same stops.Conflict last next memory left = left
left_same stops.NoMemory last next memory left = absurd (memory refl)

module _ (keys : List Key) where
  -- a run is begun, driven, noted and closed
  pub ran_turned : (run : Run) (first b c : ClientState) (x y z : Seen) (driven : Stop × ℕ) (old new : CampaignEnd) → b.keys ≡ keys → b ≡ first → Keeps b c
      → ((names : Names) → x.honest names → y.honest names) → ((names : Names) → y.honest names → z.honest names × Delivered names y.past z.past)
      → driven.0 ≢ stops.NoMemory → IsTurned (x.honest (is_planned b.keys)) driven.0 driven.1 b c x.past y.past → HasEnded c.keys run c.knowns driven old new
      → RanTurned keys first c (x.honest (is_planned keys)) x.past z.past old.runs.items new.runs.items
  ran_turned run first b c x y z driven old new b_keys begun keeps still closes memory turned ended =
      let noted = subst (λ ks. HasEnded ks run c.knowns driven old new) (keeps.keys_stay ∙ b_keys) ended in
      let same : c ≡ turned.last = left_same driven.0 turned.last c memory turned.left in
      let turns = subst (λ s. Turns turned.questions turned.answers b s) (sym same) turned.turns in
      let own : x.honest (is_planned keys) → x.honest (is_planned b.keys) = λ holds. subst (λ ks. x.honest (is_planned ks)) (sym b_keys) holds in
      record {
        end = noted.noted.end;
        talk = record { questions = turned.questions; answers = turned.answers };
        joined = noted.noted.joined;
        turned = record {
          turns = subst (λ s. Turns turned.questions turned.answers s c) begun turns;
          as_many = turned.as_many ∙ sym noted.noted.exchanges_is;
          shows = noted.noted.shows;
        };
        sent_are = λ holds. (delivered_stays (is_planned keys) y.past z.past (closes (is_planned keys) (still (is_planned keys) holds)).1).sent_stays ∙ turned.sent_are (own holds);
        handed_are = λ holds.
            (delivered_stays (is_planned keys) y.past z.past (closes (is_planned keys) (still (is_planned keys) holds)).1).handed_stays
            ∙ turned.handed_are (own holds) memory;
      }

-- ---- several runs

module _ (keys : List Key) (carried : List (List Known)) (runs : List Run) where
  -- the runs so far, whose last client this is
  pub record TurnedSoFar (c : ClientState) (honest : Type 0) (x y : Past) (ends : List RunEnd) (saved : List (List Known)) : Type 0 where
    pub talks : List Talk
    pub clients : List ClientState
    pub turned : AreTurned keys (fresh keys) carried runs ends talks clients
    pub client_is : c ≡ last_client (fresh keys) clients
    pub saved_are : carried ++ saved ≡ saved_by carried runs clients
    pub sent_are : honest → y.sent ≡ x.sent ++ flat_map (λ (talk : Talk). talk.questions) talks
    pub handed_are : honest → y.handed ≡ x.handed ++ flat_map (λ (talk : Talk). talk.answers) talks

  pub none_turned : (c : ClientState) (honest : Type 0) (x : Past) (ends : List RunEnd) (saved : List (List Known)) → c ≡ fresh keys → ends ≡ [] → saved ≡ []
      → TurnedSoFar c honest x x ends saved
  none_turned c honest x ends saved is no_end none_saved =
      rw (no_end, none_saved)
      (record {
        talks = [];
        clients = [];
        turned = tt;
        client_is = is;
        saved_are = append-nil carried;
        sent_are = λ holds. sym (append-nil x.sent);
        handed_are = λ holds. sym (append-nil x.handed);
      })

  pub more_turned : (a b : ClientState) (honest again : Type 0) (x y z : Past) (run : Run) (ends later : List RunEnd) (saved after : List (List Known)) (place : ℕ)
      → slice_get runs place ≡ Some run → length ends ≡ place → (honest → again) → TurnedSoFar a honest x y ends saved
      → RanTurned keys (begin_client keys run a (carried ++ saved)) b again y z ends later → after ≡ saved_after run b.knowns saved
      → TurnedSoFar b honest x z later after
  more_turned a b honest again x y z run ends later saved after place is long still so ran kept =
      let many = turned_long keys (fresh keys) carried runs ends so.talks so.clients so.turned in
      let at = subst (λ n. slice_get runs n ≡ Some run) (sym long) is in
      let at_client = subst (λ n. slice_get runs n ≡ Some run) (sym (many ∙ long)) is in
      let own : begin_client keys run a (carried ++ saved) ≡ begin_client keys run (last_client (fresh keys) so.clients) (saved_by carried runs so.clients) =
      ap (λ last. begin_client keys run last (carried ++ saved)) so.client_is
      ∙ ap (λ all. begin_client keys run (last_client (fresh keys) so.clients) all) so.saved_are in
      subst (λ all. TurnedSoFar b honest x z all after) (sym ran.joined)
      (record {
        talks = so.talks ++ ran.talk ∷ [];
        clients = so.clients ++ b ∷ [];
        turned = turned_push keys (fresh keys) carried runs ends so.talks so.clients run ran.end ran.talk b so.turned at
            (subst (λ first. RunTurned keys first b ran.end ran.talk) own ran.turned);
        client_is = sym (last_more (fresh keys) so.clients b);
        saved_are =
            ap (λ all. carried ++ all) kept ∙ saved_behind run b.knowns carried saved ∙ ap (λ all. saved_after run b.knowns all) so.saved_are ∙ sym (saves_more carried runs so.clients run b at_client);
        sent_are = λ holds.
            joined x.sent y.sent z.sent (flat_map (λ (t : Talk). t.questions) so.talks) ran.talk.questions (so.sent_are holds) (ran.sent_are (still holds))
            ∙ ap (λ all. x.sent ++ all) (flat_push (λ (t : Talk). t.questions) so.talks ran.talk);
        handed_are = λ holds.
            joined x.handed y.handed z.handed (flat_map (λ (t : Talk). t.answers) so.talks) ran.talk.answers (so.handed_are holds) (ran.handed_are (still holds))
            ∙ ap (λ all. x.handed ++ all) (flat_push (λ (t : Talk). t.answers) so.talks ran.talk);
      })

  pub all_turned : (c : ClientState) (honest whole : Type 0) (x y z : Past) (ends later : List RunEnd) (saved : List (List Known)) → later ≡ ends → (whole → y ≡ z)
      → TurnedSoFar c honest x y ends saved → AreTurnedFrom keys carried runs later honest whole x z
  all_turned c honest whole x y z ends later saved same no_more so = record {
    talks = so.talks;
    clients = so.clients;
    turned = subst (λ all. AreTurned keys (fresh keys) carried runs all so.talks so.clients) (sym same) so.turned;
    until = y;
    sent_are = so.sent_are;
    handed_are = so.handed_are;
    no_more = no_more;
  }

-- no run was made
pub nothing_turned : (keys : List Key) (carried : List (List Known)) (runs : List Run) (honest whole : Type 0) (x : Past) (ends : List RunEnd) → ends ≡ []
    → AreTurnedFrom keys carried runs ends honest whole x x
nothing_turned keys carried runs honest whole x ends none =
    rw none
    (record {
      talks = [];
      clients = [];
      turned = tt;
      until = x;
      sent_are = λ holds. sym (append-nil x.sent);
      handed_are = λ holds. sym (append-nil x.handed);
      no_more = λ is. refl;
    })

-- where less is asked for
pub turned_if : (keys : List Key) (carried : List (List Known)) (runs : List Run) (ends : List RunEnd) (honest whole other : Type 0) (old new : Past) → (other → whole)
    → AreTurnedFrom keys carried runs ends honest whole old new → AreTurnedFrom keys carried runs ends honest other old new
turned_if keys carried runs ends honest whole other old new to all =
    record { talks = all.talks; clients = all.clients; turned = all.turned; until = all.until; sent_are = all.sent_are; handed_are = all.handed_are; no_more = λ is. all.no_more (to is) }
