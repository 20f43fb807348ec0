-- Runs over a calm link settle, whatever they begin with.
use Rattle.std.proofs.Common.{◌≡◌, ◌≢◌, ◌≤◌, ℕ, ◌+◌, List, length, Result, OnOk, sym, subst, ◌∙◌}
use Rattle.std.specs.List.{All}
use Rattle.kmip_plan.specs.Chains.{bound}
use Rattle.kmip_plan.specs.declared.key.Key.{Key}
use Rattle.kmip_progress.specs.declared.known.Known.{Known}
use Rattle.kmip_client.specs.Clients.{ClientState}
use Rattle.kmip_client.specs.Held.{Held, TrueProgress}
use Rattle.kmip_protocol.specs.Past.{Names, Past, is_planned}
use Rattle.kmip_protocol.specs.Seen.{Seen}
use Rattle.kmip_protocol.specs.Sound.{Sound}
use Rattle.kmip_protocol.specs.Needs.{missing}
use Rattle.kmip_protocol.specs.Ready.{IsReady}
use Rattle.kmip_runs.specs.PrivateLawbook.{Lawbook}
use Rattle.kmip_runs.specs.Campaign.{CalmLink}
use Rattle.kmip_runs.specs.PrivateCampaignParts.{HasSettled, IsNoted, Standing}
use Rattle.kmip_runs.specs.Driving.{AsksOne, IsGood, IsSettling, Nearer, need}
use Rattle.kmip_runs.specs.declared.run.Run.{Run}
use Rattle.kmip_runs.specs.declared.run_end.RunEnd.{RunEnd}
use Rattle.kmip_runs.specs.declared.stop.Stop.{Stop}
use Rattle.kmip_runs.specs.declared.stop.Stop.TheVariants as stops
use Rattle.kmip_runs.proofs.CampaignLemmas.{good_with}
use Rattle.kmip_runs.proofs.KnownLemmas.{on_ok}

module _ (keys : List Key) where
  -- a client that knows the truth is ready over a calm link
  settling_from : Lawbook → (b : ClientState) (x : Seen) → b.keys ≡ keys → CalmLink keys x
      → Held x.past.objects b.keys b.knowns
      → IsSettling b x
  settling_from l b x b_keys calmly held = record {
    calm_for = subst (λ ks. x.calm (is_planned ks)) (sym b_keys) calmly.calm_for;
    ready = subst (λ ks. IsReady x.past.room ks x.past.objects b.knowns) (sym b_keys)
        (l.settling.ready keys x.past b.knowns calmly.sound (subst (λ ks. Held x.past.objects ks b.knowns) b_keys held)
        calmly.roomy);
  }

  -- begun, driven, noted and closed
  pub settled_run : {A E : Type 0} → Lawbook
      → (run : Run) (a b c : ClientState) (x y z : Seen) (driven : Stop × ℕ) (ends nexts : List RunEnd)
      (saved : List (List Known)) (closed : Result A E)
      → a.keys ≡ keys → b.keys ≡ keys → c.keys ≡ keys
      → (All (TrueProgress x.past.objects keys) saved → Held x.past.objects a.keys a.knowns
      → Held x.past.objects b.keys b.knowns)
      → (IsGood b x → IsGood c y)
      → (IsSettling b x → bound b.keys ≤ run.limit → driven.0 ≢ stops.NoMemory
      → (driven.0 ≡ stops.AllFinished) × (driven.1 ≤ need b x.past) × (AsksOne b → driven.1 ≡ need b x.past)
      × (driven.1 ≤ bound b.keys))
      → (IsSettling b x → driven.0 ≢ stops.NoMemory → Nearer b c x y driven.1)
      → driven.0 ≢ stops.NoMemory → IsNoted c.keys run c.knowns driven ends nexts
      → ((names : Names) → y.calm names → z.calm names × OnOk closed (z.past ≡ y.past)) → Standing keys a x ends saved
      → CalmLink keys x
      → OnOk closed (HasSettled keys run ends nexts × CalmLink keys z)
  settled_run l run a b c x y z driven ends nexts saved closed a_keys b_keys c_keys begun good settles calms memory
      noted closes standing calmly =
      let held = begun standing.noted.true_saved standing.good.held in
      let after = good (good_with a b x (b_keys ∙ sym a_keys) standing.good held) in
      let settling = settling_from l b x b_keys calmly held in
      let still = (calms settling memory).settling in
      let close = closes (is_planned keys) (subst (λ ks. y.calm (is_planned ks)) c_keys still.calm_for) in
      on_ok closed
      (λ same. (
        record {
          end = noted.end;
          joined = noted.joined;
          settles = λ enough.
              let settled = settles settling (subst (λ ks. bound ks ≤ run.limit) (sym b_keys) enough) memory in (
                noted.stop_is ∙ settled.0,
                subst (λ n. n ≤ bound keys) (sym noted.exchanges_is)
                    (subst (λ ks. driven.1 ≤ bound ks) b_keys settled.3),
              );
        },
        record {
          calm_for = close.0;
          sound = subst (λ p. Sound keys p) (sym same) (subst (λ ks. Sound ks y.past) c_keys after.sound);
          roomy = subst (λ (p : Past). length p.objects + missing keys p.objects ≤ p.room) (sym same)
              (subst (λ ks. length y.past.objects + missing ks y.past.objects ≤ y.past.room) c_keys still.ready.roomy);
        },
      ))
      close.1
