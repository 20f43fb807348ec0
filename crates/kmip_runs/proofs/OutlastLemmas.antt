-- Runs in turn over a link that goes on losing.
use Rattle.std.proofs.Common.{◌≡◌, ◌≢◌, ℕ, suc, List, [], ◌∷◌, ◌++◌, take, slice_get, Some, sym, subst, refl, ◌∙◌}
use Rattle.std.specs.List.{All}
use Rattle.kmip_plan.specs.declared.key.Key.{Key}
use Rattle.kmip_progress.specs.declared.known.Known.{Known}
use Rattle.kmip_client.specs.Clients.{ClientState}
use Rattle.kmip_client.specs.Held.{Held, TrueProgress}
use Rattle.kmip_protocol.specs.Clean.{AreNoFewer, Disturbances}
use Rattle.kmip_protocol.specs.Past.{is_planned}
use Rattle.kmip_protocol.specs.Seen.{Seen}
use Rattle.kmip_runs.specs.PrivateCampaignParts.{IsNoted, Standing}
use Rattle.kmip_runs.specs.Driving.{IsGood}
use Rattle.kmip_runs.specs.Losing.{AllOutlast, IsEnough, Outlasts}
use Rattle.kmip_runs.specs.Private.{HasOutlasted}
use Rattle.kmip_runs.specs.declared.run.Run.{Run}
use Rattle.kmip_runs.specs.declared.run_end.RunEnd.{RunEnd}
use Rattle.kmip_runs.specs.declared.stop.Stop.{Stop}
use Rattle.kmip_runs.specs.declared.stop.Stop.TheVariants as stops
use Rattle.kmip_runs.proofs.CampaignLemmas.{good_with}
use Rattle.kmip_runs.proofs.OrderLemmas.{one_further}

-- one more run behind all others
outlast_push : (keys : List Key) (runs : List Run) (ends : List RunEnd) (run : Run) (end : RunEnd) (d e f : Disturbances) → AllOutlast keys runs ends d e
    → AreNoFewer e f → Outlasts keys run end e f → AllOutlast keys (runs ++ run ∷ []) (ends ++ end ∷ []) d f
outlast_push keys [] [] run end d e f is counts one = (f, subst (λ x. AreNoFewer x f) is counts, subst (λ x. Outlasts keys run end x f) is one, refl)
outlast_push keys [] (other ∷ ends) run end d e f is counts one = absurd is
outlast_push keys (other ∷ runs) [] run end d e f is counts one = absurd is
outlast_push keys (other ∷ runs) (first ∷ ends) run end d e f is counts one = (is.0, is.1, is.2, outlast_push keys runs ends run end is.0 e f is.3 counts one)

pub outlast_none : (keys : List Key) (runs : List Run) (ends : List RunEnd) (d e : Disturbances) → ends ≡ [] → e ≡ d → AllOutlast keys (take 0 runs) ends d e
outlast_none keys [] ends d e none same = rw none same
outlast_none keys (run ∷ runs) ends d e none same = rw none same

pub outlast_more : (keys : List Key) (runs : List Run) (at : ℕ) (run : Run) (ends nexts : List RunEnd) (d e f : Disturbances) → slice_get runs at ≡ Some run
    → AllOutlast keys (take at runs) ends d e → HasOutlasted keys run ends nexts e f → AllOutlast keys (take (suc at) runs) nexts d f
outlast_more keys runs at run ends nexts d e f is all one =
    subst (λ front. AllOutlast keys front nexts d f) (sym (one_further runs at run is))
    (subst (λ es. AllOutlast keys (take at runs ++ run ∷ []) es d f) (sym one.joined) (outlast_push keys (take at runs) ends run one.end d e f all one.counts one.outlasts))

module _ (keys : List Key) where
  -- begun, driven, noted and closed
  pub outlasted_run : (run : Run) (a b c : ClientState) (x y z : Seen) (driven : Stop × ℕ) (ends nexts : List RunEnd) (saved : List (List Known))
      → a.keys ≡ keys → b.keys ≡ keys → c.keys ≡ keys
      → (All (TrueProgress x.past.objects keys) saved → Held x.past.objects a.keys a.knowns → Held x.past.objects b.keys b.knowns)
      → (IsGood b x → x.honest (is_planned b.keys) → driven.0 ≢ stops.NoMemory → IsEnough b.keys run.limit x.disturbances y.disturbances → driven.0 ≡ stops.AllFinished)
      → driven.0 ≢ stops.NoMemory → IsNoted c.keys run c.knowns driven ends nexts → (z.disturbances ≡ y.disturbances)
      → AreNoFewer x.disturbances y.disturbances → Standing keys a x ends saved → x.honest (is_planned keys) → HasOutlasted keys run ends nexts x.disturbances z.disturbances
  outlasted_run run a b c x y z driven ends nexts saved a_keys b_keys c_keys begun outlasts memory noted same counts standing honest =
      let held = begun standing.noted.true_saved standing.good.held in
      let good = good_with a b x (b_keys ∙ sym a_keys) standing.good held in
      record {
        end = noted.end;
        joined = noted.joined;
        counts = subst (λ d. AreNoFewer x.disturbances d) (sym same) counts;
        outlasts = λ enough.
            noted.stop_is
            ∙ outlasts good (subst (λ ks. x.honest (is_planned ks)) (sym b_keys) honest) memory
            (subst (λ ks. IsEnough ks run.limit x.disturbances y.disturbances) (sym b_keys) (subst (λ d. IsEnough keys run.limit x.disturbances d) same enough));
      }
