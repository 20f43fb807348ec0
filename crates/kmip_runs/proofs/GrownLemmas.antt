-- What joins those asked while plans are carried out in turn is of the last of them.
use Rattle.std.proofs.Common.{◌≡◌, ◌∙◌, List, [], ◌∷◌, ◌++◌, Some, ap, refl, subst, sym}
use Rattle.std.proofs.lemmas.List.Elements.{All-weaker}
use Rattle.kmip_batch_items.specs.declared.request.Request.{Request}
use Rattle.kmip_plan.specs.Laws.{OldKeysAreFound}
use Rattle.kmip_plan.specs.Plans.{IsLawful}
use Rattle.kmip_plan.specs.Prolonging.{Prolongs}
use Rattle.kmip_plan.specs.declared.key.Key.{Key}
use Rattle.kmip_progress.specs.declared.known.Known.{Known}
use Rattle.kmip_protocol.specs.Past.{Past}
use Rattle.kmip_protocol.specs.Sound.{IsOfPlan}
use Rattle.kmip_runs.specs.Campaigns.{AreParts, AreProlonged, Premises, last_plan}
use Rattle.kmip_runs.specs.Driving.{TakesNothingBack}
use Rattle.kmip_runs.specs.PrivateLawbook.{Lawbook}
use Rattle.kmip_runs.specs.Remembering.{Notes}
use Rattle.kmip_runs.specs.declared.run.Run.{Run}
use Rattle.kmip_runs.proofs.KnownLemmas.{grown_itself, grown_then}
use Rattle.kmip_runs.proofs.PartLemmas.{last_prolongs}

of_prolonged : OldKeysAreFound → (new old : List Key) (request : Request) → IsLawful new → Prolongs new old
    → IsOfPlan old request → IsOfPlan new request
of_prolonged found new old request lawful prolongs own =
    let far = found new old own.key lawful prolongs own.is_planned in
    record {
      operation = own.operation;
      key = far.0;
      is_planned = far.1;
      id_is = own.id_is ∙ ap (λ name. Some (own.operation ∷ name)) (sym far.2);
    }

grown_over : OldKeysAreFound → (new old : List Key) (x y : Past) → IsLawful new → Prolongs new old
    → TakesNothingBack old x y → TakesNothingBack new x y
grown_over found new old x y lawful prolongs grown = record {
  requests = (
    grown.requests.0,
    grown.requests.1,
    All-weaker (IsOfPlan old) (IsOfPlan new) (λ request. of_prolonged found new old request lawful prolongs)
        grown.requests.0 grown.requests.2,
  );
  sent = grown.sent;
  handed = grown.handed;
}

module _ (l : Lawbook) (premises : Premises) (whole : Type 0) (honest : premises.honest) where
  grown_last : {keys : List Key} (runs : List (List Run)) (saved : List (List Known)) (parts : List Notes)
      (old new : Past) → AreParts [] runs saved parts premises whole old new → TakesNothingBack keys old new
  grown_last {keys = keys} runs saved [] old new are = subst (TakesNothingBack keys old) are.1 (grown_itself old)
  grown_last runs saved (part ∷ parts) old new are = absurd are

  pub parts_grown : (plans : List (List Key)) (runs : List (List Run)) (saved : List (List Known)) (parts : List Notes)
      (old new : Past) → AreProlonged plans → IsLawful (last_plan plans)
      → AreParts plans runs saved parts premises whole old new → TakesNothingBack (last_plan plans) old new
  parts_grown plans runs saved [] old new prolonged lawful are =
      subst (TakesNothingBack (last_plan plans) old) are.1 (grown_itself old)
  parts_grown [] runs saved (part ∷ parts) old new prolonged lawful are = absurd are
  parts_grown (keys ∷ plans) [] saved (part ∷ parts) old new prolonged lawful are = absurd are
  parts_grown (keys ∷ []) (list ∷ runs) saved (part ∷ parts) old new prolonged lawful are =
      grown_then old are.0 new (are.1.known.takes_nothing_back honest)
      (grown_last runs (saved ++ part.saved) parts are.0 new are.2)
  parts_grown (keys ∷ next ∷ plans) (list ∷ runs) saved (part ∷ parts) old new prolonged lawful are =
      grown_then old are.0 new
      (grown_over l.plan.old_found (last_plan (next ∷ plans)) keys old are.0 lawful
      (last_prolongs l (keys ∷ next ∷ plans) 0 keys prolonged refl) (are.1.known.takes_nothing_back honest))
      (parts_grown (next ∷ plans) runs (saved ++ part.saved) parts are.0 new prolonged.1 lawful are.2)
